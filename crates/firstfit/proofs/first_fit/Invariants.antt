-- The loop's invariant is `Fitting`: the choices so far are the beginning of first fit.
use Rattle.firstfit.proofs.Fitting.{Fitting}
use Rattle.firstfit.proofs.first_fit.Given as goal

abbrev pub invariant-loop-k : goal.invariant-loop-k
invariant-loop-k l = Fitting l.demands l.affinity l.n l.m l.h l.placement l.loads l.rejected l.k
