use Prim.Native.Nat.{ℕ, pred, ◌/◌, ◌%◌, ◌^◌}
use native.Mathlib.Numerals.{add-one}
use mathlib.Core.Path.{sym, ap}
use lib.Dec.{eqb}
use Rattle.affinity.specs.Permitted.{permitted}
use Rattle.affinity.proofs.permits.Goals as goal

pub returns : goal.returns
unfolding permitted
returns c = rw c.from.ensures (ap (λ (i : ℕ). eqb (c.args.byte / 2 ^ pred i % 2) 1) (sym (add-one c.args.below)))
