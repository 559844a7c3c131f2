-- The run goes on to its end.
use mathlib.Core.Path.{refl, ◌∙◌}
use native.Mathlib.Omega.{arith}
use lib.ListN.{get_or}
use Rattle.recording.proofs.PassLaws.{lead_hit, lead_miss, lead_done}
use Rattle.recording.proofs.run_end.Goals as goal

pub loop-end-init : goal.loop-end-init
loop-end-init c = refl

pub returns-then-answers-end : goal.returns-then-answers-end
returns-then-answers-end c = let z = lead_miss (get_or c.args.answers.now c.args.at 0) c.args.answers.now c.loop-end.end (omega arith) c.if-answers-end.true in let e = c.loop-end.invariant in omega (arith, z, e)

pub loop-end-preserved : goal.loop-end-preserved
loop-end-preserved c = lead_hit (get_or c.args.answers.now c.args.at 0) c.args.answers.now c.loop-end.end (omega arith) c.if-answers-end.false ∙ c.loop-end.invariant

pub returns : goal.returns
returns c = let z = lead_done (get_or c.args.answers.now c.args.at 0) c.args.answers.now c.loop-end.end (omega arith) in let e = c.loop-end.invariant in omega (arith, z, e)
