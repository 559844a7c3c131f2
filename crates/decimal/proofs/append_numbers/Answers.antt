-- A number more each turn.
use Rattle.std.proofs.Common.{rules, refl}
use native.Mathlib.Nat.{le_refl}
use Rattle.decimal.specs.Decimal.{field}
use Rattle.decimal.proofs.JoinLaws.{join_start, join_item, join_done}
use Rattle.decimal.proofs.append_numbers.Goals as goal

pub loop-x-init : goal.loop-x-init
loop-x-init g c = λ f e. join_start _ _ _ _ _ (search rules) refl

pub loop-x-preserved : goal.loop-x-preserved
loop-x-preserved g c = λ f e. search (rules, join_item field f, c.loop-x.invariant f e, e)

pub returns : goal.returns
returns g c = λ f e. join_done _ (c.loop-x.invariant f e) c.loop-x-test.false (le_refl _)
