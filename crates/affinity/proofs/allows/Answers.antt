use borrow.Author.Rules.{rules}
use native.Mathlib.Omega.{arith}
use mathlib.Core.Path.{sym, ◌∙◌}
use Rattle.affinity.proofs.PermittedLaws.{core_is, so_allowed, allowed_says, above_eight}
use Rattle.affinity.proofs.allows.Goals as goal

pub returns-then-choice-eq0 : goal.returns-then-choice-eq0
returns-then-choice-eq0 c = sym (so_allowed c.args.byte c.args.choice (λ l. absurd (omega (arith, c.if-choice-eq0.true))))

pub returns-then-choice-gt8 : goal.returns-then-choice-gt8
returns-then-choice-gt8 c =
    sym ((allowed_says c.args.byte c.args.choice).1
    (omega (arith, c.if-choice-gt8.true), above_eight c.args.byte c.args.choice (search rules) c.if-choice-gt8.true))

pub returns : goal.returns
returns c = c.permits.ensures ∙ rw c.from.ensures (core_is c.args.byte c.args.choice (omega (arith, c.if-choice-eq0.false)))
