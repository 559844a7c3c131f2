-- Whether there is such a task is whether the search finds one.
use borrow.Author.Rules.{rules}
use Rattle.numbers.proofs.FirstLaws.{some_found}
use Rattle.transfer.specs.Tables.{other_byte}
use Rattle.transfer.proofs.filling_test.Goals as goal

pub returns : goal.returns
returns c =
    rw (← some_found _ c.is_some.ensures (c.first-task.ensures (other_byte c.args.f) (λ k x h e. search rules))) c.refuse_if.ensures
