-- The table is read first; its fields are those that the list is tested beside.
use Rattle.newform.proofs.NewLaws.{new_sound}
use Rattle.dependencies.proofs.PromiseLaws.{new-below, order_refused, order_read, order-all}
use borrow.Author.Rules.{rules}
use Rattle.dependencies.proofs.check_dependencies.Goals as goal

pub order_tasks-requires : goal.order_tasks-requires
order_tasks-requires c = (c.read_new-reading.ensures.reads.checked (search rules)).within.sizes.tasks.1

pub returns-in-Err : goal.returns-in-Err
returns-in-Err c =
    let said = order-all (new_sound _) (new-below _) _ (search (rules, order_refused)) in
    record { answer = said.0; decides = said.1.0; promise = said.1.1 }

pub returns-in-Ok : goal.returns-in-Ok
returns-in-Ok c =
    let said = order-all (new_sound _) (new-below _) _ (search (rules, order_read)) in
    record { answer = said.0; decides = said.1.0; promise = said.1.1 }
