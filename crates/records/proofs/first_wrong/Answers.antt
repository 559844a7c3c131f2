-- The first slot of which the test holds, by its number.
use borrow.Author.Rules.{rules}
use Rattle.numbers.proofs.FirstLaws.{number_found}
use Rattle.edf.specs.Slots.{slot_test, first_slot, cannot_be}
use Rattle.slots.proofs.ReadLaws.{tested}
use Rattle.records.proofs.first_wrong.Goals as goal

pub returns : goal.returns
unfolding first_slot
returns c =
    let test = slot_test (cannot_be c.args.charge) c.args.slots in
    number_found _ c.unwrap_or.ensures (c.first.ensures test (λ k x h e. search (rules, tested)))
