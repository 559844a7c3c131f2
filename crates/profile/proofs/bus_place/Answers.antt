-- The place at which the period is found in the list.
use borrow.Author.Rules.{rules}
use Rattle.numbers.proofs.FirstLaws.{number_found}
use Rattle.profile.specs.Periods.{is_entry, bus_place}
use Rattle.profile.proofs.ListLaws.{place_all}
use Rattle.profile.proofs.bus_place.Goals as goal

pub returns : goal.returns
unfolding bus_place is_entry
returns c =
    let place = number_found _ c.unwrap_or.ensures (c.first.ensures (is_entry c.args.period) (λ k x h e. search rules)) in
    record { answer = place; divides = (place_all c.args.period place).1 }
