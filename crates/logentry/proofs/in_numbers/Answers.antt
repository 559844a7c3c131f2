-- The reply is the definition, by the outcome.
use Rattle.logentry.proofs.ReplyLaws.{reply_accepted, reply_refused, place_fits}
use Rattle.logentry.proofs.in_numbers.Goals as goal

pub overflow_cast-result-in-Err : goal.overflow_cast-result-in-Err
overflow_cast-result-in-Err c = record { fits = place_fits c.in-Err.is c.requires c.place.ensures }

pub returns-in-Ok : goal.returns-in-Ok
returns-in-Ok c = reply_accepted c.in-Ok.is

pub returns-in-Err : goal.returns-in-Err
returns-in-Err c = reply_refused c.in-Err.is c.number.ensures c.place.ensures
