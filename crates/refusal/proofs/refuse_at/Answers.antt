-- Refused at the place, if there is one.
use Rattle.refusal.proofs.TestLaws.{named_there, named_nowhere}
use Rattle.refusal.proofs.refuse_at.Goals as goal

pub returns-in-Some : goal.returns-in-Some
returns-in-Some g c = λ k named p m. named_there named c.in-Some.is p (λ e. m _ (rw e at c.cause.ensures))

pub returns-in-None : goal.returns-in-None
returns-in-None g c = λ k named p m. named_nowhere k named c.in-None.is p
