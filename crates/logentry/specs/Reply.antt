-- What C is told of a call on a log.
use Rattle.std.specs.Prelude.{ℕ, ◌≤◌, ◌≡◌, List, ◌↔◌}
use Rattle.refusal.specs.Causes.{number_in, place_in}
use Rattle.refusal.specs.Conditions.{Condition, First}
use Rattle.runs.specs.declared.Logged.{Logged}
use Rattle.logentry.specs.declared.Reply.{Reply}

-- the paper's number and place, 0 and 0 if there is no refusal, and the count
unfoldable pub reply_of : Logged → Reply
reply_of answer = record { number = number_in answer.outcome; place = place_in answer.outcome; count = answer.count }

-- number and place are 0 and 0 exactly if the call is valid, and else those of the first condition that holds
pub record Replies (Valid : Type 0) (conditions : List Condition) (reply : Reply) : Type 0 where
  pub accepted : ((reply.number ≡ 0) × (reply.place ≡ 0)) ↔ Valid
  pub refused : (number place : ℕ) → 1 ≤ number → ((reply.number ≡ number) × (reply.place ≡ place)) ↔ First conditions number place
