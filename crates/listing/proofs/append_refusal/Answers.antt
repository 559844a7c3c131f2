-- The word, the number and the place.
use Rattle.listing.proofs.LineLaws.{refusal_made}
use borrow.Author.Rules.{rules}
use Rattle.listing.proofs.append_refusal.Goals as goal

pub returns : goal.returns
returns c = search (rules, refusal_made)
