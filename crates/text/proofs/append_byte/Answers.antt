-- A full text stays as it is; any other gets the byte at its end.
use borrow.Author.Rules.{rules}
use Rattle.text.proofs.ClipLaws.{byte_dropped, byte_kept}
use Rattle.text.proofs.append_byte.Goals as goal

pub returns-then-at-ge2560 : goal.returns-then-at-ge2560
returns-then-at-ge2560 c = search (rules, byte_dropped)

pub returns : goal.returns
returns c = search (rules, byte_kept)
