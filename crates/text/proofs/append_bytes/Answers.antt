-- Each turn appends the next byte.
use borrow.Author.Rules.{rules}
use Rattle.text.proofs.ClipLaws.{spell_start, spell_next, spell_done}
use Rattle.text.proofs.append_bytes.Goals as goal

pub loop-b-init : goal.loop-b-init
loop-b-init c = search (rules, spell_start)

pub loop-b-preserved : goal.loop-b-preserved
loop-b-preserved c = search (rules, spell_next)

pub returns : goal.returns
returns c = search (rules, spell_done)
