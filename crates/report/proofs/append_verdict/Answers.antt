-- A word for each verdict.
use Rattle.report.specs.Output.{verdict_word}
use Rattle.report.proofs.LineLaws.{word_made}
use borrow.Author.Rules.{rules}
use Rattle.report.proofs.append_verdict.Goals as goal

pub append_bytes-requires : goal.append_bytes-requires
unfolding verdict_word
append_bytes-requires c = search rules

pub append_bytes-requires-in-Short : goal.append_bytes-requires-in-Short
unfolding verdict_word
append_bytes-requires-in-Short c = search rules

pub append_bytes-requires-in-Spent : goal.append_bytes-requires-in-Spent
unfolding verdict_word
append_bytes-requires-in-Spent c = search rules

pub append_bytes-requires-in-Refused : goal.append_bytes-requires-in-Refused
unfolding verdict_word
append_bytes-requires-in-Refused c = search rules

pub returns-in-All : goal.returns-in-All
unfolding verdict_word
returns-in-All c = search (rules, word_made)

pub returns-in-Short : goal.returns-in-Short
unfolding verdict_word
returns-in-Short c = search (rules, word_made)

pub returns-in-Spent : goal.returns-in-Spent
unfolding verdict_word
returns-in-Spent c = search (rules, word_made)

pub returns-in-Refused : goal.returns-in-Refused
unfolding verdict_word
returns-in-Refused c = search (rules, word_made)
