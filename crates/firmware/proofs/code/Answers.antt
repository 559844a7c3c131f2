-- Each verdict has its number; a refusal's is at most 118.
use Rattle.firmware.proofs.CallLaws.{code_fits, code_refused}
use borrow.Author.Rules.{rules}
use Rattle.firmware.proofs.code.Goals as goal

pub overflow_add-result : goal.overflow_add-result
overflow_add-result c = search (rules, code_fits)

pub returns-in-Refused : goal.returns-in-Refused
returns-in-Refused c = search (rules, code_refused)
