-- What is stored is a record in the place of another.
use mathlib.Core.Path.{◌∙◌}
use Rattle.logwords.proofs.WordLaws.{stored_holding}
use Rattle.logwords.proofs.WordsLayout.put.Goals as goal

pub returns : goal.returns
returns c = c.put_run.ensures ∙ stored_holding c.args.words.now c.args.k c.args.r c.requires
