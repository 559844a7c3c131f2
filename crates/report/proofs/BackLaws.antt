-- The words of the verdicts are those of the table, and the output is read back.
use Prim.Native.Nat.{ℕ}
use mathlib.Core.Path.{refl, ap}
use mathlib.Core.List.{List, [], ◌∷◌}
use Rattle.decimal.specs.Reader.{Item, number, word}
use Rattle.decimal.proofs.BackLaws.{Part, word_part, field_part, Line, line_ends}
use Rattle.refusal.specs.declared.Cause.{Cause}
use Rattle.taskset.specs.Reading.{task_set_of}
use Rattle.taskset.specs.Table.{Table, Sound}
use Rattle.planner.specs.Plan.{plan_for}
use Rattle.planner.specs.declared.Allocation.{Allocation}
use Rattle.planner.specs.declared.Verdict.{Verdict}
use Rattle.planner.specs.declared.Verdict.TheVariants.{All, Short, Spent, Refused}
use Rattle.listing.proofs.BackLaws.{table_read, printed_read}
use Rattle.report.specs.Output.{verdict_word, summary_line, plan_lines}
use Rattle.report.specs.VerdictTable.{verdict_table, Agrees}
use Rattle.report.specs.Reported.{Reported, PlanLast, PlanReadBack}

pub words_agree : (cause : Cause) → Agrees (verdict_table cause)
unfolding verdict_word
words_agree cause = (refl, refl, (refl, refl, (refl, refl, (refl, refl, tt))))

word_read : (v : Verdict) → Part (verdict_word v) (word (verdict_word v) ∷ [])
unfolding verdict_word
word_read All = word_part (verdict_word All) refl refl refl
word_read Short = word_part (verdict_word Short) refl refl refl
word_read Spent = word_part (verdict_word Spent) refl refl refl
word_read (Refused cause) = word_part (verdict_word (Refused cause)) refl refl refl

module _ (plan : Allocation) where
  -- the last line, where this is the verdict
  abbrev items : Verdict → List Item
  items v = word (verdict_word v) ∷ number plan.rejected ∷ number plan.steps ∷ []

  summary_line_lem : Line (summary_line plan) (items plan.verdict)
  unfolding summary_line
  summary_line_lem = line_ends (field_part plan.steps (field_part plan.rejected (word_read plan.verdict)))

  plan_last : PlanLast plan (items plan.verdict)
  unfolding verdict_word
  plan_last cause = (ap items, (ap items, (ap items, (ap items, tt))))

pub plan_read : {t : Table} → Sound t → {output : List ℕ} → Reported t output → PlanReadBack t output
unfolding plan_lines
plan_read {t} s p =
    let plan = plan_for t.fields 1000000 in
    printed_read s plan.placement (plan_lines (task_set_of t.fields) plan) (PlanLast plan) p
    (λ w. table_read t.fields plan.placement (summary_line_lem plan) w (PlanLast plan) (plan_last plan))
