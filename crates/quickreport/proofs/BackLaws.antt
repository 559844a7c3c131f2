-- The output is read back.
use Prim.Native.Nat.{ℕ}
use mathlib.Core.Path.{◌≡◌, refl}
use mathlib.Core.List.{List, [], ◌∷◌}
use Rattle.text.specs.Ascii.{ascii}
use Rattle.decimal.specs.Reader.{Item, number}
use Rattle.decimal.proofs.BackLaws.{word_part, field_part, Line, line_ends}
use Rattle.taskset.specs.Reading.{task_set_of}
use Rattle.taskset.specs.Table.{Table, Sound}
use Rattle.quick.specs.Quick.{quick_for}
use Rattle.quick.specs.declared.QuickPlan.{QuickPlan}
use Rattle.listing.proofs.BackLaws.{table_read, printed_read}
use Rattle.quickreport.specs.Output.{quick_summary, quick_lines, Reported, quick_word, QuickReadBack}

summary_line_lem : (plan : QuickPlan) → Line (quick_summary plan) (quick_word ∷ number plan.rejected ∷ [])
unfolding quick_summary
summary_line_lem plan = line_ends (field_part plan.rejected (word_part (ascii "quick") refl refl refl))

pub quick_read : {t : Table} → Sound t → {output : List ℕ} → Reported t output → QuickReadBack t output
unfolding quick_lines
quick_read {t} s p =
    let plan = quick_for t.fields in
    let Last : List Item → Type 0 = λ line. line ≡ quick_word ∷ number plan.rejected ∷ [] in
    printed_read s plan.placement (quick_lines (task_set_of t.fields) plan) Last p
    (λ w. table_read t.fields plan.placement (summary_line_lem plan) w Last refl)
