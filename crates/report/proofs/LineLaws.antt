-- The last line, piece by piece.
use Prim.Native.Nat.{ℕ, ◌≤◌}
use mathlib.Core.Path.{◌≡◌}
use Rattle.planner.specs.declared.Allocation.{Allocation}
use Rattle.planner.specs.declared.Verdict.{Verdict}
use Rattle.text.specs.Ascii.{ascii}
use Rattle.decimal.specs.Decimal.{field}
use Rattle.text.specs.Shown.{Appended}
use Rattle.text.specs.declared.Text.{Text}
use Rattle.text.proofs.ClipLaws.{append_both, append_within}
use Rattle.report.specs.Output.{verdict_word, summary_line}

pub summary_made : {t a b d r : Text} (plan : Allocation) → Appended t (verdict_word plan.verdict) 7 a
    → Appended a (field plan.rejected) 21 b
    → Appended b (field plan.steps) 21 d
    → Appended d (ascii "\n") 1 r → Appended t (summary_line plan) 50 r
unfolding summary_line
summary_made plan p q u v = append_both (append_both (append_both p q) u) v

-- The word of a verdict.
pub word_made : {t r : Text} {v w : Verdict} {i : ℕ} → v ≡ w → Appended t (verdict_word w) i r → i ≤ 7
    → Appended t (verdict_word v) 7 r
word_made e p h = rw e (append_within 7 p h)
