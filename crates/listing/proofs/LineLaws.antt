-- The lines that outputs share, piece by piece.
use Prim.Native.Nat.{ℕ, suc, ◌+◌, ◌*◌, ◌≤◌, ◌<◌}
use mathlib.Core.Path.{◌≡◌}
use mathlib.Core.List.{List}
use lib.ListN.{length}
use native.Mathlib.Omega.{arith}
use native.Mathlib.Numerals.{add-one}
use Rattle.numbers.specs.Rows.{entry}
use Rattle.affinity.specs.Permitted.{permitted_count, lowest_permitted}
use Rattle.refusal.specs.Causes.{number_of, place_of}
use Rattle.refusal.specs.declared.Cause.{Cause}
use Rattle.fields.specs.Fields.{period_at, budget_at, affinity_at}
use Rattle.fields.specs.declared.Fields.{Fields}
use Rattle.taskset.specs.declared.TaskSet.{TaskSet}
use Rattle.text.specs.Ascii.{ascii}
use Rattle.decimal.specs.Decimal.{decimal, field}
use Rattle.text.specs.Shown.{Appended}
use Rattle.text.specs.declared.Text.{Text}
use Rattle.text.proofs.ClipLaws.{append-none, append_both, append_within}
use Rattle.listing.specs.Lines.{refusal_line, sizes_line, task_line, task_lines, table_lines}

pub refusal_made : {t a b d r : Text} (cause : Cause) {x y : ℕ} → Appended t (ascii "refused") 7 a
    → x ≡ number_of cause → Appended a (field x) 21 b
    → y ≡ place_of cause → Appended b (field y) 21 d
    → Appended d (ascii "\n") 1 r → Appended t (refusal_line (number_of cause) (place_of cause)) 50 r
unfolding refusal_line
refusal_made cause p e q f s u = append_both (append_both (append_both p (rw e at q)) (rw f at s)) u

pub sizes-made : {t a b d e r : Text} (s : TaskSet) → Appended t (ascii "table") 5 a
    → Appended a (field s.fields.n) 21 b
    → Appended b (field s.fields.m) 21 d
    → Appended d (field s.hyperperiod) 21 e
    → Appended e (ascii "\n") 1 r → Appended t (sizes_line s) 69 r
unfolding sizes_line
sizes-made s p q u v w = append_both (append_both (append_both (append_both p q) u) v) w

pub task_made : {t a b d e g h r : Text} (task period budget core byte : ℕ) {x y : ℕ} → Appended t (decimal task) 20 a
    → Appended a (field period) 21 b
    → Appended b (field budget) 21 d
    → Appended d (field core) 21 e
    → x ≡ permitted_count byte 8 → Appended e (field x) 21 g
    → y ≡ lowest_permitted byte 8 → Appended g (field y) 21 h
    → Appended h (ascii "\n") 1 r → Appended t (task_line task period budget core (permitted_count byte 8) (lowest_permitted byte 8)) 126 r
unfolding task_line
task_made task period budget core byte p q u v e w f z s =
    append_both (append_both (append_both (append_both (append_both (append_both p q) u) v) (rw e at w)) (rw f at z)) s

-- The steps of the loop: the lines of the first k tasks are there.
pub record Written (t : Text) (f : Fields) (cores : List ℕ) (r : Text) (k : ℕ) : Type 0 where
  pub top : k ≤ f.n
  pub few : f.n ≤ 16
  pub is : Appended t (task_lines f cores k) (126 * k) r

pub lines_start : (t : Text) (f : Fields) (cores : List ℕ) → length t.bytes ≡ 2560 → f.n ≤ 16 → Written t f cores t 0
unfolding task_lines
lines_start t f cores l h = record { top = omega arith; few = h; is = append-none t l }

module _ {t : Text} {f : Fields} {cores : List ℕ} {r : Text} {k : ℕ} where
  pub lines_next : {next : Text} → Written t f cores r k → k < f.n
      → Appended r (task_line (k + 1) (period_at f k) (budget_at f k) (entry cores k) (permitted_count (affinity_at f k) 8) (lowest_permitted (affinity_at f k) 8)) 126 next → Written t f cores next (k + 1)
  unfolding task_lines
  lines_next s h p = record {
    top = omega arith;
    few = s.few;
    is = rw add-one (append_within (126 * suc k) (append_both s.is p) (omega arith));
  }

  pub lines_done : Written t f cores r k → f.n ≤ k → Appended t (task_lines f cores f.n) 2016 r
  lines_done s h = let e : k ≡ f.n = omega (arith, s.top) in append_within 2016 (rw e at s.is) (omega (arith, s.few))

-- The first line, and a line for each task.
pub table_made : {t a r : Text} (s : TaskSet) (cores : List ℕ) → Appended t (sizes_line s) 69 a
    → Appended a (task_lines s.fields cores s.fields.n) 2016 r → Appended t (table_lines s cores) 2085 r
unfolding table_lines
table_made s cores p q = append_both p q
