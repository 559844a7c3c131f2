-- The lines that outputs share are read back.
use Prim.Native.Nat.{ℕ, zero, suc, ◌+◌, ◌≤◌, ◌<◌}
use mathlib.Core.Path.{◌≡◌, refl, sym, ◌∙◌, ap, subst}
use mathlib.Core.List.{List, [], ◌∷◌, ◌++◌, append_assoc, append-nil}
use lib.ListN.{length, get_or, length-append, get_or-append}
use lib.Seq.{get_or_at, get_or-append-add}
use native.Mathlib.Omega.{arith}
use native.Mathlib.Numerals.{add-one}
use Rattle.numbers.specs.Rows.{tab, entry}
use Rattle.numbers.proofs.RowLaws.{length-tab, get_or-tab}
use Rattle.text.specs.Ascii.{ascii}
use Rattle.decimal.specs.Reader.{Item, number, read_text, pieces, item, nothing}
use Rattle.decimal.proofs.BackLaws.{word_part, number_part, field_part, Line, line_ends}
use Rattle.affinity.specs.Permitted.{permitted_count, lowest_permitted}
use Rattle.affinity.proofs.PermittedLaws.{count_within, lowest_within}
use Rattle.fields.specs.Fields.{period_at, budget_at, affinity_at}
use Rattle.fields.specs.Hyperperiod.{hyperperiod_of}
use Rattle.fields.specs.Limits.{Within}
use Rattle.taskset.specs.Reading.{task_set_of}
use Rattle.taskset.specs.Table.{Table, Sound}
use Rattle.fields.specs.declared.Fields.{Fields}
use Rattle.taskset.specs.declared.TaskSet.{TaskSet}
use Rattle.listing.specs.Lines.{refusal_line, sizes_line, task_line, task_lines, table_lines}
use Rattle.listing.specs.Printed.{Printed}
use Rattle.listing.specs.ReadBack.{table_word, refused_word, line_at, TaskRead, TableRead, RefusalRead, OutputRead}

-- ---- one line

refusal_line_lem : (value place : ℕ) → Line (refusal_line value place) (refused_word ∷ number value ∷ number place ∷ [])
unfolding refusal_line
refusal_line_lem value place =
    line_ends (field_part place (field_part value (word_part (ascii "refused") refl refl refl)))

sizes-line : (t : TaskSet) → Line (sizes_line t) (table_word ∷ number t.fields.n ∷ number t.fields.m ∷ number t.hyperperiod ∷ [])
unfolding sizes_line
sizes-line t =
    line_ends (field_part t.hyperperiod (field_part t.fields.m (field_part t.fields.n (word_part (ascii "table") refl refl refl))))

task_line_lem : (task period budget core count lowest : ℕ)
    → Line (task_line task period budget core count lowest) (number task ∷ number period ∷ number budget ∷ number core ∷ number count ∷ number lowest ∷ [])
unfolding task_line
task_line_lem task period budget core count lowest =
    line_ends (field_part lowest (field_part count (field_part core (field_part budget (field_part period (number_part task))))))

-- ---- the lines of the tasks

-- the items of the task at k
abbrev task_items : Fields → List ℕ → ℕ → List Item
task_items f cores k =
    number (k + 1)
    ∷ number (period_at f k)
    ∷ number (budget_at f k)
    ∷ number (entry cores k)
    ∷ number (permitted_count (affinity_at f k) 8)
    ∷ number (lowest_permitted (affinity_at f k) 8)
    ∷ []

tab_last : {A : Type 0} (w : ℕ) (f : ℕ → A) → tab (suc w) f ≡ tab w f ++ f w ∷ []
unfolding tab
tab_last zero f = refl
tab_last (suc w) f = ap (λ l. f 0 ∷ l) (tab_last w (λ k. f (suc k)))

tasks_read : (f : Fields) (cores : List ℕ) (k : ℕ) (rest : List ℕ) → read_text (task_lines f cores k ++ rest) ≡ tab k (task_items f cores) ++ read_text rest
unfolding task_lines tab
tasks_read f cores zero rest = refl
tasks_read f cores (suc k) rest =
    ap read_text (append_assoc (task_lines f cores k) _ rest)
    ∙ tasks_read f cores k _
    ∙ ap (λ l. tab k (task_items f cores) ++ l) ((task_line_lem _ _ _ _ _ _).read rest)
    ∙ sym (append_assoc (tab k (task_items f cores)) (task_items f cores k ∷ []) (read_text rest))
    ∙ ap (λ l. l ++ read_text rest) (sym (tab_last k (task_items f cores)))

-- a valid task's line in plain words
task_read : (f : Fields) (cores : List ℕ) → Within f → (k : ℕ) → k < f.n → TaskRead f cores k (task_items f cores k)
unfolding permitted_count
task_read f cores w k h =
    let byte = w.affinities k h in
    let few : f.m ≤ 8 = omega (arith, w.sizes.cores.1) in (
      lowest_permitted (affinity_at f k) 8,
      lowest_within f.m (affinity_at f k) 8 few byte,
      ap (λ x. number (k + 1) ∷ number (period_at f k) ∷ number (budget_at f k) ∷ number (entry cores k) ∷ number x ∷ number (lowest_permitted (affinity_at f k) 8) ∷ [])
          (count_within f.m (affinity_at f k) 8 few byte),
    )

-- ---- whole texts

-- a line at the end
pub last_read : {bytes : List ℕ} {items : List Item} → Line bytes items → read_text bytes ≡ items ∷ nothing ∷ []
unfolding read_text pieces item
last_read {bytes} l = ap read_text (sym (append-nil bytes)) ∙ l.read []

pub refusal_read : (value place : ℕ) → RefusalRead value place (refusal_line value place)
refusal_read value place = last_read (refusal_line_lem value place)

module _ (f : Fields) (cores : List ℕ) {bytes : List ℕ} {items : List Item} (l : Line bytes items) where
  abbrev tasks : List (List Item)
  tasks = tab f.n (task_items f cores)

  lines_are : read_text (table_lines (task_set_of f) cores ++ bytes)
      ≡ (table_word ∷ number f.n ∷ number f.m ∷ number (hyperperiod_of f) ∷ []) ∷ (tasks ++ items ∷ nothing ∷ [])
  unfolding table_lines task_set_of
  lines_are =
      ap read_text (append_assoc (sizes_line (task_set_of f)) (task_lines f cores f.n) bytes)
      ∙ (sizes-line (task_set_of f)).read _
      ∙ ap (λ r. (table_word ∷ number f.n ∷ number f.m ∷ number (hyperperiod_of f) ∷ []) ∷ r) (tasks_read f cores f.n bytes ∙ ap (λ r. tasks ++ r) (last_read l))

  size : length tasks ≡ f.n
  size = length-tab [] f.n (task_items f cores)

  -- what stands k lines behind the first
  behind : (k : ℕ) → line_at (table_lines (task_set_of f) cores ++ bytes) (k + 1) ≡ get_or (tasks ++ items ∷ nothing ∷ []) k []
  behind k = rw (lines_are, add-one)

  pub table_read : Within f → (Last : List Item → Type 0) → Last items → TableRead f cores Last (table_lines (task_set_of f) cores ++ bytes)
  table_read w Last p = record {
    first = rw lines_are;
    task = λ k h.
        rw (behind k, get_or-append tasks (items ∷ nothing ∷ []) [] k (omega (arith, size)), get_or-tab [] f.n (task_items f cores) k h)
        (task_read f cores w k h);
    last = rw (behind f.n, get_or_at tasks items (nothing ∷ []) [] f.n size) p;
    end =
        let e : f.n + 2 ≡ length tasks + 1 + 1 = omega (arith, size) in
        rw e (behind (length tasks + 1) ∙ get_or-append-add tasks (items ∷ nothing ∷ []) 1 []);
    whole = rw lines_are (simp length-append (omega (arith, size)));
  }

-- an output that is these lines, or the line of a refusal
pub printed_read : {t : Table} → Sound t → (cores lines : List ℕ) (Last : List Item → Type 0) {output : List ℕ} → Printed t lines output
    → (Within t.fields → TableRead t.fields cores Last lines) → OutputRead t cores Last output
printed_read {t} s cores lines Last p r = record {
  planned = λ v. subst (TableRead t.fields cores Last) (sym (p.planned v)) (r (s.within v));
  refused = λ value place h f. rw (p.refused value place h f) (refusal_read value place);
}
