-- Filling in record after record: where all are fit and the row is of their total length, it then holds their answers.
use Rattle.std.specs.Prelude.{Ok, Err}
use mathlib.Core.Path.{◌≡◌, refl, sym, ◌∙◌, ap}
use mathlib.Core.Bool.{Bool, true, false, not, ◌&&◌}
use mathlib.Core.List.{List, [], ◌∷◌, ◌++◌, append_assoc, append-nil}
use Prim.Native.Nat.{ℕ, zero, suc, ◌+◌, ◌<◌, ◌≤◌}
use native.Mathlib.Omega.{arith}
use borrow.Author.Tests.{eq-eqb, le-leb, lt-leb, leb-true, not-false, eqb-true}
use lib.Dec.{eqb, leb}
use lib.ListN.{length, take, drop, replicate, length-append, length-take, length-drop, length-replicate, drop_of_length-le}
use Rattle.std.proofs.lemmas.List.Edits.{paste_all}
use Rattle.std.proofs.lemmas.Slice.{put_mid-paste}
use borrow.Rule.Slice.PartMut.{put_mid}
use lib.Seq.{take_all, take_at, length-take-le}
use Rattle.numbers.proofs.BoolLaws.{and_right}
use Rattle.refusal.specs.Tests.{refuse_if, by_outcome}
use Rattle.refusal.specs.declared.Cause.{Cause}
use Rattle.refusal.specs.declared.Cause.TheVariants.{Record}
use Rattle.refusal.proofs.TestLaws.{then_accepted, then_first, refuse_at_zero, refuse_at_accepted, refuse_if_accepted, outcome_cases}
use mathlib.Core.Logic.{⊎_elim}
use Rattle.runs.specs.declared.Run.{Run}
use Rattle.runs.specs.declared.Logged.{Logged}
use Rattle.runs.specs.Runs.{expand, total}
use Rattle.runs.specs.Fit.{unfit_from, first_unfit}
use Rattle.runs.specs.Lent.{logged_by, exit_by}
use Rattle.runs.specs.Log.{run_at}
use Rattle.runs.proofs.RunLaws.{length-expand}
use Rattle.runs.proofs.FitLaws.{fit_of, head_fit}
use Rattle.replay.specs.Tests.{expand_outcome, expand_answer, row_after, painted, painted_all, to_paint}

-- ---- one record

pub paint_strange : (row : List ℕ) (r : Run) → 16 < r.task → row ≡ painted row r
unfolding painted
paint_strange row r h = rw (lt-leb r.task 16 h)

pub paint_beyond : (row : List ℕ) (r : Run) → r.task ≤ 16 → length row < r.first + r.length → row ≡ painted row r
unfolding painted
paint_beyond row r a h = rw (le-leb r.task 16 a, lt-leb (r.first + r.length) (length row) h)

paint_over : (row : List ℕ) (r : Run) → r.task ≤ 16 → r.first + r.length ≤ length row
    → take r.first row ++ (replicate r.length r.task ++ drop (r.first + r.length) row) ≡ painted row r
unfolding painted
paint_over row r a h = rw (le-leb r.task 16 a, le-leb (r.first + r.length) (length row) h)

-- its ticks, cut out of the row, are filled, and put back
pub paint_filled : (row ticks : List ℕ) (r : Run) (n : ℕ) → r.task ≤ 16 → r.first + r.length ≤ length row → n ≡ r.length
    → ticks ≡ replicate (length (take n (drop r.first row))) r.task → put_mid r.first n row ticks ≡ painted row r
paint_filled row ticks r n a h e f =
    let long : length (take n (drop r.first row)) ≡ r.length = simp (length-take, length-drop) (omega arith) in
    let all = length-replicate r.length r.task in
    put_mid-paste r.first n row ticks (replicate r.length r.task) r.length (rw long at f) (sym e) (sym all)
    ∙ paste_all row r.first (replicate r.length r.task) r.length (sym all)
    ∙ paint_over row r a h

-- ---- record by record

painted-length : (row : List ℕ) (r : Run) → length (painted row r) ≡ length row
unfolding painted
painted-length row r = go (leb r.task 16 && leb (r.first + r.length) (length row)) refl
  where
    go : (t : Bool) → (leb r.task 16 && leb (r.first + r.length) (length row)) ≡ t → length (painted row r) ≡ length row
    go true e =
        let h = leb-true (r.first + r.length) (length row) (and_right (leb r.task 16) (leb (r.first + r.length) (length row)) e) in
        let t = length-take-le r.first row (omega (arith, h)) in
        rw e (simp (length-append, length-replicate, length-drop, t) (omega (arith, h)))
    go false e = rw e

pub painted_all-length : (rs : List Run) (row : List ℕ) → length (painted_all rs row) ≡ length row
painted_all-length [] row = refl
painted_all-length (r ∷ rs) row = painted_all-length rs (painted row r) ∙ painted-length row r

paint_next : (rs : List Run) (k : ℕ) (row : List ℕ) → k < length rs → painted_all (take (suc k) rs) row ≡ painted (painted_all (take k rs) row) (run_at rs k)
paint_next [] k row h = absurd (let z : k < 0 = h in omega (arith, z))
paint_next (r ∷ rs) zero row h = refl
paint_next (r ∷ rs) (suc k) row h = paint_next rs k (painted row r) (omega (arith, h))

-- one record more is filled in
pub paint_more : (rs : List Run) (k : ℕ) (row₀ : List ℕ) {row next : List ℕ} {r : Run} → k < length rs → row ≡ painted_all (take k rs) row₀ → r ≡ run_at rs k → next ≡ painted row r
    → next ≡ painted_all (take (k + 1) rs) row₀
paint_more rs k row₀ h e f g = let one : k + 1 ≡ suc k = omega arith in rw (one, paint_next rs k row₀ h, ← e, ← f) g

-- ---- fit records over a row of their total length

painted-front : (row : List ℕ) (r : Run) (sum : ℕ) → r.task ≤ 16 → r.first ≡ sum → sum + r.length ≤ length row
    → take (sum + r.length) (painted row r) ≡ take sum row ++ replicate r.length r.task
painted-front row r sum a e h =
    ap (take (sum + r.length)) (fit ∙ sym (append_assoc (take sum row) (replicate r.length r.task) (drop (sum + r.length) row)))
    ∙ take_at (take sum row ++ replicate r.length r.task) (drop (sum + r.length) row) (sum + r.length)
    (let t = length-take-le sum row (omega (arith, h)) in simp (length-append, length-replicate, t))
  where
    fit : painted row r ≡ take sum row ++ (replicate r.length r.task ++ drop (sum + r.length) row)
    fit = rw (← e) (sym (paint_over row r a (rw e h)))

paint_fit : (rs : List Run) (p before sum : ℕ) (row : List ℕ) → unfit_from (suc p) before sum rs ≡ 0 → sum + total rs ≡ length row → painted_all rs row ≡ take sum row ++ expand rs
paint_fit [] p before sum row fit e = sym (ap (λ (l : List ℕ). l ++ []) (take_all sum row (omega (arith, e))) ∙ append-nil row)
paint_fit (r ∷ rs) p before sum row fit e =
    let f = head_fit p before sum r rs fit in
    let g = fit_of before sum r f.0 in
    let within : sum + r.length ≤ length row = omega (arith, e) in
    let len = painted-length row r in
    paint_fit rs (suc p) r.task (sum + r.length) (painted row r) f.1 (omega (arith, e, len))
    ∙ ap (λ (l : List ℕ). l ++ expand rs) (painted-front row r sum g.low g.starts within)
    ∙ append_assoc (take sum row) (replicate r.length r.task) (expand rs)

-- ---- the row after the call

-- where a log is accepted its records are fit and add up to the row's length
pub expand_accepted : (rs : List Run) (room : ℕ) → expand_outcome rs room ≡ Ok tt → (first_unfit rs ≡ 0) × (total rs ≡ room)
unfolding expand_outcome
expand_accepted rs room e =
    let both = then_accepted _ _ e in
    (refuse_at_accepted _ _ both.0, eqb-true (total rs) room (not-false _ (refuse_if_accepted _ _ both.1)))

-- and the other way round
pub expand_accepts : (rs : List Run) (room : ℕ) → first_unfit rs ≡ 0 → total rs ≡ room → expand_outcome rs room ≡ Ok tt
unfolding expand_outcome refuse_if
expand_accepts rs room fit e = then_first _ _ (refuse_at_zero _ _ fit) ∙ none
  where
    none : refuse_if (not (eqb (total rs) room)) (Record 0) ≡ Ok tt
    none = rw (eq-eqb (total rs) room e)

pub row-painted : (rs : List Run) (row : List ℕ) (answer : Logged) (n : ℕ) → answer ≡ expand_answer rs (length row) → n ≡ to_paint answer (length rs) → painted_all (take n rs) row ≡ row_after rs row
unfolding row_after exit_by expand_answer logged_by to_paint by_outcome
row-painted rs row answer n ea en = ⊎_elim good refused (outcome_cases (expand_outcome rs (length row)))
  where
    counted : n ≡ to_paint (expand_answer rs (length row)) (length rs)
    counted = en ∙ ap (λ (a : Logged). to_paint a (length rs)) ea

    good : expand_outcome rs (length row) ≡ Ok tt → painted_all (take n rs) row ≡ row_after rs row
    good e =
        let f = expand_accepted rs (length row) e in
        let all : n ≡ length rs = rw e at counted in
        let l = length-expand rs in
        let short : length row ≤ length (expand rs) = omega (arith, l, f.1) in
        let rest : drop (length (expand rs)) row ≡ [] = drop_of_length-le row short in
        rw e (ap (λ (k : ℕ). painted_all (take k rs) row) all ∙ ap (λ (l : List Run). painted_all l row) (take_all (length rs) rs (omega arith))
        ∙ paint_fit rs 0 17 0 row f.0 (omega (arith, f.1)) ∙ sym (ap (λ (l : List ℕ). expand rs ++ l) rest ∙ append-nil (expand rs)))

    refused : (c : Cause) × (expand_outcome rs (length row) ≡ Err c) → painted_all (take n rs) row ≡ row_after rs row
    refused e = let none : n ≡ 0 = rw e.1 at counted in rw e.1 (ap (λ (k : ℕ). painted_all (take k rs) row) none)

-- no more records are filled in than there are
pub to_paint_le : (answer : Logged) (n m : ℕ) → m ≡ to_paint answer n → m ≤ n
unfolding to_paint by_outcome
to_paint_le answer n m e =
    ⊎_elim
    (λ (a : answer.outcome ≡ Ok tt). let z : m ≡ n = rw a at e in omega (arith, z))
    (λ (a : (c : Cause) × (answer.outcome ≡ Err c)). let z : m ≡ 0 = rw a.1 at e in omega (arith, z))
    (outcome_cases answer.outcome)
