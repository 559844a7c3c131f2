-- Fit records are the log of the answers that they expand to, in plain words, and no other log is.
use mathlib.Core.Path.{◌≡◌, refl, sym, ◌∙◌, ap, subst}
use mathlib.Core.Logic.{◌≢◌, by_cases}
use mathlib.Core.Bool.{Bool, true, false}
use mathlib.Core.List.{List, [], ◌∷◌, ◌++◌}
use Prim.Native.Nat.{ℕ, zero, suc, ◌+◌, ◌-◌, ◌<◌, ◌≤◌}
use native.Mathlib.Omega.{arith}
use native.Mathlib.Decide.{dec_lt}
use borrow.Author.Tests.{eqb-true, eqb-false, eq-eqb, ne_eqb}
use lib.Dec.{eqb}
use lib.ListN.{length, drop, replicate, length-append, length-replicate, get_or-replicate, get_or-append}
use lib.Seq.{get_or-append-add, drop-append_seam}
use Rattle.numbers.specs.Rows.{entry}
use Rattle.numbers.specs.Sums.{sum_to}
use Rattle.numbers.proofs.SumLaws.{sum_to-front}
use Rattle.runs.specs.declared.Run.{Run}
use Rattle.runs.specs.Runs.{run, joined, runs_from, runs, expand, total, lead}
use Rattle.runs.specs.Fit.{unfit_from, first_unfit}
use Rattle.runs.specs.Log.{run_at, lengths_before, changes, needed, Within, Once, LogOf}
use Rattle.runs.proofs.RunLaws.{runs_lead, joined_same, joined-other, lead-same, lead-other, length-expand, expand-runs}
use Rattle.runs.proofs.FitLaws.{fit_of, head_fit, AllLow, runs-all_fit}

-- ---- records in a chain

-- Records one after another from tick `at` on, none empty, each of another task than the one before; the first of another than b.
abbrev pub Chain : ℕ → ℕ → List Run → Type 0
Chain at b [] = Unit {0}
Chain at b (r ∷ rs) = (r.first ≡ at) × ((1 ≤ r.length) × ((r.task ≡ b → ⊥) × Chain (at + r.length) r.task rs))

pub fit_chain : (rs : List Run) (p before sum : ℕ) → unfit_from (suc p) before sum rs ≡ 0 → Chain sum before rs
fit_chain [] p before sum h = tt
fit_chain (r ∷ rs) p before sum h =
    let f = head_fit p before sum r rs h in
    let g = fit_of before sum r f.0 in
    let n : r.length ≢ 0 = g.some in
    (g.starts, (omega (arith, n), (g.other, fit_chain rs (suc p) r.task (sum + r.length) f.1)))

-- ---- what a chain says of record k

lengths_front : (r : Run) (rs : List Run) (k : ℕ) → lengths_before (r ∷ rs) (suc k) ≡ r.length + lengths_before rs k
lengths_front r rs k = sum_to-front (λ j. (run_at (r ∷ rs) j).length) k

lengths_none : (rs : List Run) → lengths_before rs 0 ≡ 0
unfolding sum_to
lengths_none rs = refl

lengths_next : (rs : List Run) (k : ℕ) → lengths_before rs (suc k) ≡ (run_at rs k).length + lengths_before rs k
unfolding sum_to
lengths_next rs k = refl

pub lengths_all : (rs : List Run) → lengths_before rs (length rs) ≡ total rs
lengths_all [] = lengths_none []
lengths_all (r ∷ rs) = lengths_front r rs (length rs) ∙ ap (λ n. r.length + n) (lengths_all rs)

chain_first : (rs : List Run) (at b k : ℕ) → Chain at b rs → k < length rs → (run_at rs k).first ≡ at + lengths_before rs k
chain_first [] at b k c h = absurd (omega (arith, h))
chain_first (r ∷ rs) at b zero c h = let z = lengths_none (r ∷ rs) in omega (arith, c.0, z)
chain_first (r ∷ rs) at b (suc k) c h = let f = lengths_front r rs k in let ih = chain_first rs (at + r.length) r.task k c.1.1.1 (omega (arith, h)) in omega (arith, f, ih)

chain_lasts : (rs : List Run) (at b k : ℕ) → Chain at b rs → k < length rs → 1 ≤ (run_at rs k).length
chain_lasts [] at b k c h = absurd (omega (arith, h))
chain_lasts (r ∷ rs) at b zero c h = c.1.0
chain_lasts (r ∷ rs) at b (suc k) c h = chain_lasts rs (at + r.length) r.task k c.1.1.1 (omega (arith, h))

chain_differs : (rs : List Run) (at b k : ℕ) → Chain at b rs → suc k < length rs → (run_at rs (suc k)).task ≡ (run_at rs k).task → ⊥
chain_differs [] at b k c h = absurd (omega (arith, h))
chain_differs (r ∷ []) at b k c h = absurd (omega (arith, h))
chain_differs (r ∷ s ∷ rs) at b zero c h = c.1.1.1.1.1.0
chain_differs (r ∷ s ∷ rs) at b (suc k) c h = chain_differs (s ∷ rs) (at + r.length) r.task k c.1.1.1 (omega (arith, h))

-- ---- each tick in exactly one record

entry-front : (n b t : ℕ) (ys : List ℕ) → t < n → entry (replicate n b ++ ys) t ≡ b
entry-front n b t ys h = let l = length-replicate n b in get_or-append (replicate n b) ys 0 t (omega (arith, l, h)) ∙ get_or-replicate n t b 0 h

entry-behind : (n b t : ℕ) (ys : List ℕ) → n ≤ t → entry (replicate n b ++ ys) t ≡ entry ys (t - n)
entry-behind n b t ys h =
    let l = length-replicate n b in
    let at : length (replicate n b) + (t - n) ≡ t = omega (arith, l, h) in
    ap (λ (k : ℕ). entry (replicate n b ++ ys) k) (sym at) ∙ get_or-append-add (replicate n b) ys (t - n) 0

once_front : (r : Run) (rs : List Run) (at b t : ℕ) → Chain at b (r ∷ rs) → t < r.length → Once (r ∷ rs) (at + t) (entry (expand (r ∷ rs)) t)
once_front r rs at b t c g = record {
  k = 0;
  there = omega arith;
  within = (omega (arith, c.0), omega (arith, c.0, g));
  same = sym (entry-front r.length r.task t (expand rs) g);
  only = none;
}
  where
    none : (j : ℕ) → j < suc (length rs) → Within (run_at (r ∷ rs) j) (at + t) → j ≡ 0
    none zero l w = refl
    none (suc j) l w = absurd (let f = chain_first rs (at + r.length) r.task j c.1.1.1 (omega (arith, l)) in omega (arith, f, w.0, g))

once_behind : (r : Run) (rs : List Run) (at t : ℕ) → r.first ≡ at → r.length ≤ t → Once rs (at + t) (entry (expand rs) (t - r.length))
    → Once (r ∷ rs) (at + t) (entry (expand (r ∷ rs)) t)
once_behind r rs at t e past later = record {
  k = suc later.k;
  there = (let l = later.there in omega (arith, l));
  within = later.within;
  same = later.same ∙ sym (entry-behind r.length r.task t (expand rs) past);
  only = only;
}
  where
    only : (j : ℕ) → j < suc (length rs) → Within (run_at (r ∷ rs) j) (at + t) → j ≡ suc later.k
    only zero l w = absurd (omega (arith, w.1, e, past))
    only (suc j) l w = ap suc (later.only j (omega (arith, l)) w)

chain_once : (rs : List Run) (at b t : ℕ) → Chain at b rs → t < length (expand rs) → Once rs (at + t) (entry (expand rs) t)
chain_once [] at b t c h = absurd (omega (arith, h))
chain_once (r ∷ rs) at b t c h =
    by_cases (dec_lt t r.length) (λ (g : t < r.length). once_front r rs at b t c g)
    (λ (g : t < r.length → ⊥).
    let past : r.length ≤ t = omega (arith, g) in
    let place : at + r.length + (t - r.length) ≡ at + t = omega (arith, past) in
    let size : length (expand (r ∷ rs)) ≡ r.length + length (expand rs) = simp (length-append, length-replicate) in
    once_behind r rs at t c.0 past (subst (λ (x : ℕ). Once rs x (entry (expand rs) (t - r.length))) place
    (chain_once rs (at + r.length) r.task (t - r.length) c.1.1.1 (omega (arith, size, h, past)))))

-- ---- how many records there are

-- a record's answers begin with one of its own
expand-front : (r : Run) (rs : List Run) → 1 ≤ r.length → expand (r ∷ rs) ≡ r.task ∷ (replicate (r.length - 1) r.task ++ expand rs)
expand-front r rs h = let e : r.length ≡ suc (r.length - 1) = omega (arith, h) in ap (λ (n : ℕ). replicate n r.task ++ expand rs) e

changes-same : (n b : ℕ) (ys : List ℕ) → changes b (replicate n b ++ ys) ≡ changes b ys
changes-same zero b ys = refl
changes-same (suc n) b ys = rw (eq-eqb b b refl) (changes-same n b ys)

chain_changes : (rs : List Run) (at b : ℕ) → Chain at b rs → changes b (expand rs) ≡ length rs
chain_changes [] at b c = refl
chain_changes (r ∷ rs) at b c =
    ap (changes b) (expand-front r rs c.1.0)
    ∙ rw (ne_eqb b r.task (λ (e : b ≡ r.task). c.1.1.0 (sym e)))
    (ap suc (changes-same (r.length - 1) r.task (expand rs) ∙ chain_changes rs (at + r.length) r.task c.1.1.1))

chain_needed : (rs : List Run) (at b : ℕ) → Chain at b rs → length rs ≡ needed (expand rs)
chain_needed [] at b c = refl
chain_needed (r ∷ rs) at b c =
    sym (ap needed (expand-front r rs c.1.0)
    ∙ ap suc (changes-same (r.length - 1) r.task (expand rs) ∙ chain_changes rs (at + r.length) r.task c.1.1.1))

-- ---- fit records are the log of their answers

pub fit_log : (rs : List Run) → first_unfit rs ≡ 0 → LogOf (expand rs) rs
fit_log rs fit =
    let c = fit_chain rs 0 17 0 fit in
    record {
      needs = chain_needed rs 0 17 c;
      begins = λ (h : 1 ≤ length rs). let f = chain_first rs 0 17 0 c (omega (arith, h)) in let z = lengths_none rs in omega (arith, f, z);
      follows = λ (k : ℕ) (h : suc k < length rs).
          let f = chain_first rs 0 17 k c (omega (arith, h)) in
          let g = chain_first rs 0 17 (suc k) c h in
          let n = lengths_next rs k in
          omega (arith, f, g, n);
      lasts = λ (k : ℕ) (h : k < length rs). chain_lasts rs 0 17 k c h;
      differs = λ (k : ℕ) (h : suc k < length rs). chain_differs rs 0 17 k c h;
      adds = lengths_all rs ∙ sym (length-expand rs);
      holds = λ (t : ℕ) (h : t < length (expand rs)). let z : 0 + t ≡ t = omega arith in subst (λ (x : ℕ). Once rs x (entry (expand rs) t)) z (chain_once rs 0 17 t c h);
    }

-- so are the runs of any accepted answers
pub runs_log : (xs : List ℕ) → AllLow xs → length xs ≤ 60000 → LogOf xs (runs xs)
runs_log xs low fits = subst (λ (ys : List ℕ). LogOf ys (runs xs)) (expand-runs 0 xs) (fit_log (runs xs) (runs-all_fit xs low fits))

-- ---- and they are the runs of those answers

lead-same_all : (n b : ℕ) (ys : List ℕ) → lead b (replicate n b ++ ys) ≡ n + lead b ys
lead-same_all zero b ys = omega arith
lead-same_all (suc n) b ys = lead-same b b (replicate n b ++ ys) refl ∙ (let ih = lead-same_all n b ys in omega (arith, ih))

chain_lead : (rs : List Run) (at b : ℕ) → Chain at b rs → lead b (expand rs) ≡ 0
chain_lead [] at b c = refl
chain_lead (r ∷ rs) at b c =
    ap (lead b) (expand-front r rs c.1.0)
    ∙ lead-other b r.task (replicate (r.length - 1) r.task ++ expand rs) (λ (e : b ≡ r.task). c.1.1.0 (sym e))

chain_runs : (rs : List Run) (at b : ℕ) → Chain at b rs → runs_from at (expand rs) ≡ rs
chain_runs [] at b c = refl
chain_runs (r ∷ rs) at b c =
    ap (runs_from at) (expand-front r rs c.1.0) ∙ runs_lead r.task at rest
    ∙ ap (λ (l : ℕ). run r.task at (suc l) ∷ runs_from (suc at + l) (drop l rest)) led
    ∙ ap (λ (ys : List ℕ). run r.task at (suc n) ∷ runs_from (suc at + n) ys) left
    ∙ ap (λ (m : ℕ). run r.task at (suc n) ∷ runs_from m (expand rs)) next
    ∙ ap (λ (l : List Run). run r.task at (suc n) ∷ l) (chain_runs rs (at + r.length) r.task c.1.1.1)
    ∙ ap (λ (s : Run). s ∷ rs) same
  where
    n : ℕ
    n = r.length - 1

    rest : List ℕ
    rest = replicate n r.task ++ expand rs

    led : lead r.task rest ≡ n
    led = let z = chain_lead rs (at + r.length) r.task c.1.1.1 in let e = lead-same_all n r.task (expand rs) in omega (arith, z, e)

    left : drop n rest ≡ expand rs
    left = ap (λ (k : ℕ). drop k rest) (sym (length-replicate n r.task)) ∙ drop-append_seam (replicate n r.task) (expand rs)

    next : suc at + n ≡ at + r.length
    next = let h = c.1.0 in omega (arith, h)

    same : run r.task at (suc n) ≡ r
    same = let h = c.1.0 in let long : suc n ≡ r.length = omega (arith, h) in λ i. record { task = r.task; first = sym c.0 i; length = long i }

-- no other log expands to these answers: the runs of what fit records expand to are the records
pub runs-expand : (rs : List Run) → first_unfit rs ≡ 0 → runs (expand rs) ≡ rs
runs-expand rs fit = chain_runs rs 0 17 (fit_chain rs 0 17 0 fit)

-- ---- how many runs there are, of any answers

runs-count : (b at : ℕ) (xs : List ℕ) → length (runs_from at (b ∷ xs)) ≡ suc (changes b xs)
runs-count b at [] = refl
runs-count b at (c ∷ xs) = go (eqb b c) refl (ap (λ (rs : List Run). length rs) (sym (runs_lead c (suc at) xs)) ∙ runs-count c (suc at) xs)
  where
    after : List Run
    after = runs_from (suc (suc at) + lead c xs) (drop (lead c xs) xs)

    rest : runs_from at (b ∷ c ∷ xs) ≡ joined b at (run c (suc at) (suc (lead c xs)) ∷ after)
    rest = ap (joined b at) (runs_lead c (suc at) xs)

    go : (t : Bool) → eqb b c ≡ t → suc (length after) ≡ suc (changes c xs) → length (runs_from at (b ∷ c ∷ xs)) ≡ suc (changes b (c ∷ xs))
    go true e n = ap (λ (rs : List Run). length rs) (rest ∙ joined_same b at (run c (suc at) (suc (lead c xs))) after (eqb-true b c e)) ∙ n ∙ rw e
    go false e n = ap (λ (rs : List Run). length rs) (rest ∙ joined-other b at (run c (suc at) (suc (lead c xs))) after (eqb-false b c e)) ∙ ap suc n ∙ rw e

pub runs-needed : (xs : List ℕ) → length (runs xs) ≡ needed xs
runs-needed [] = refl
runs-needed (b ∷ xs) = runs-count b 0 xs

-- ---- what fit records expand to can be written

low_append : (n b : ℕ) (ys : List ℕ) → b ≤ 16 → AllLow ys → AllLow (replicate n b ++ ys)
low_append zero b ys h l = l
low_append (suc n) b ys h l = (h, low_append n b ys h l)

fit_low : (rs : List Run) (p before sum : ℕ) → unfit_from (suc p) before sum rs ≡ 0 → AllLow (expand rs)
fit_low [] p before sum h = tt
fit_low (r ∷ rs) p before sum h =
    let f = head_fit p before sum r rs h in
    low_append r.length r.task (expand rs) (fit_of before sum r f.0).low (fit_low rs (suc p) r.task (sum + r.length) f.1)

fit_total : (rs : List Run) (p before sum : ℕ) → unfit_from (suc p) before sum rs ≡ 0 → sum ≤ 60000 → sum + total rs ≤ 60000
fit_total [] p before sum h l = omega (arith, l)
fit_total (r ∷ rs) p before sum h l =
    let f = head_fit p before sum r rs h in
    let ih = fit_total rs (suc p) r.task (sum + r.length) f.1 (fit_of before sum r f.0).short in
    omega (arith, ih)

pub expand_low : (rs : List Run) → first_unfit rs ≡ 0 → AllLow (expand rs)
expand_low rs fit = fit_low rs 0 17 0 fit

pub expand_few : (rs : List Run) → first_unfit rs ≡ 0 → length (expand rs) ≤ 60000
expand_few rs fit = let t = fit_total rs 0 17 0 fit (omega arith) in let l = length-expand rs in omega (arith, t, l)
