-- The code's test of a choice is the walk's, and what follows from it.
use Prim.Native.Nat.{ℕ, zero, suc, ◌+◌, ◌*◌, ◌/◌, ◌%◌, ◌≤◌, ◌<◌, max}
use native.Mathlib.Nat.{le_trans, mul-le-mul, add-zero}
use native.Mathlib.Numerals.{add-one}
use native.Mathlib.Decide.{dec_lt}
use native.Mathlib.Omega.{arith}
use mathlib.Core.Path.{◌≡◌, refl, sym, ap, ◌∙◌}
use mathlib.Core.Bool.{Bool, true, false, cond, not, ◌&&◌, ◌||◌, xor, and-true, and-false}
use mathlib.Core.List.{List}
use mathlib.Core.Logic.{dite}
use lib.Dec.{eqb, leb, ltb}
use lib.ListN.{length, get_or, take}
use lib.Seq.{get_or-take, length-take-le}
use borrow.Author.Tests.{lt-ltb, le-ltb, le-leb, lt-leb, eq-eqb, ne_eqb, not-true, not-false}
use Rattle.numbers.specs.Rows.{entry}
use Rattle.numbers.proofs.BoolLaws.{and_swap}
use Rattle.numbers.proofs.FirstLaws.{first_cong}
use Rattle.numbers.proofs.RowLaws.{get_or-row}
use Rattle.numbers.proofs.LoadLaws.{sum-take_le}
use Rattle.affinity.specs.Permitted.{permitted}
use Rattle.allocation.specs.Placement.{problem_of, total, excess}
use Rattle.allocation.specs.Rule.{tells_apart, twins, are_twins, is_empty, some_empty_twin, tried}
use Rattle.allocation.specs.Walk.{entered}
use Rattle.allocation.proofs.Order.{choice_core, choice_none}
use Rattle.outset.specs.Twins.{twin_rows}
use Rattle.twins.specs.EmptyTwin.{some_zero_twin}
use Rattle.walk.specs.Given.{Ranges}
use Rattle.walk.proofs.State.{Job, problem, Fixed, Locals, held, Walking, Improving, Looked, path_room, load_next}

-- what the walk leaves unchanged, in the order of the code
abbrev pub job : List ℕ → List ℕ → ℕ → ℕ → ℕ → ℕ → Job
job demands affinity n m h limit = record { row = demands; affinity = affinity; tasks = n; cores = m; capacity = h; limit = limit }

-- sixteen demands of at most a million
pub total_small : {demands : List ℕ} {n m h : ℕ} → Ranges demands n m h → (affinity : List ℕ) → total (problem_of h m (take n demands) affinity) ≤ 16000000
total_small {demands} {n} {m} {h} g affinity =
    le_trans (sum-take_le h demands n g.each) (mul-le-mul g.few g.small)

-- the ranges of the arguments
pub ranges_fixed : {demands : List ℕ} {n m h limit : ℕ} → Ranges demands n m h → (affinity : List ℕ) → length demands ≡ 16 → Fixed (job demands affinity n m h limit)
ranges_fixed {n = n} g affinity l = record { row_long = l; few = g.few; few_cores = g.few_cores; small = total_small g (take n affinity) }

not_leb : (a b : ℕ) → not (leb a b) ≡ ltb b a
not_leb a b =
    dite (dec_lt b a) (λ x. rw (lt-leb a b x, lt-ltb b a x)) (λ x. rw (le-leb a b (omega arith), le-ltb b a (omega arith)))

-- beside a number that is below the bound, the other one decides
ltb_max : (o e b : ℕ) → e < b → ltb (max o e) b ≡ ltb o b
ltb_max o e b h =
    dite (dec_lt o b)
    (λ x. rw (lt-ltb o b x, lt-ltb (max o e) b (omega arith)))
    (λ x. rw (le-ltb o b (omega arith), le-ltb (max o e) b (omega arith)))

-- ---- twins

twins_taken : (affinity : List ℕ) (n c d : ℕ) → twins (take n affinity) n c d ≡ twins affinity n c d
unfolding twins
twins_taken affinity n c d =
    ap (λ (t : ℕ). eqb t 0) (first_cong (tells_apart (take n affinity) c d) (tells_apart affinity c d) n
    (λ k h. ap (λ (b : ℕ). xor (permitted b c) (permitted b d)) (get_or-take n affinity k 0 h)))

twin_entry : (affinity : List ℕ) (n c d : ℕ) → c < 4 → d < 4 → get_or (twin_rows affinity n) (4 * c + d) false ≡ twins affinity n (suc c) (suc d)
unfolding twin_rows
twin_entry affinity n c d i j =
    get_or-row false 16 (λ k. twins affinity n (k / 4 + 1) (k % 4 + 1)) (4 * c + d) (omega arith) (omega arith)
    ∙ (let q : (4 * c + d) / 4 + 1 ≡ suc c = omega arith in let r : (4 * c + d) % 4 + 1 ≡ suc d = omega arith in rw (q, r))

module _ {J : Job} {L : Locals} (s : Walking J L) where
  abbrev demand : ℕ
  demand = get_or J.row L.depth 0

  -- the choices made
  abbrev node : List ℕ
  node = take L.depth L.path

  -- the task's core byte
  abbrev byte : ℕ
  byte = get_or J.affinity L.depth 0

  byte_is : entry (take J.tasks J.affinity) (length node) ≡ byte
  byte_is = rw (length-take-le L.depth L.path (omega (arith, path_room s))) (get_or-take J.tasks J.affinity L.depth 0 s.chosen.depth_below)

  -- the walk's test on the code's numbers
  test_is : {over : ℕ} → over ≡ excess (problem J) → over < L.bound → (x : ℕ)
      → let out = L.out + cond (eqb x 0) demand 0 in
      entered (problem J) node x L.bound
      ≡ (((eqb x 0 || (permitted byte x && leb (get_or (held L) x 0 + demand) J.capacity)) && ltb out L.bound) && tried (problem J) node x)
  unfolding entered
  test_is ex low x =
      let out = L.out + cond (eqb x 0) demand 0 in
      rw (load_next s x x, eq-eqb x x refl, load_next s x 0, ltb_max out (excess (problem J)) L.bound (rw ex at low), byte_is)
      (and_swap (eqb x 0 || (permitted byte x && leb (get_or (held L) x 0 + demand) J.capacity)) (tried (problem J) node x) (ltb out L.bound))

  -- the rows of twins say which cores are twins
  row_twin : {rows : List Bool} → rows ≡ twin_rows J.affinity J.tasks → (c d : ℕ) → c < 4 → d < 4
      → get_or rows (4 * c + d) false ≡ are_twins (problem J) (suc c) (suc d)
  row_twin {rows} t c d i j =
      rw (t, twin_entry J.affinity J.tasks c d i j)
      (sym (ap (λ (n : ℕ). twins (take J.tasks J.affinity) n (suc c) (suc d)) (length-take-le J.tasks J.row (omega (arith, s.fixed.row_long, s.fixed.few)))
      ∙ twins_taken J.affinity J.tasks (suc c) (suc d)))

  -- the rule on the code's numbers
  module _ {rows : List Bool} (t : rows ≡ twin_rows J.affinity J.tasks) (c : ℕ) (i : c < 4) where
    some_empty_is : (k : ℕ) → k ≤ 4 → some_zero_twin L.loads rows c k ≡ some_empty_twin (problem J) node (suc c) k
    unfolding some_zero_twin some_empty_twin is_empty
    some_empty_is zero h = refl
    some_empty_is (suc k) h = rw (s.chosen.loads_are (suc k), row_twin t c k i (omega arith), some_empty_is k (omega arith))

  -- entry 0 is what is rejected
  held_core : get_or (held L) (L.next + 1) 0 ≡ get_or L.loads L.next 0
  held_core = rw (add-one L.next)

  module _ (k : L.next < J.cores) {rows : List Bool} (t : rows ≡ twin_rows J.affinity J.tasks) where
    tried_is : tried (problem J) node (L.next + 1) ≡ not (eqb (get_or L.loads L.next 0) 0 && some_zero_twin L.loads rows L.next L.next)
    unfolding tried is_empty
    tried_is =
        let four : L.next < 4 = omega (arith, s.fixed.few_cores) in
        rw (add-one L.next, s.chosen.loads_are (suc L.next), some_empty_is t L.next four L.next (omega arith))

    -- core next + 1 is looked at
    module _ {over : ℕ} (ex : over ≡ excess (problem J)) (i : Improving over J.cores L.out L.bound L.next)
        {r : Bool} (fits : r ≡ ((permitted byte (L.next + 1) && leb (get_or L.loads L.next 0 + demand) J.capacity)
        && not (eqb (get_or L.loads L.next 0) 0 && some_zero_twin L.loads rows L.next L.next))) where
      core_looked : {t : Bool} → r ≡ t → Looked J L (L.next + 1) t
      core_looked e = record {
        state = s;
        within = omega arith;
        choice_is = add-one L.next ∙ sym (choice_core J.cores L.next k);
        tested = sym (test_is ex i.excess-below (L.next + 1) ∙ rw (ne_eqb (L.next + 1) 0 (λ z. omega arith), add-zero, held_core, lt-ltb L.out L.bound (i.out_below (omega arith)), and-true, tried_is) (sym fits ∙ e));
      }

      -- it is not permitted, has no room for the task, or is empty and so is a lower twin
      pub core_passed : r ≡ false → Looked J L (L.next + 1) false
      core_passed e = core_looked e

      -- it is entered
      pub core_taken : r ≡ true → Looked J L (L.next + 1) true
      core_taken e = core_looked e

  none_tried : tried (problem J) node 0 ≡ true
  unfolding tried some_empty_twin
  none_tried = rw and-false

  -- leaving the task out is looked at
  pub none_looked : J.cores ≤ L.next → L.next ≤ J.cores → {over : ℕ} → over ≡ excess (problem J)
      → Improving over J.cores L.out L.bound L.next → {r : Bool} → leb L.bound (L.out + demand) ≡ r → Looked J L 0 (not r)
  none_looked g k ex i e = record {
    state = s;
    within = k;
    choice_is = let q : L.next ≡ J.cores = omega arith in rw q (sym (choice_none J.cores));
    tested = rw (test_is ex i.excess-below 0, none_tried, and-true, ← e) (not_leb L.bound (L.out + demand));
  }
