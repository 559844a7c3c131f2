-- The state of the walk's two loops, and what each move of the code keeps.
use Prim.Native.Nat.{ℕ, zero, suc, ◌+◌, ◌*◌, ◌-◌, ◌%◌, ◌≤◌, ◌<◌, zero-le}
use native.Mathlib.Nat.{le_refl, add-zero, sub-zero}
use native.Mathlib.Numerals.{add-one}
use native.Mathlib.Decide.{ℕ_discrete, dec_lt}
use native.Mathlib.Omega.{arith}
use mathlib.Core.Path.{◌≡◌, refl, sym, ap, ◌∙◌}
use mathlib.Core.Bool.{Bool, true, false, cond}
use mathlib.Core.List.{List, [], ◌∷◌, ◌++◌}
use mathlib.Core.Logic.{◌≢◌, dite}
use lib.Dec.{eqb, leb}
use lib.ListN.{length, get_or, take, drop, set, replicate, length-set, take-append-drop}
use lib.Seq.{take-set-le, take-suc-set, take-suc, get_or-take, get_or-set_same, get_or-set_other, drop-set-lt, length-take-le}
use borrow.Author.Count.{below_more}
use borrow.Author.Tests.{eq-eqb, ne_eqb, le-leb, lt-leb}
use Rattle.allocation.specs.Placement.{Problem, problem_of, load, rejected, total, excess}
use Rattle.allocation.specs.Walk.{entered, choices, tried_by, answer}
use Rattle.numbers.proofs.BoolLaws.{cond_le}
use Rattle.numbers.proofs.LoadLaws.{demand_on-same, demand_on-other, demand_on-none, demand_on_le_sum, get_or_le_sum, none_rejects}
use Rattle.allocation.proofs.Order.{choice_core, choice_le, tried_by_le}
use Rattle.allocation.proofs.Sound.{entered_rejects}
use Rattle.allocation.proofs.Progress.{Progress, progress_start, progress_skip, progress_leaf, progress_descend, progress_back, progress_stop, progress_done, progress_over, progress_closed, progress_take}
use Rattle.numbers.specs.Rows.{padded}
use Rattle.blend.specs.Entry.{on_core}
use Rattle.blend.proofs.OneCore.{row_changed}
use Rattle.walk.specs.Given.{found_of}
use Rattle.walk.specs.declared.Found.{Found}
use Rattle.numbers.proofs.ZeroLaws.{take_zeros, drop_zeros, zero_at}

-- what the loops do not change: the demands and the core bytes in rows of sixteen, how many of them are tasks, the cores and the step limit
pub record Job : Type 0 where
  pub row : List ℕ
  pub affinity : List ℕ
  pub tasks : ℕ
  pub cores : ℕ
  pub capacity : ℕ
  pub limit : ℕ

abbrev pub problem : Job → Problem
problem J = problem_of J.capacity J.cores (take J.tasks J.row) (take J.tasks J.affinity)

-- the loops' variables
pub record Locals : Type 0 where
  pub path : List ℕ
  pub loads : List ℕ
  pub out : ℕ
  pub best : List ℕ
  pub rejected : ℕ
  pub bound : ℕ
  pub steps : ℕ
  pub depth : ℕ
  pub next : ℕ

-- them in the order of the code
abbrev pub locals : List ℕ → List ℕ → ℕ → List ℕ → ℕ → ℕ → ℕ → ℕ → ℕ → Locals
locals path loads out best rejected bound steps depth next =
    record { path = path; loads = loads; out = out; best = best; rejected = rejected; bound = bound; steps = steps; depth = depth; next = next }

-- the demand on each choice: what is rejected, then the cores' loads
abbrev pub held : Locals → List ℕ
held L = L.out ∷ L.loads

-- what is returned
abbrev pub returned : Locals → Bool → Found
returned L spent = record { placement = L.best; rejected = L.rejected; steps = L.steps; spent = spent }

-- The ranges that the job is in.
pub record Fixed (J : Job) : Type 0 where
  pub row_long : length J.row ≡ 16
  pub few : J.tasks ≤ 16
  pub few_cores : J.cores ≤ 4
  pub small : total (problem J) ≤ 16000000

-- A row of sixteen choices: zeros follow those of the tasks.
pub record Sixteen (J : Job) (l : List ℕ) : Type 0 where
  pub long : length l ≡ 16
  pub rest : drop J.tasks l ≡ replicate (16 - J.tasks) 0

-- The choices made: the demands on the choices, `on`, are theirs.
pub record Chosen (J : Job) (path on : List ℕ) (depth : ℕ) : Type 0 where
  pub depth_below : depth < J.tasks
  pub path_row : Sixteen J path
  pub loads_long : length on ≡ 5
  pub loads_are : (c : ℕ) → get_or on c 0 ≡ load (problem J) c (take depth path)
  pub path_choices : (k : ℕ) → k < depth → get_or path k 0 ≤ J.cores

-- The stored placement and its rejected demand.
pub record Kept (J : Job) (best : List ℕ) (out : ℕ) : Type 0 where
  pub best_row : Sixteen J best
  pub rejected_is : out ≡ rejected (problem J) (take J.tasks best)

-- What holds whenever a choice is looked at: the walk has come this far.
pub record Walking (J : Job) (L : Locals) : Type 0 where
  pub fixed : Fixed J
  pub chosen : Chosen J L.path (held L) L.depth
  pub kept : Kept J L.best L.rejected
  pub progress : Progress (problem J) L.path L.depth L.next L.bound (take J.tasks L.best) L.steps
  pub next_within : L.next ≤ J.cores + 1
  pub within : L.steps ≤ J.limit

-- What is known at every choice, since it is asked where it can change.
pub record Improving (over m out bound next : ℕ) : Type 0 where
  -- The excess is below the bound.
  pub excess-below : over < bound
  -- What is rejected is below the bound, unless no choice is left.
  pub out_below : next ≤ m → out < bound

-- it is, at the next choice of the same task
pub next_one : {over m out bound next : ℕ} → Improving over m out bound next → Improving over m out bound (next + 1)
next_one i = record { excess-below = i.excess-below; out_below = λ h. i.out_below (omega arith) }

-- an entry of a list with entry x changed
changed : (l : List ℕ) (x v c : ℕ) {n : ℕ} → x < length l → (x ≡ c → v ≡ n) → (x ≢ c → get_or l c 0 ≡ n)
    → get_or (set l x v) c 0 ≡ n
changed l x v c h a b =
    dite (ℕ_discrete x c) (λ (q : x ≡ c). ap (λ (i : ℕ). get_or (set l x v) i 0) (sym q) ∙ get_or-set_same l x v 0 h ∙ a q)
    (λ q. get_or-set_other l x c v 0 (λ z. q (sym z)) ∙ b q)

-- ---- the start

module _ (J : Job) (fixed : Fixed J) where
  tasks_are : length (problem J).demands ≡ J.tasks
  tasks_are = length-take-le J.tasks J.row (omega arith)

  -- a load with one choice more
  load_snoc : (p : List ℕ) (x c : ℕ) {d : ℕ} → length p ≡ d → d < J.tasks
      → load (problem J) c (p ++ (x ∷ [])) ≡ load (problem J) c p + cond (eqb x c) (get_or J.row d 0) 0
  load_snoc p x c {d} e l =
      dite (ℕ_discrete x c)
      (λ (q : x ≡ c). rw (q, eq-eqb c c refl, ← get_or-take J.tasks J.row d 0 l, ← e)
      (demand_on-same c (problem J).demands p (omega (arith, tasks_are))))
      (λ q. rw (ne_eqb x c q) (demand_on-other c x q (problem J).demands p ∙ sym (add-zero _)))

  pub walk_start : 0 < J.tasks → (sum : ℕ) → sum ≡ total (problem J) → Walking J (locals (replicate 16 0) (replicate 4 0) 0 (replicate 16 0) sum (sum + 1) 0 0 0)
  walk_start some sum e = record {
    fixed = fixed;
    chosen = record {
      depth_below = some;
      path_row = record { long = refl; rest = drop_zeros J.tasks 16 };
      loads_long = refl;
      loads_are = λ c. zero_at 5 c ∙ sym (demand_on-none c (problem J).demands);
      path_choices = λ k l. absurd (omega arith);
    };
    kept = record {
      best_row = record { long = refl; rest = drop_zeros J.tasks 16 };
      rejected_is = e ∙ sym (ap (λ (p : List ℕ). rejected (problem J) p) none ∙ none_rejects (problem J).demands);
    };
    progress = rw (e, none) (progress_start (problem J) (replicate 16 0) (omega (arith, tasks_are)));
    next_within = omega arith;
    within = omega arith;
  }
    where
      none : take J.tasks (replicate {A = ℕ} 16 0) ≡ replicate (length (problem J).demands) 0
      none = take_zeros J.tasks 16 fixed.few ∙ ap (λ (n : ℕ). replicate n 0) (sym tasks_are)

-- ---- one choice

module _ {J : Job} {L : Locals} (s : Walking J L) where
  abbrev P : Problem
  P = problem J

  -- the choices made
  abbrev node : List ℕ
  node = take L.depth L.path

  pub depth_small : L.depth < 16
  depth_small = omega (arith, s.chosen.depth_below, s.fixed.few)

  -- so it is the same in a byte
  pub depth_byte : L.depth % 256 ≡ L.depth
  depth_byte = omega (arith, depth_small)

  pub path_room : L.depth < length L.path
  path_room = omega (arith, depth_small, s.chosen.path_row.long)

  -- each load, with the demand of the task at hand
  pub load_small : (k : ℕ) → get_or (held L) k 0 + get_or J.row L.depth 0 ≤ 32000000
  load_small k =
      let e = get_or-take J.tasks J.row L.depth 0 s.chosen.depth_below in
      let g = get_or_le_sum P.demands L.depth in
      omega (arith, s.chosen.loads_are k, demand_on_le_sum k P.demands node, s.fixed.small)

  -- what is rejected, once the task at hand has choice x
  pub out_small : (x : ℕ) {o : ℕ} → o ≡ cond (eqb x 0) (get_or J.row L.depth 0) 0 → L.out + o ≤ 32000000
  out_small x e = omega (arith, load_small 0, cond_le (eqb x 0) (get_or J.row L.depth 0) _ (le_refl _))

  -- each load, once the task at hand has choice x
  pub load_next : (x c : ℕ)
      → load P c (node ++ (x ∷ [])) ≡ get_or (held L) c 0 + cond (eqb x c) (get_or J.row L.depth 0) 0
  load_next x c =
      let e = length-take-le L.depth L.path (omega (arith, path_room)) in
      load_snoc J s.fixed node x c e s.chosen.depth_below ∙ rw (s.chosen.loads_are c)

  -- the answer, once it is that of the state
  found : {sp : Bool} → answer P J.limit ≡ record { placement = take J.tasks L.best; rejected = rejected P (take J.tasks L.best); steps = L.steps; spent = sp }
      → returned L sp ≡ found_of (answer P J.limit)
  unfolding found_of
  found {sp} e = rw e (λ i. record { placement = whole i; rejected = s.kept.rejected_is i; steps = L.steps; spent = sp })
    where
      whole : L.best ≡ padded (take J.tasks L.best)
      whole =
          let e = length-take-le J.tasks L.best (omega (arith, s.fixed.few, s.kept.best_row.long)) in
          sym (take-append-drop J.tasks L.best) ∙ rw (s.kept.best_row.rest, e)

  -- the walk is complete
  pub walk_done : J.cores < L.next → L.depth ≡ 0 → returned L false ≡ found_of (answer P J.limit)
  walk_done h z = found (progress_done P s.progress J.limit s.within z h)

  -- and it is as soon as the bound is at most the excess
  pub walk_over : {over : ℕ} → over ≡ excess P → L.bound ≤ over → returned L false ≡ found_of (answer P J.limit)
  walk_over e h = found (progress_over P s.progress J.limit s.within (rw e at h))

  -- the next choice is another one of the same task
  abbrev at : ℕ → Locals
  at j = locals L.path L.loads L.out L.best L.rejected L.bound L.steps L.depth j

  pub past : {j : ℕ} → L.next ≡ j → Walking J (at j)
  past e = rw (← e) s

  -- no choice improves on what is rejected already
  closes : L.bound ≤ L.out → Walking J (at (J.cores + 1))
  closes h = record {
    fixed = s.fixed;
    chosen = s.chosen;
    kept = s.kept;
    progress = progress_closed P s.progress (omega (arith, s.chosen.loads_are 0));
    next_within = le_refl _;
    within = s.within;
  }

  -- then all choices count as tried
  resumes : {t : ℕ} → t ≡ cond (leb L.bound L.out) (J.cores + 1) L.next → Walking J (at t)
  resumes e =
      dite (dec_lt L.out L.bound)
      (λ h. past (sym (e ∙ rw (lt-leb L.bound L.out h))))
      (λ h. rw (e, le-leb L.bound L.out (omega arith)) (closes (omega arith)))

-- A choice looked at: x is the choice, and r whether it is entered.
pub record Looked (J : Job) (L : Locals) (x : ℕ) (r : Bool) : Type 0 where
  pub state : Walking J L
  pub within : L.next ≤ J.cores
  pub choice_is : x ≡ get_or (choices J.cores) L.next 0
  pub tested : r ≡ entered (problem J) (take L.depth L.path) x L.bound

module _ {J : Job} {L : Locals} {x : ℕ} {r : Bool} (v : Looked J L x r) where
  x_within : x ≤ J.cores
  x_within = rw v.choice_is (choice_le J.cores L.next v.within)

  pub choice_small : x < 5
  choice_small = omega (arith, x_within, v.state.fixed.few_cores)

  -- leaving the task out is the last choice
  last_choice : x ≡ 0 → L.next ≡ J.cores
  last_choice z =
      dite (dec_lt L.next J.cores)
      (λ h. absurd (omega (arith, v.choice_is, choice_core J.cores L.next h)))
      (λ h. omega (arith, v.within))

-- x is not entered: the next choice of the same task follows
pub skips : {J : Job} {L : Locals} {x : ℕ} → Looked J L x false
    → Walking J (locals L.path L.loads L.out L.best L.rejected L.bound L.steps L.depth (L.next + 1))
skips {J} v = record {
  fixed = v.state.fixed;
  chosen = v.state.chosen;
  kept = v.state.kept;
  progress = rw add-one (progress_skip (problem J) v.state.progress v.within (rw v.choice_is at (sym v.tested)));
  next_within = omega (arith, v.within);
  within = v.state.within;
}

module _ {J : Job} {L : Locals} {x : ℕ} (v : Looked J L x true) where
  abbrev s : Walking J L
  s = v.state

  here : entered (problem J) (node s) (get_or (choices J.cores) L.next 0) L.bound ≡ true
  here = rw v.choice_is at (sym v.tested)

  -- the limit is reached
  pub stops : L.steps ≡ J.limit → returned L true ≡ found_of (answer (problem J) J.limit)
  stops f =
      let l : L.depth < length (problem J).demands = omega (arith, tasks_are J s.fixed, s.chosen.depth_below) in
      found s (rw f (progress_stop (problem J) s.progress v.within J.limit (path_room s) l here f))

  -- what is rejected with x is below the bound
  pub improves : {o : ℕ} → o ≡ cond (eqb x 0) (get_or J.row L.depth 0) 0 → L.out + o < L.bound
  improves e = rw (e, ← load_next s x 0) (entered_rejects (problem J) (node s) x L.bound (sym v.tested))

  module _ (f : L.steps ≡ J.limit → ⊥) where
    pub more : L.steps + 1 ≤ J.limit
    more = let apart : L.steps ≢ J.limit = f in omega (arith, s.within)

    abbrev made : List ℕ
    made = set L.path L.depth x

    made_row : Sixteen J made
    made_row = record {
      long = length-set L.path L.depth x ∙ s.chosen.path_row.long;
      rest = drop-set-lt J.tasks L.path L.depth x s.chosen.depth_below ∙ s.chosen.path_row.rest;
    }

    made-choices : (i : ℕ) → i < L.depth → get_or made i 0 ≤ J.cores
    made-choices i j = rw (get_or-set_other L.path L.depth i x 0 (λ q. omega arith)) (s.chosen.path_choices i j)

    -- x is entered for the last task: the placement is stored
    stored_next : J.tasks ≤ L.depth + 1 → {q : List ℕ} → q ≡ made
        → {o : ℕ} → o ≡ cond (eqb x 0) (get_or J.row L.depth 0) 0
        → let w = L.out + o in
        Walking J (locals q L.loads L.out q w w (L.steps + 1) L.depth (L.next + 1))
    stored_next l eq eo = rw (eq, eo) record {
      fixed = s.fixed;
      chosen = record {
        depth_below = s.chosen.depth_below;
        path_row = made_row;
        loads_long = s.chosen.loads_long;
        loads_are = λ c. rw node_kept (s.chosen.loads_are c);
        path_choices = made-choices;
      };
      kept = record { best_row = made_row; rejected_is = rw leaf_is (sym (load_next s x 0)) };
      progress =
          let g = progress_leaf (problem J) s.progress v.within (sym (tasks_are J s.fixed ∙ last)) here in
          rw (add-one L.next, add-one L.steps, leaf_is, ← load_next s x 0)
          (progress_take (problem J) (rw (← v.choice_is) at g) made (sym node_kept));
      next_within = omega (arith, v.within);
      within = more;
    }
      where
        node_kept : take L.depth made ≡ node s
        node_kept = take-set-le L.depth L.path L.depth x (le_refl L.depth)

        last : J.tasks ≡ suc L.depth
        last = omega (arith, s.chosen.depth_below)

        leaf_is : take J.tasks made ≡ node s ++ (x ∷ [])
        leaf_is = rw last (take-suc-set L.path L.depth x (path_room s))

    -- and no other choice of the last task improves on it
    pub stores : J.tasks ≤ L.depth + 1 → {q : List ℕ} → q ≡ made
        → {o : ℕ} → o ≡ cond (eqb x 0) (get_or J.row L.depth 0) 0
        → let w = L.out + o in
        Walking J (locals q L.loads L.out q w w (L.steps + 1) L.depth (J.cores + 1))
    stores l eq {o} eo =
        dite (ℕ_discrete x 0)
        (λ z. past (stored_next l eq eo) (omega (arith, last_choice v z)))
        (λ z. let none : o ≡ 0 = rw (ne_eqb x 0 z) at eo in closes (stored_next l eq eo) (omega arith))

    -- x is entered for another task: the next task's choices follow
    pub descends : L.depth + 1 < J.tasks → {q : List ℕ} → q ≡ made
        → {ls : List ℕ} → ls ≡ on_core (λ y. y + get_or J.row L.depth 0) L.loads x → {o : ℕ} → o ≡ cond (eqb x 0) (get_or J.row L.depth 0) 0
        → Walking J (locals q ls (L.out + o) L.best L.rejected L.bound (L.steps + 1) (L.depth + 1) 0)
    descends l eq el eo = rw (eq, el, eo) record {
      fixed = s.fixed;
      chosen = rw (row_changed ◌+◌ add-zero L.out L.loads x (get_or J.row L.depth 0)) record {
        depth_below = l;
        path_row = made_row;
        loads_long = length-set (held L) x _ ∙ s.chosen.loads_long;
        loads_are = λ c. rw (add-one L.depth, take-suc-set L.path L.depth x (path_room s), load_next s x c)
            (changed (held L) x _ c (omega (arith, choice_small v, s.chosen.loads_long))
            (λ q. rw (q, eq-eqb c c refl)) (λ q. rw (ne_eqb x c q) (sym (add-zero _))));
        path_choices = below_more (λ (k : ℕ). get_or made k 0 ≤ J.cores) L.depth made-choices
            (rw (get_or-set_same L.path L.depth x 0 (path_room s)) (x_within v));
      };
      kept = s.kept;
      progress =
          let n : suc L.depth < length (problem J).demands = omega (arith, tasks_are J s.fixed) in
          let g = progress_descend (problem J) s.progress v.within (path_room s) n here in
          rw (add-one L.depth, add-one L.steps) (rw (← v.choice_is) at g);
      next_within = omega arith;
      within = more;
    }

-- ---- the loops' numbers fall

pub no_choice_left : {m j : ℕ} → j ≤ m → m + 2 - (m + 1) < m + 2 - j
no_choice_left h = omega arith

-- s₀ and d₀ are steps and depth where the loop over choices began
module _ {s s₀ : ℕ} (h : s₀ ≤ s) where
  pub no_fewer : s₀ ≤ s + 1
  no_fewer = omega arith

  pub one_step_less : {limit d d₀ : ℕ} → s + 1 ≤ limit → d ≡ d₀ → 2 * (limit - (s + 1)) + (d + 1) < 2 * (limit - s₀) + d₀
  one_step_less l e = omega arith

-- ---- one task back

pub one_less : {n : ℕ} → (n ≡ 0 → ⊥) → n ≡ suc (n - 1)
one_less {n} f = let g : n ≢ 0 = f in omega arith

-- what is taken back of choice y is there: x of what is rejected, or of the core's load
module _ (x out : ℕ) (l : List ℕ) where
  on_core_lem : (y : ℕ) → x ≤ get_or (out ∷ l) y 0 → x ≤ get_or (x ∷ l) y 0
  on_core_lem zero h = le_refl x
  on_core_lem (suc k) h = h

  of_rejected : (y : ℕ) → x ≤ get_or (out ∷ l) y 0 → cond (eqb y 0) x 0 ≤ out
  of_rejected zero h = h
  of_rejected (suc k) h = rw (ne_eqb (suc k) 0 (λ q. omega arith)) zero-le

-- d is the task before, and y its choice
module _ {J : Job} {L : Locals} (s : Walking J L) {d : ℕ} (ed : L.depth ≡ suc d) {y : ℕ} (ey : y ≡ get_or L.path d 0) where
  y_within : y ≤ J.cores
  y_within = rw ey (s.chosen.path_choices d (omega arith))

  load-was : (c : ℕ) → get_or (held L) c 0 ≡ load (problem J) c (take d L.path) + cond (eqb y c) (get_or J.row d 0) 0
  load-was c =
      let room : d < length L.path = omega (arith, path_room s) in
      let e = length-take-le d L.path (omega arith) in
      s.chosen.loads_are c
      ∙ rw (ed, take-suc L.path d 0 room, ← ey)
      (load_snoc J s.fixed (take d L.path) y c e (omega (arith, s.chosen.depth_below)))

  pub last_small : y < 5
  last_small = omega (arith, y_within, s.fixed.few_cores)

  last_enough : get_or J.row d 0 ≤ get_or (held L) y 0
  last_enough = omega (arith, rw (eq-eqb y y refl) at (load-was y))

  -- on its core, or of what is rejected
  pub last_core : get_or J.row d 0 ≤ get_or (get_or J.row d 0 ∷ L.loads) y 0
  last_core = on_core_lem (get_or J.row d 0) L.out L.loads y last_enough

  pub last_out : cond (eqb y 0) (get_or J.row d 0) 0 ≤ L.out
  last_out = of_rejected (get_or J.row d 0) L.out L.loads y last_enough

  -- all choices have been tried: the task before takes its choice back, and goes on to the next
  taken_back : J.cores < L.next
      → {ls : List ℕ} → ls ≡ on_core (λ x. x - get_or J.row d 0) L.loads y → {o : ℕ} → o ≡ cond (eqb y 0) (get_or J.row d 0) 0
      → Walking J (locals L.path ls (L.out - o) L.best L.rejected L.bound L.steps d (tried_by J.cores y))
  taken_back h el eo = rw (el, eo) record {
    fixed = s.fixed;
    chosen = rw (row_changed ◌-◌ sub-zero L.out L.loads y (get_or J.row d 0)) record {
      depth_below = omega (arith, s.chosen.depth_below);
      path_row = s.chosen.path_row;
      loads_long = length-set (held L) y _ ∙ s.chosen.loads_long;
      loads_are = λ c. changed (held L) y _ c (omega (arith, last_small, s.chosen.loads_long))
          (λ q. rw q (omega (arith, rw (eq-eqb y c q) at (load-was c))))
          (λ q. omega (arith, rw (ne_eqb y c q) at (load-was c)));
      path_choices = λ i j. s.chosen.path_choices i (omega arith);
    };
    kept = s.kept;
    progress = rw ey (progress_back (problem J) (rw ed at s.progress) h);
    next_within = tried_by_le J.cores y y_within;
    within = s.within;
  }

  pub walk_back : J.cores < L.next
      → {ls : List ℕ} → ls ≡ on_core (λ x. x - get_or J.row d 0) L.loads y → {o : ℕ} → o ≡ cond (eqb y 0) (get_or J.row d 0) 0
      → {t : ℕ} → t ≡ cond (leb L.bound (L.out - o)) (J.cores + 1) (tried_by J.cores y)
      → Walking J (locals L.path ls (L.out - o) L.best L.rejected L.bound L.steps d t)
  walk_back h el eo et = resumes (taken_back h el eo) et

-- a choice is looked at only where something may improve
pub may_improve : (b out m j t : ℕ) → t ≡ cond (leb b out) (m + 1) j → t ≤ m → out < b
may_improve b out m j t e h =
    dite (dec_lt out b) (λ x. x) (λ x. let all : t ≡ m + 1 = rw (le-leb b out (omega arith)) at e in absurd (omega arith))
