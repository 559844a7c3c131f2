-- The complete walk ends with the best plan.
use Prim.Native.Nat.{ℕ, zero, suc, ◌+◌, ◌≤◌, ◌<◌, zero-le}
use native.Mathlib.Omega.{arith}
use mathlib.Core.Path.{◌≡◌, refl}
use mathlib.Core.List.{List, [], ◌∷◌}
use mathlib.Core.Logic.{inl, ◌↔◌, ◌≢◌}
use lib.ListN.{length, get_or, replicate, length-replicate}
use lib.Seq.{take_all}
use Rattle.allocation.specs.Placement.{Problem, Feasible, Full, rejected, total}
use Rattle.allocation.specs.Best.{IsBest}
use Rattle.numbers.proofs.LoadLaws.{demand_on_le_sum, none_loads, none_rejects}
use Rattle.numbers.proofs.ZeroLaws.{zero_at}
use Rattle.allocation.proofs.Demands.{unused_none, none_unused}
use Rattle.allocation.specs.Walk.{trace, visit, step_into, stored, bound_after, stored_after}
use Rattle.allocation.proofs.Steps.{Leaves, leaves_stored, falling-stored}
use Rattle.allocation.proofs.Sound.{Partial, visit-falling, into_sound}
use Rattle.allocation.specs.Rule.{Redundant}
use Rattle.allocation.proofs.Complete.{Kept, deep}

module _ (P : Problem) where
  -- every task rejected
  abbrev pub none : List ℕ
  none = replicate (length P.demands) 0

  pub none_feasible : Feasible P none
  none_feasible = record {
    whole = length-replicate (length P.demands) 0;
    core = λ k l. rw zero_at zero-le;
    permitted = λ k l i. absurd (omega (arith, rw zero_at at i));
    fits = λ c i j. rw (none_loads c i P.demands (length P.demands)) zero-le;
  }

  -- nothing chosen yet
  pub start : Partial P []
  start = record {
    core = λ k l. absurd (omega arith);
    permitted = λ k l. absurd (omega arith);
    fits = λ c i j. rw (none_loads c i P.demands 0) zero-le;
  }

  -- what the walk completes is feasible, where the number of tasks is k
  sound : (k : ℕ) → length P.demands ≡ k → Leaves P (λ _. Feasible P) (total P + 1) (visit P k [] (total P + 1))
  unfolding visit step_into
  sound zero l = tt
  sound (suc k) l = into_sound P (suc k) [] (total P + 1) (omega arith) start

  -- whatever the limit, what is stored is feasible
  pub stored_feasible : (limit : ℕ) → Feasible P (stored P limit)
  unfolding stored trace
  stored_feasible limit = leaves_stored P (Feasible P) limit (total P + 1) none (trace P) none_feasible (sound (length P.demands) refl)

  -- a larger limit does not reject more
  pub stored_falls : (i j : ℕ) → j ≤ i → rejected P (stored P i) ≤ rejected P (stored P j)
  unfolding stored trace
  stored_falls i j h =
      falling-stored P i j (total P + 1) none (trace P) h
      (λ p l. omega (arith, none_rejects P.demands)) (visit-falling P (length P.demands) [] (total P + 1))

  module _ (redundant : Redundant P) where
    -- a step to no choices would change nothing
    root : (k : ℕ) → length P.demands ≡ k
        → stored_after none (visit P k [] (total P + 1)) ≡ stored_after none (step_into k [] ∷ visit P k [] (total P + 1))
    unfolding visit step_into stored_after
    root zero l = rw l
    root (suc k) l = refl

    -- the complete walk
    pub stored_best : (limit : ℕ) → length (trace P) ≤ limit → IsBest P (stored P limit)
    unfolding stored trace
    stored_best limit h = record {
      feasible = stored_feasible limit;
      least = λ x g. omega (arith, beaten x g, s.bound);
      first = λ x g e. s.first x g (omega (arith, beaten (stored P limit) (stored_feasible limit), s.bound));
    }
      where
        small : (x : List ℕ) → rejected P x ≤ total P
        small x = demand_on_le_sum 0 P.demands x

        b : ℕ
        b = bound_after P (total P + 1) (step_into (length P.demands) [] ∷ trace P)

        s : Kept P (λ x. ⊥) b (stored P limit)
        s = rw (take_all limit (trace P) h, root (length P.demands) refl)
            (deep P redundant (length P.demands) (λ x. ⊥) [] (λ r x y. absurd y) (omega arith) (total P + 1) none
            (omega (arith, small [])) (record {
              bound = omega (arith, small none);
              first = λ x g e. absurd (omega (arith, small x));
              left = λ x g e. inl (x, refl);
            }))

        beaten : (x : List ℕ) → Feasible P x → b ≤ rejected P x
        beaten x g = let m : ¬ (rejected P x < b) = s.left x g in omega arith

not_zero : {n : ℕ} → n ≢ 0 → 1 ≤ n
not_zero h = omega arith

-- With the least rejected demand, nothing is rejected exactly if a full placement exists.
pub full_iff : (P : Problem) → ((k : ℕ) → k < length P.demands → 1 ≤ get_or P.demands k 0)
    → (p : List ℕ) → Feasible P p → ((q : List ℕ) → Feasible P q → rejected P p ≤ rejected P q)
    → (rejected P p ≡ 0) ↔ ((q : List ℕ) × Feasible P q × Full q)
full_iff P positive p f least = (
  λ e. (p, f, λ k h. not_zero (none_unused 0 P.demands p (omega (arith, f.whole)) positive e k h)),
  λ x. omega (arith, least x.0 x.1, unused_none 0 P.demands x.0 (λ k h e. omega (arith, x.2 k h))),
)
