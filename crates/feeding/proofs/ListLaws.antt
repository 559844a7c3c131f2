-- The tests of a list report its refusals, and accept exactly an orderly one.
use Prim.Native.Nat.{ℕ, suc, pred, ◌+◌, ◌≤◌, ◌<◌}
use mathlib.Core.Path.{◌≡◌, refl, ◌∙◌}
use mathlib.Core.Bool.{Bool, true, false}
use mathlib.Core.List.{List, [], ◌∷◌}
use mathlib.Core.Logic.{◌↔◌}
use lib.ListN.{get_or, replicate}
use native.Mathlib.Omega.{arith}
use Rattle.numbers.specs.First.{first}
use Rattle.numbers.proofs.FirstLaws.{first_cong}
use Rattle.refusal.specs.Tests.{in_order}
use Rattle.refusal.specs.Conditions.{Tested}
use Rattle.refusal.specs.declared.Cause.TheVariants.{Pair, Circle}
use Rattle.refusal.proofs.ConditionLaws.{then_reports, test_at, no_more}
use Rattle.fields.specs.declared.Fields.{Fields}
use Rattle.precedence.specs.Circles.{circular}
use Rattle.precedence.proofs.CircleLaws.{circular_exactly, path_task}
use Rattle.precedence.proofs.WidthLaws.{reach_cong}
use Rattle.relation.specs.Cells.{edge, Cells, with_pair}
use Rattle.relation.proofs.CellLaws.{cells_none}
use Rattle.pairs.specs.Pairs.{pair_count, feeding, fed, said_by, feeds}
use Rattle.pairs.specs.Fit.{PairFits, list_unformed, pair_unfit}
use Rattle.pairs.proofs.FitLaws.{list_tested, unfit_exactly, not_unfit, feeds_exactly, fit_among}
use Rattle.feeding.specs.Tests.{unfit_at, list_tests}
use Rattle.feeding.specs.Limits.{Orderly, circle_there, list_conditions}

-- ---- the tests in order

module _ (f : Fields) (list : List ℕ) where
  pair_exactly : (i : ℕ) → (unfit_at f.n f.periods list i ≡ true) ↔ (PairFits f.n f.periods list i → ⊥)
  unfolding unfit_at feeding fed
  pair_exactly i = unfit_exactly f.n f.periods (feeding list i) (fed list i)

  pub all_fit : ((i : ℕ) → i < get_or list 0 0 → (PairFits f.n f.periods list i → ⊥) → ⊥) → (i : ℕ) → i < get_or list 0 0 → PairFits f.n f.periods list i
  all_fit n i h = not_unfit f.n f.periods (get_or list (1 + i) 0) (get_or list (1 + get_or list 0 0 + i) 0) (n i h)

  pub list_accepts : Tested (Orderly f list) (list_conditions f list) (in_order (list_tests f list))
  unfolding in_order
  list_accepts =
      let shape = list_tested list in
      record {
        reports =
            then_reports (list_unformed list ∷ []) (pair_unfit f.n f.periods list ∷ circle_there f list ∷ []) shape.reports (λ _.
            then_reports (pair_unfit f.n f.periods list ∷ []) (circle_there f list ∷ []) (test_at Pair (λ k. (refl, refl)) pair_exactly) (λ n.
            then_reports (circle_there f list ∷ []) []
            (test_at Circle (λ k. (refl, refl)) (circular_exactly (feeds_exactly list) f.n (fit_among f.n f.periods list (all_fit n.0))))
            (λ _. no_more)));
        valid = (
          λ n.
              let fits = all_fit n.1.0 in
              record {
                formed = shape.valid.0 (n.0, tt);
                fit = fits;
                no_circle = λ t p.
                    let k = path_task (fit_among f.n f.periods list fits) p in
                    let e : suc (pred t) ≡ t = omega (arith, k.least) in
                    n.1.1.0 (pred t) (omega (arith, k.least, k.most)) (rw e p);
              },
          λ o. ((shape.valid.1 o.formed).0, (λ i h u. u (o.fit i h), (λ k h p. o.no_circle (suc k) p, tt))),
        );
      }

-- ---- the cells that the pairs make

module _ (list : List ℕ) where
  -- of no pair,
  pub gather_start : Cells (replicate 289 false) (said_by list 0)
  unfolding said_by
  gather_start = cells_none (said_by list 0) (λ a b. refl)

  -- of one pair more than the first i,
  pub gather_next : (i : ℕ) {cells next : List Bool} {a b : ℕ} → Cells cells (said_by list i) → a ≡ feeding list i → b ≡ fed list i
      → Cells next (with_pair (edge cells) a b) → Cells next (said_by list (i + 1))
  unfolding said_by with_pair
  gather_next i s p q w =
      let one : i + 1 ≡ suc i = omega arith in
      rw one (record { size = w.size; at = λ x y u v. w.at x y u v ∙ rw (s.at x y u v, p, q) })

  -- and of all
  pub gather_done : (i : ℕ) {cells : List Bool} → Cells cells (said_by list i) → i ≡ pair_count list → Cells cells (feeds list)
  unfolding feeds
  gather_done i s e = rw e at s

-- the lowest task on a circle of the cells is that of the pairs
pub circle_same : (list : List ℕ) (n : ℕ) {cells : List Bool} {x : ℕ} → n ≤ 16 → Cells cells (feeds list) → x ≡ first (circular (edge cells) n) n → x ≡ first (circular (feeds list) n) n
unfolding circular
circle_same list n {cells} h s e =
    e ∙ first_cong (circular (edge cells) n) (circular (feeds list) n) n
    (λ k b. reach_cong (edge cells) (feeds list) 17 s.at n (omega arith) (suc k) (suc k) (omega arith) (omega arith))
