-- The walk's test of a choice is the entry rule.
use Prim.Native.Nat.{ℕ, ◌+◌, ◌≤◌, ◌<◌}
use native.Mathlib.Omega.{arith}
use mathlib.Core.Path.{◌≡◌, sym, ap, ◌∙◌}
use mathlib.Core.Bool.{true, ◌&&◌, true≢false}
use mathlib.Core.List.{List, [], ◌∷◌, ◌++◌}
use mathlib.Core.Logic.{◌↔◌, ⊎_elim}
use lib.ListN.{length, get_or, length-append}
use borrow.Author.Tests.{lt-ltb, ltb-true}
use Rattle.numbers.proofs.BoolLaws.{true_or_false, and_right, and_intro}
use Rattle.numbers.proofs.LoadLaws.{demand_on-same}
use Rattle.allocation.specs.Placement.{Problem, load, rejected}
use Rattle.allocation.specs.Rule.{tried}
use Rattle.allocation.specs.Walk.{fits, improves, entered}
use Rattle.allocation.specs.EntryRule.{Unused, demands_with, Enters}
use Rattle.allocation.proofs.Demands.{unused_none, none_unused, total-all, load_with}
use Rattle.allocation.proofs.Sound.{fits_so, core_fits, entered-fits, entered-tried}
use Rattle.allocation.proofs.EmptyCores.{passed_over, not_tried}

module _ (P : Problem) (positive : (k : ℕ) → k < length P.demands → 1 ≤ get_or P.demands k 0) where
  module _ (p : List ℕ) (c b : ℕ) (short : length p < length P.demands) where
    loaded : load P c (p ++ (c ∷ [])) ≡ demands_with P c p + get_or P.demands (length p) 0
    loaded = demand_on-same c P.demands p short ∙ ap (λ (n : ℕ). n + get_or P.demands (length p) 0) (load_with P c p (omega arith))

    left_out : rejected P (p ++ (c ∷ [])) ≡ demands_with P 0 (p ++ (c ∷ []))
    left_out = load_with P 0 (p ++ (c ∷ [])) (omega (arith, length-append p (c ∷ [])))

    enters : entered P p c b ≡ true → Enters P p c b
    unfolding entered
    enters e =
        let less = ltb-true _ b (and_right (fits P p c && tried P p c) (improves P p c b) e) in
        record {
          fits = λ i. let f = core_fits P p c (entered-fits P p c b e) i in (f.0, omega (arith, f.1, loaded));
          left_out = omega (arith, left_out);
          excess = omega (arith, total-all P);
          lowest = λ h d i l t g. true≢false (sym (entered-tried P p c b e) ∙ not_tried P p c
              (record { lower = d; below = (i, l); empty = unused_none c P.demands p h; lower_empty = unused_none d P.demands p g; twins = t }));
        }

    entered_so : Enters P p c b → entered P p c b ≡ true
    unfolding entered
    entered_so x =
        and_intro _ _ (and_intro _ _ (fits_so P p c (λ i. ((x.fits i).0, omega (arith, (x.fits i).1, loaded)))) looks)
        (lt-ltb _ b (omega (arith, x.left_out, x.excess, left_out, total-all P)))
      where
        none : (d : ℕ) → load P d p ≡ 0 → Unused p d
        none d = none_unused d P.demands p (omega arith) positive

        looks : tried P p c ≡ true
        looks = ⊎_elim (λ t. t)
            (λ t. let y = passed_over P p c t in absurd (x.lowest (none c y.empty) y.lower y.below.0 y.below.1 y.twins (none y.lower y.lower_empty)))
            (true_or_false (tried P p c))

  -- a choice is entered exactly if the entry rule is kept
  pub entry_rule : (p : List ℕ) (c b : ℕ) → length p < length P.demands → (entered P p c b ≡ true) ↔ Enters P p c b
  entry_rule p c b short = (enters p c b short, entered_so p c b short)
