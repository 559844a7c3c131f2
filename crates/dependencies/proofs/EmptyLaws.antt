-- A list without pairs: the tasks by their numbers.
use Prim.Native.Nat.{ℕ, suc, pred, ◌≤◌, ◌<◌}
use mathlib.Core.Path.{◌≡◌, refl, sym, ◌∙◌}
use mathlib.Core.List.{List, [], ◌∷◌}
use lib.ListN.{get_or}
use native.Mathlib.Omega.{arith}
use Rattle.numbers.specs.Rows.{row}
use Rattle.numbers.proofs.BoundLaws.{not_less}
use Rattle.numbers.proofs.RowLaws.{length-row, get_or-row, row_beyond}
use Rattle.refusal.specs.Causes.{number_in}
use Rattle.refusal.specs.Conditions.{First}
use Rattle.taskset.specs.Table.{Table, Sound}
use Rattle.precedence.specs.Paths.{Path, one, more}
use Rattle.precedence.specs.Order.{IsOrder}
use Rattle.pairs.specs.Fit.{Feeds}
use Rattle.feeding.specs.Limits.{Orderly}
use Rattle.fields.specs.declared.Fields.{Fields}
use Rattle.dependencies.specs.Order.{order_of}
use Rattle.dependencies.proofs.PromiseLaws.{order-all}

-- the list of the one byte 0
abbrev no_pairs : List ℕ
no_pairs = 0 ∷ []

nothing-feeds : (a b : ℕ) → Feeds no_pairs a b → ⊥
nothing-feeds a b f = omega (arith, f.1)

no_circle : {a b : ℕ} → Path (Feeds no_pairs) a b → ⊥
no_circle (one {a} {b} e) = nothing-feeds a b e
no_circle (more {a} {b} e p) = nothing-feeds a b e

orderly : (f : Fields) → Orderly f no_pairs
orderly f = record {
  formed = record { some = omega arith; few = omega arith; exact = refl };
  fit = λ i h. absurd (omega arith);
  no_circle = λ t p. no_circle p;
}

module _ (n : ℕ) (few : n < 17) where
  at : (i : ℕ) → i < n → get_or (row 0 n suc) i 0 ≡ suc i
  at i h = get_or-row 0 n suc i h (omega arith)

  by_number : IsOrder (Feeds no_pairs) n (row 0 n suc)
  by_number = record {
    tasks = λ i h. rw (at i h) (record { least = omega arith; most = h });
    each = λ t k. let b : pred t < n = omega (arith, k.least, k.most) in (pred t, b, at (pred t) b ∙ omega (arith, k.least));
    once = λ i j h g e. omega (arith, at i h, at j g, e);
    after = λ i j h g e. absurd (nothing-feeds _ _ e);
    lowest = λ i h t r. rw (at i h) (not_less t (suc i) (λ b.
        let d : pred t < n = omega (arith, r.task.least, r.task.most) in
        r.new (pred t, omega (arith, r.task.least), at (pred t) d ∙ omega (arith, r.task.least))));
    beyond = λ i h. row_beyond 0 n suc i h;
  }

-- A valid table's tasks stand by their numbers, 1 to n.
pub by_numbers : {t : Table} → Sound t → ((number place : ℕ) → First t.conditions number place → number ≤ 18) → t.Valid → (order_of t (0 ∷ [])).order ≡ row 0 t.fields.n suc
by_numbers {t} s below v =
    let p = (order-all s below no_pairs refl).1.1 in
    let z : number_in (order_of t no_pairs).outcome ≡ 0 = p.accepted.1 (v, orderly t.fields) in
    sym (p.only z (row 0 t.fields.n suc) (length-row 0 t.fields.n suc) (by_number t.fields.n (omega (arith, (s.within v).sizes.tasks.1))))
