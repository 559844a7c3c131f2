-- The steps of the loop that takes the running multiple, and what it gives within the limits.
use Prim.Native.Nat.{ℕ, zero, suc, ◌+◌, ◌≤◌, ◌<◌}
use mathlib.Core.Path.{◌≡◌, refl, sym, ◌∙◌, ap}
use mathlib.Core.Bool.{true, false}
use native.Mathlib.Omega.{arith}
use native.Mathlib.Numerals.{add-one}
use borrow.Author.Tests.{lt-ltb, le-ltb, ne_eqb}
use Rattle.std.specs.Prelude.{Result, Ok, Err, Option, cond, eqb}
use Rattle.std.specs.Result.{IsOk, result_err}
use Rattle.numbers.specs.First.{first, found}
use Rattle.numbers.specs.Multiples.{lcm, lcms}
use Rattle.numbers.proofs.FirstLaws.{Seeking, seek_start, seek_none, looked_on, looked_found, first_clear}
use Rattle.fields.specs.Most.{most_tasks, most_multiple}
use Rattle.fields.specs.Fields.{period_at}
use Rattle.fields.specs.Hyperperiod.{multiple_to, hyperperiod_of}
use Rattle.fields.specs.Tests.{exceeds}
use Rattle.hyperperiod.specs.Multiple.{multiple_of}
use Rattle.fields.specs.Limits.{Within}
use Rattle.fields.specs.declared.Fields.{Fields}
use Rattle.fields.proofs.HyperperiodLaws.{multiple_bound}

-- The loop over the periods: h is the least common multiple of the first k, and none of them exceeds 1,000,000.
pub record Multiplying (f : Fields) (k h : ℕ) : Type 0 where
  pub few : f.n ≤ most_tasks
  pub seeking : Seeking (exceeds f) f.n k
  pub is : h ≡ multiple_to f k
  pub small : h ≤ most_multiple

pub multiply_start : (f : Fields) → f.n ≤ most_tasks → Multiplying f 0 1
unfolding multiple_to lcms
multiply_start f h = record { few = h; seeking = seek_start (exceeds f) f.n; is = refl; small = omega arith }

module _ {f : Fields} {k h : ℕ} (m : Multiplying f k h) (below : k < f.n) (v : ℕ) (e : v ≡ lcm h (period_at f k)) where
  next_is : v ≡ multiple_to f (k + 1)
  unfolding multiple_to lcms
  next_is = rw add-one (e ∙ ap (λ x. lcm x (period_at f k)) m.is)

  pub multiply_next : v ≤ most_multiple → Multiplying f (k + 1) v
  unfolding exceeds
  multiply_next s = record {
    few = m.few;
    seeking = looked_on {p = exceeds f} {r = false} m.seeking below (sym (rw (← next_is) (le-ltb most_multiple v s))) refl;
    is = next_is;
    small = s;
  }

  pub multiply_exceeded : most_multiple < v → ◌≡◌ {A = Result ℕ ℕ} (Err (k + 1)) (multiple_of f)
  unfolding exceeds multiple_of
  multiply_exceeded s =
      let p = looked_found {p = exceeds f} {r = true} m.seeking below (sym (rw (← next_is) (lt-ltb most_multiple v s))) refl in
      rw (← p, ne_eqb (k + 1) 0 (λ z. omega arith))

pub multiply_done : {f : Fields} {k h : ℕ} → Multiplying f k h → f.n ≤ k → ◌≡◌ {A = Result ℕ ℕ} (Ok h) (multiple_of f)
unfolding multiple_of hyperperiod_of
multiply_done {f} {k} {h} m g =
    let d : k ≡ f.n = omega (arith, m.seeking.top) in
    rw (← seek_none m.seeking g, m.is, d)

-- within the limits it is the hyperperiod
module _ {f : Fields} (w : Within f) {r : Result ℕ ℕ} (e : r ≡ multiple_of f) where
  multiple_value : r ≡ Ok (hyperperiod_of f)
  unfolding multiple_of exceeds
  multiple_value =
      let n = first_clear (exceeds f) f.n (λ k h. le-ltb most_multiple (multiple_to f (k + 1)) (multiple_bound w k h)) in
      e ∙ rw n

  pub multiple_there : IsOk r
  multiple_there = rw multiple_value refl

  pub multiple_is : {h : ℕ} → r ≡ Ok h → h ≡ hyperperiod_of f
  multiple_is {h} o = let z : Ok h ≡ Ok (hyperperiod_of f) = sym o ∙ multiple_value in cc

-- the task at which it exceeds, as the test of number 7 has it
err_found : (k h : ℕ) → result_err (cond (eqb k 0) (Ok h) (Err k)) ≡ found k
unfolding found
err_found zero h = refl
err_found (suc k) h = rw (ne_eqb (suc k) 0 (λ z. omega arith)) refl

pub multiple_place : (f : Fields) {r : Result ℕ ℕ} {place : Option ℕ} → place ≡ result_err r → r ≡ multiple_of f → place ≡ found (first (exceeds f) f.n)
unfolding multiple_of
multiple_place f p e = p ∙ ap (λ r. result_err r) e ∙ err_found (first (exceeds f) f.n) (hyperperiod_of f)
