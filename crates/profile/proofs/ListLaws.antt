-- The list is that of the divisors of 10,000.
use Prim.Native.Nat.{ℕ, zero, suc, ◌*◌, ◌/◌, ◌%◌, ◌≤◌, ◌<◌, ◌∣◌}
use mathlib.Core.Path.{◌≡◌, refl, sym, ◌∙◌, ap}
use mathlib.Core.Bool.{Bool, false, not, ◌&&◌, ◌||◌}
use mathlib.Core.Logic.{◌↔◌, ◌≢◌, by_cases}
use lib.Dec.{eqb}
use native.Mathlib.Decide.{dec_lt}
use native.Mathlib.Nat.{dvd_of_mod-eq-zero, mod-eq-zero_of_dvd, dvd-mul_right, div-mul_cancel, mul-div_cancel_left, mul-le-mul_right, pos_of_dvd_of_pos}
use native.Mathlib.Omega.{arith}
use borrow.Author.Tests.{eqb-true, eqb-false, eq-eqb, not-false}
use Rattle.numbers.specs.First.{first_from, first}
use Rattle.numbers.specs.Multiples.{IsLcm}
use Rattle.numbers.specs.Rows.{entry}
use Rattle.numbers.proofs.BoolLaws.{or_false_left, or_false_right}
use Rattle.numbers.proofs.FirstLaws.{first_zero, first_is}
use Rattle.profile.specs.Periods.{bus_periods, is_entry, bus_place, Listed}

-- ---- each entry divides 10,000

undivided : ℕ → Bool
undivided i = not (eqb (10000 % entry bus_periods i) 0)

-- the one computed test,
all_divide : first undivided 25 ≡ 0
unfolding first first_from undivided
all_divide = refl

-- lifted to each entry
entry_divides : (i : ℕ) → i < 25 → entry bus_periods i ∣ 10000
unfolding undivided
entry_divides i h = dvd_of_mod-eq-zero _ (eqb-true _ 0 (not-false _ (first_zero undivided 25 all_divide i h)))

pub listed_divides : (period : ℕ) → Listed period → period ∣ 10000
listed_divides period l = rw l.2 at (entry_divides l.0 l.1)

-- so does the least common multiple of listed numbers
pub listed_multiple : (f : ℕ → ℕ) (n h : ℕ) → ((k : ℕ) → k < n → Listed (f k)) → IsLcm f n h → h ∣ 10000
listed_multiple f n h each l = l.least 10000 (λ k b. listed_divides (f k) (each k b))

-- ---- each divisor of 10,000 is an entry

-- a period has a place exactly if it is in the list
pub place_listed : (period : ℕ) → (bus_place period ≢ 0) ↔ Listed period
unfolding bus_place is_entry
place_listed period = (λ n. found (bus_place period) refl n, λ l z. eqb-false _ _ (first_zero (is_entry period) 25 z l.0 l.1) l.2)
  where
    found : (place : ℕ) → bus_place period ≡ place → bus_place period ≢ 0 → Listed period
    found zero e n = absurd (n e)
    found (suc i) e n = let a = first_is (is_entry period) 25 i e in (i, a.below, eqb-true _ _ a.here)

-- k + 1 divides 10,000, and it or what it divides 10,000 into has no place
missing : ℕ → Bool
missing k = eqb (10000 % suc k) 0 && (eqb (bus_place (suc k)) 0 || eqb (bus_place (10000 / suc k)) 0)

none_missing : first missing 100 ≡ 0
unfolding first first_from missing bus_place is_entry
none_missing = refl

both_placed : (d : ℕ) → 1 ≤ d → d ≤ 100 → d ∣ 10000 → (bus_place d ≢ 0) × (bus_place (10000 / d) ≢ 0)
unfolding missing
both_placed zero some few d = absurd (omega arith)
both_placed (suc k) some few d =
    let divides = eq-eqb _ 0 (mod-eq-zero_of_dvd (suc k) d) in
    let neither : (eqb (bus_place (suc k)) 0 || eqb (bus_place (10000 / suc k)) 0) ≡ false = rw divides at (first_zero missing 100 none_missing k (omega arith)) in
    (eqb-false _ 0 (or_false_left (eqb (bus_place (suc k)) 0) _ neither), eqb-false _ 0 (or_false_right (eqb (bus_place (suc k)) 0) _ neither))

-- of two factors of 10,000 one is at most 100
module _ (period : ℕ) (some : 1 ≤ period) (d : period ∣ 10000) where
  abbrev other : ℕ
  other = 10000 / period

  product : other * period ≡ 10000
  product = div-mul_cancel period d

  large_placed : 100 < period → bus_place period ≢ 0
  large_placed many =
      let few : other ≤ 100 = by_cases (dec_lt 99 other) (λ h. absurd (omega (arith, mul-le-mul_right period h, product, many))) (λ h. omega (arith, h)) in
      let divides : other ∣ 10000 = rw product at (dvd-mul_right other period) in
      let first = pos_of_dvd_of_pos divides (omega arith) in
      rw (ap (λ (x : ℕ). x / other) (sym product) ∙ mul-div_cancel_left period first) at (both_placed other first few divides).1

  divisor_placed : bus_place period ≢ 0
  divisor_placed = by_cases (dec_lt 100 period) large_placed (λ few. (both_placed period some (omega (arith, few)) d).0)

-- a number from 1 on is in the list exactly if it divides 10,000
pub listed_exactly : (period : ℕ) → 1 ≤ period → Listed period ↔ (period ∣ 10000)
listed_exactly period some = (listed_divides period, λ d. (place_listed period).0 (divisor_placed period some d))

pub placed_exactly : (period : ℕ) {place : ℕ} → place ≡ bus_place period → 1 ≤ period → (place ≢ 0) ↔ (period ∣ 10000)
placed_exactly period e some = rw e (λ n. listed_divides period ((place_listed period).0 n), divisor_placed period some)

-- what is promised of a place
pub place_all : (period : ℕ) {place : ℕ} → place ≡ bus_place period → (place ≡ bus_place period) × (1 ≤ period → (place ≢ 0) ↔ (period ∣ 10000))
place_all period e = (e, placed_exactly period e)
