-- Laws of core bytes: what is permitted, how much, and the lowest; which bytes are fit; the byte that permits every core.
use Prim.Native.Nat.{ℕ, zero, suc, pred, ◌+◌, ◌-◌, ◌*◌, ◌/◌, ◌%◌, ◌^◌, ◌≤◌, ◌<◌, min}
use native.Mathlib.Nat.{lt_of_lt_of_le, lt-div-mul-add, div-eq_of_lt, mod-eq_of_lt}
use native.Mathlib.Numerals.{add-one}
use native.Mathlib.Omega.{arith}
use mathlib.Core.Path.{◌≡◌, refl, sym, ap, ◌∙◌}
use mathlib.Core.Bool.{Bool, true, false, cond, not, ◌||◌, or-true, true≢false}
use mathlib.Core.Logic.{inl, inr, ◌↔◌, ⊎_elim, by_cases}
use native.Mathlib.Decide.{ℕ_discrete, dec_lt}
use lib.Dec.{eqb, ltb}
use lib.Pow.{pow_mono, pow_pos}
use lib.Count.{ones, count_trailing_zeros}
use borrow.Author.Tests.{eq-eqb, ne_eqb, eqb-true, eqb-false, ltb-true, ltb-false, not-true, not-false}
use Rattle.numbers.specs.First.{first, first_from}
use Rattle.numbers.specs.Sums.{sum_to}
use Rattle.numbers.proofs.BoolLaws.{true_or_false, cond_le, or_cases, or_false_left, or_false_right}
use Rattle.numbers.proofs.FirstLaws.{first_zero, first_is, first_unique, is_first_map}
use Rattle.numbers.proofs.SumLaws.{sum_to_cong, sum_to_above, sum_to_bound, sum_to_grows, sum_to-full, sum_to_ones}
use Rattle.affinity.specs.Permitted.{permitted, allowed, permitted_count, lowest_permitted, unfit, Unfit, every_core, CoreByte, IsLowest}
use Rattle.affinity.proofs.BitLaws.{digit, digit_or, digit_zero, digit_above, ones_digits, trailing_first}

-- ---- the permitted set

module _ (byte core : ℕ) where
  pub permitted-digit : permitted byte core ≡ true → digit byte (pred core) ≡ 1
  unfolding permitted
  permitted-digit e = eqb-true _ 1 e

  pub digit-permitted : digit byte (pred core) ≡ 1 → permitted byte core ≡ true
  unfolding permitted
  digit-permitted e = eq-eqb _ 1 e

  pub zero_barred : digit byte (pred core) ≡ 0 → permitted byte core ≡ false
  unfolding permitted
  zero_barred e = ne_eqb _ 1 (λ (q : digit byte (pred core) ≡ 1). omega arith)

  -- a core counts its digit
  counts : cond (permitted byte core) 1 0 ≡ digit byte (pred core)
  counts = ⊎_elim (λ e. rw (zero_barred e) (sym e)) (λ e. rw (digit-permitted e) (sym e)) (digit_or byte (pred core))

-- the count of ones is how many cores are permitted
pub count_ones : (byte k : ℕ) → byte < 2 ^ k → ones byte ≡ permitted_count byte k
unfolding permitted_count
count_ones byte k h = ones_digits k byte h ∙ sum_to_cong (digit byte) _ k (λ i l. sym (counts byte (suc i)))

-- a byte that permits one of the cores has the lowest of them
lowest_is : (byte k core : ℕ) → 1 ≤ core → core ≤ k → permitted byte core ≡ true → IsLowest byte (lowest_permitted byte k)
unfolding lowest_permitted
lowest_is byte k core l h t =
    let p : ℕ → Bool = λ j. permitted byte (j + 1) in
    by_cases (ℕ_discrete (first p k) 0)
    (λ z. absurd (true≢false (sym t ∙ back core l ∙ first_zero p k z (core - 1) (omega arith))))
    (λ n.
    let i = first_is p k (first p k - 1) (omega arith) in
    record {
      counted = omega arith;
      here = back (first p k) (omega arith) ∙ i.here;
      none_below = λ below b g. back below b ∙ ⊎_elim (λ q. absurd (i.none (below - 1) (omega arith) q)) (λ q. q) (true_or_false (p (below - 1)));
    })
  where
    back : (c : ℕ) → 1 ≤ c → permitted byte c ≡ permitted byte (c - 1 + 1)
    back c l = ap (permitted byte) (omega arith)

-- the trailing zeros, plus 1, are the lowest permitted core
pub lowest_zeros : (byte k : ℕ) → 0 < byte → byte < 2 ^ k → suc (count_trailing_zeros k byte) ≡ lowest_permitted byte k
unfolding lowest_permitted
lowest_zeros byte k l h =
    sym (first_unique (λ i. permitted byte (i + 1)) k (count_trailing_zeros k byte)
    (is_first_map (λ i b e. digit-permitted byte (i + 1) (ap (digit byte) (at i) ∙ e))
    (λ i b e. sym (ap (digit byte) (at i)) ∙ permitted-digit byte (i + 1) e) (trailing_first k byte l h)))
  where
    at : (i : ℕ) → pred (i + 1) ≡ i
    at i = ap pred (add-one i)

-- no bit is set, so no core is permitted
pub lowest_none : (byte : ℕ) → byte ≡ 0 → 0 ≡ lowest_permitted byte 8
unfolding lowest_permitted first first_from permitted
lowest_none byte e = rw e

-- ---- fit bytes

-- the sixteen bytes of four cores are the sums of their cores, 1, 2, 4 and 8: one computed test
abbrev weight : ℕ → ℕ
weight b = cond (permitted b 1) 1 0 + cond (permitted b 2) 2 0 + cond (permitted b 3) 4 0 + cond (permitted b 4) 8 0

weights : first (λ b. not (eqb b (weight b))) 16 ≡ 0
unfolding first first_from permitted
weights = refl

weighs_all : (b : ℕ) → b < 16 → b ≡ weight b
weighs_all b h = eqb-true b (weight b) (not-false _ (first_zero (λ b. not (eqb b (weight b))) 16 weights b h))

-- above core m nothing is permitted, if nothing is left of the byte there
none_above : (byte m : ℕ) → byte / 2 ^ m ≡ 0 → (core : ℕ) → m < core → permitted byte core ≡ false
none_above byte m e core l =
    zero_barred byte core
    (ap (digit byte) (omega arith) ∙ sym (digit_above byte m (pred core - m)) ∙ ap (λ (x : ℕ). digit x (pred core - m)) e ∙ digit_zero (pred core - m))

below_power : (n : ℕ) → n < 2 ^ n
below_power zero = omega arith
below_power (suc n) = omega (arith, below_power n)

some_above : (byte m : ℕ) → 0 < byte / 2 ^ m → (core : ℕ) × (m < core) × (permitted byte core ≡ true)
some_above byte m l =
    let q = byte / 2 ^ m in
    let t = count_trailing_zeros q q in
    let f = trailing_first q q l (below_power q) in
    (suc (m + t), omega arith, digit-permitted byte (suc (m + t)) (sym (digit_above byte m t) ∙ f.here))

pub unfit_says : (byte m : ℕ) → (unfit byte m ≡ true) ↔ Unfit byte m
unfolding unfit
unfit_says byte m = (
  λ e. ⊎_elim (λ z. inl (eqb-true byte 0 z)) (λ z. inr (some_above byte m (ltb-true 0 _ z))) (or_cases (eqb byte 0) (ltb 0 (byte / 2 ^ m)) e),
  λ u. ⊎_elim (λ (z : byte ≡ 0). ap (λ (x : Bool). x || ltb 0 (byte / 2 ^ m)) (eq-eqb byte 0 z))
      (λ x. ⊎_elim (λ t. ap (λ (x : Bool). eqb byte 0 || x) t ∙ or-true (eqb byte 0)) (λ f. absurd (true≢false (sym x.2 ∙ none_above byte m (omega (arith, ltb-false 0 (byte / 2 ^ m) f)) x.0 x.1)))
      (true_or_false (ltb 0 (byte / 2 ^ m)))) u,
)

-- a byte that is not unfit permits one of the m cores, and counts them
pub fit_byte : (m byte : ℕ) → m ≤ 4 → unfit byte m ≡ false → CoreByte m byte
unfolding unfit
fit_byte m byte few e =
    let some = eqb-false byte 0 (or_false_left (eqb byte 0) (ltb 0 (byte / 2 ^ m)) e) in
    let none : byte / 2 ^ m ≡ 0 = omega (arith, ltb-false 0 (byte / 2 ^ m) (or_false_right (eqb byte 0) (ltb 0 (byte / 2 ^ m)) e)) in
    let low = below_quotient byte m none in
    let f = trailing_first m byte (omega arith) low in
    record {
      some = (suc (count_trailing_zeros m byte), omega arith, f.below, digit-permitted byte (suc (count_trailing_zeros m byte)) f.here);
      none_above = none_above byte m none;
      weighs = weighs_all byte (lt_of_lt_of_le low (pow_mono few));
    }
  where
    below_quotient : (n k : ℕ) → n / 2 ^ k ≡ 0 → n < 2 ^ k
    below_quotient n k e = omega (arith, lt-div-mul-add {a = n} {b = 2 ^ k} (pow_pos k), ap (λ (x : ℕ). x * 2 ^ k) e)

pub fit_not : (m byte : ℕ) → CoreByte m byte → unfit byte m ≡ false
fit_not m byte b = ⊎_elim (λ t. absurd (go ((unfit_says byte m).0 t))) (λ f. f) (true_or_false (unfit byte m))
  where
    go : Unfit byte m → ⊥
    go (inl e) = true≢false (sym b.some.3 ∙ zero_barred byte b.some.0 (ap (λ (x : ℕ). digit x (pred b.some.0)) e ∙ digit_zero (pred b.some.0)))
    go (inr x) = true≢false (sym x.2 ∙ b.none_above x.0 x.1)

-- a byte that a task may have is not 0
pub fit_some : (m byte : ℕ) → CoreByte m byte → 1 ≤ byte
unfolding unfit
fit_some m zero c = absurd (true≢false (fit_not m zero c))
fit_some m (suc byte) c = omega arith

-- ---- how many, and the lowest

count_bit : (byte core : ℕ) → cond (permitted byte core) 1 0 ≤ 1
count_bit byte core = cond_le (permitted byte core) 1 1 (omega arith)

pub count_small : (byte m : ℕ) → permitted_count byte m ≤ m
unfolding permitted_count
count_small byte m = omega (arith, sum_to_bound (λ k. cond (permitted byte (suc k)) 1 0) m 1 (λ k h. count_bit byte (suc k)))

-- of more cores no fewer are permitted,
pub count_grows : (byte m k : ℕ) → m ≤ k → permitted_count byte m ≤ permitted_count byte k
unfolding permitted_count
count_grows byte m k h = let e : k - m + m ≡ k = omega arith in rw e at (sum_to_grows (λ k. cond (permitted byte (suc k)) 1 0) m (k - m))

-- and none more beyond the cores of the table
pub count_within : (m byte k : ℕ) → m ≤ k → CoreByte m byte → permitted_count byte k ≡ permitted_count byte m
unfolding permitted_count
count_within m byte k h b =
    let e : m + (k - m) ≡ k = omega arith in
    rw e at (sum_to_above (λ k. cond (permitted byte (suc k)) 1 0) m (k - m) (λ j i. rw (b.none_above (suc j) (omega arith))))

pub lowest_within : (m byte k : ℕ) → m ≤ k → CoreByte m byte → IsLowest byte (lowest_permitted byte k)
lowest_within m byte k h b = lowest_is byte k b.some.0 b.some.1 (omega (arith, b.some.2)) b.some.3

-- all m cores are permitted exactly if m of them are
pub count-full : (byte m : ℕ) → permitted_count byte m ≡ m → (core : ℕ) → 1 ≤ core → core ≤ m → permitted byte core ≡ true
unfolding permitted_count
count-full byte m e zero i h = absurd (omega arith)
count-full byte m e (suc k) i h =
    let one = sum_to-full (λ k. cond (permitted byte (suc k)) 1 0) m (λ k l. count_bit byte (suc k)) e k h in
    ⊎_elim (λ t. t) (λ f. absurd (let z : 0 ≡ 1 = rw f at one in omega arith)) (true_or_false (permitted byte (suc k)))

pub full-count : (byte m : ℕ) → ((core : ℕ) → 1 ≤ core → core ≤ m → permitted byte core ≡ true) → permitted_count byte m ≡ m
unfolding permitted_count
full-count byte m h = sum_to_cong _ (λ k. 1) m (λ k l. rw (h (suc k) (omega arith) l)) ∙ sum_to_ones m

-- ---- every core

-- the byte that permits every core, as the code makes it: its shift stays in the byte
pub every_is : (m : ℕ) {k : ℕ} → k ≡ min m 4 → 1 * 2 ^ k % 256 - 1 ≡ every_core m
unfolding every_core
every_is m {k} e =
    let small : 1 * 2 ^ k < 256 = omega (arith, pow_mono {i = k} {j = 4} (omega arith)) in
    rw (mod-eq_of_lt small, e) (omega arith)

pub every_fits : (m : ℕ) → 1 ≤ m → m ≤ 4 → unfit (every_core m) m ≡ false
unfolding every_core unfit
every_fits zero l h = absurd (omega arith)
every_fits (suc zero) l h = refl
every_fits (suc (suc zero)) l h = refl
every_fits (suc (suc (suc zero))) l h = refl
every_fits (suc (suc (suc (suc zero)))) l h = refl
every_fits (suc (suc (suc (suc (suc m))))) l h = absurd (omega arith)

every_counts : (m : ℕ) → m ≤ 4 → permitted_count (every_core m) m ≡ m
unfolding permitted_count every_core permitted sum_to
every_counts zero h = refl
every_counts (suc zero) h = refl
every_counts (suc (suc zero)) h = refl
every_counts (suc (suc (suc zero))) h = refl
every_counts (suc (suc (suc (suc zero)))) h = refl
every_counts (suc (suc (suc (suc (suc m))))) h = absurd (omega arith)

pub every_permits : (m : ℕ) → m ≤ 4 → (core : ℕ) → 1 ≤ core → core ≤ m → permitted (every_core m) core ≡ true
every_permits m h = count-full (every_core m) m (every_counts m h)

-- ---- choices

core_allowed : (byte c : ℕ) → allowed byte (suc c) ≡ permitted byte (suc c)
unfolding allowed
core_allowed byte c = ap (λ (x : Bool). x || permitted byte (suc c)) (ne_eqb (suc c) 0 (λ e. omega arith))

-- the choice of a core, as the core after those below it
pub core_is : (byte c : ℕ) → 1 ≤ c → permitted byte (c - 1 + 1) ≡ allowed byte c
core_is byte zero l = absurd (omega arith)
core_is byte (suc c) l = ap (permitted byte) (omega arith) ∙ sym (core_allowed byte c)

pub so_allowed : (byte choice : ℕ) → (1 ≤ choice → permitted byte choice ≡ true) → allowed byte choice ≡ true
so_allowed byte zero h = unfold allowed in refl
so_allowed byte (suc c) h = core_allowed byte c ∙ h (omega arith)

pub allowed_says : (byte choice : ℕ) → (allowed byte choice ≡ false) ↔ ((1 ≤ choice) × (permitted byte choice ≡ false))
allowed_says byte zero = (λ e. absurd (true≢false (sym (so_allowed byte 0 (λ l. absurd (omega arith))) ∙ e)), λ x. absurd (omega (arith, x.0)))
allowed_says byte (suc c) = (λ e. (omega arith, sym (core_allowed byte c) ∙ e), λ x. core_allowed byte c ∙ x.1)

-- a byte permits no core above the eighth
pub above_eight : (byte choice : ℕ) → byte < 2 ^ 8 → 8 < choice → permitted byte choice ≡ false
above_eight byte choice h l = none_above byte 8 (div-eq_of_lt h) choice l

-- ---- the byte of every core is the one that permits each

-- bytes of m cores that permit the same cores are the same
same_byte : (m a b : ℕ) → CoreByte m a → CoreByte m b → ((core : ℕ) → 1 ≤ core → core ≤ m → permitted a core ≡ permitted b core) → a ≡ b
same_byte m a b p q h = p.weighs ∙ rw (each 1 (omega arith), each 2 (omega arith), each 3 (omega arith), each 4 (omega arith)) (sym q.weighs)
  where
    each : (core : ℕ) → 1 ≤ core → permitted a core ≡ permitted b core
    each core l = by_cases (dec_lt m core) (λ g. p.none_above core g ∙ sym (q.none_above core g)) (λ g. h core l (omega arith))

pub every_byte : (m byte : ℕ) → 1 ≤ m → m ≤ 4 → CoreByte m byte → ((core : ℕ) → 1 ≤ core → core ≤ m → permitted byte core ≡ true) → byte ≡ every_core m
every_byte m byte some few b h =
    same_byte m byte (every_core m) b (fit_byte m (every_core m) few (every_fits m some few)) (λ core l g. h core l g ∙ sym (every_permits m few core l g))

-- any other byte bars one of them
pub some_barred : (m byte : ℕ) → 1 ≤ m → m ≤ 4 → CoreByte m byte → (byte ≡ every_core m → ⊥)
    → (core : ℕ) × (1 ≤ core) × (core ≤ m) × (permitted byte core ≡ false)
some_barred m byte some few b other =
    let barred : ℕ → Bool = λ k. not (permitted byte (k + 1)) in
    by_cases (ℕ_discrete (first barred m) 0)
    (λ z. absurd (other (every_byte m byte some few b (λ core l g.
    let e : core - 1 + 1 ≡ core = omega arith in
    rw e at (not-false (permitted byte (core - 1 + 1)) (first_zero barred m z (core - 1) (omega arith)))))))
    (λ n.
    let i = first_is barred m (first barred m - 1) (omega arith) in
    (first barred m - 1 + 1, omega arith, omega (arith, i.below), not-true (permitted byte (first barred m - 1 + 1)) i.here))
