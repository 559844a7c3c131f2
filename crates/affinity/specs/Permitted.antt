-- Which cores a task may use: its core byte (the field's affinity).
use Rattle.std.specs.Prelude.{ℕ, pred, ◌+◌, ◌-◌, ◌/◌, ◌%◌, ◌^◌, ◌≤◌, ◌<◌, min, ◌≡◌, Bool, true, false, cond, ◌||◌, ◌⊎◌, eqb, ltb}
use Rattle.numbers.specs.First.{first}
use Rattle.numbers.specs.Sums.{sum_from_one}

-- whether a byte permits a core: bit 0 stands for core 1, up to bit 3 for core 4
unfoldable pub permitted : ℕ → ℕ → Bool
permitted byte core = eqb (byte / 2 ^ pred core % 2) 1

-- whether a byte permits a choice: 0, for left out, always
unfoldable pub allowed : ℕ → ℕ → Bool
allowed byte choice = eqb choice 0 || permitted byte choice

-- how many of the cores 1 to m a byte permits
unfoldable pub permitted_count : ℕ → ℕ → ℕ
permitted_count byte m = sum_from_one (λ core. cond (permitted byte core) 1 0) m

-- the lowest of the cores 1 to m that a byte permits; 0 if there is none
unfoldable pub lowest_permitted : ℕ → ℕ → ℕ
lowest_permitted byte m = first (λ k. permitted byte (k + 1)) m

-- a byte that no task may have on m cores: it is 0, or has a bit above core m
unfoldable pub unfit : ℕ → ℕ → Bool
unfit byte m = eqb byte 0 || ltb 0 (byte / 2 ^ m)

-- the same as a statement
abbrev pub Unfit : ℕ → ℕ → Type 0
Unfit byte m = (byte ≡ 0) ⊎ ((core : ℕ) × (m < core) × (permitted byte core ≡ true))

-- the byte that permits each of m cores, of which there are four at most
unfoldable pub every_core : ℕ → ℕ
every_core m = 2 ^ min m 4 - 1

-- A byte that a task may have on m cores: it permits one of them and none above them,
-- and is 1 if it permits core 1, and 2, 4 and 8 more for cores 2, 3 and 4.
pub record CoreByte (m byte : ℕ) : Type 0 where
  pub some : (core : ℕ) × (1 ≤ core) × (core ≤ m) × (permitted byte core ≡ true)
  pub none_above : (core : ℕ) → m < core → permitted byte core ≡ false
  pub weighs : byte ≡ cond (permitted byte 1) 1 0 + cond (permitted byte 2) 2 0 + cond (permitted byte 3) 4 0 + cond (permitted byte 4) 8 0

-- The lowest core that a byte permits: it permits this one, and none below.
pub record IsLowest (byte core : ℕ) : Type 0 where
  pub counted : 1 ≤ core
  pub here : permitted byte core ≡ true
  pub none_below : (below : ℕ) → 1 ≤ below → below < core → permitted byte below ≡ false
