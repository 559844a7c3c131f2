-- What a function that is given another one learns of its calls.
use Rattle.std.specs.Prelude.{ℕ, ◌<◌, ◌≡◌}

-- Each call at an index below n gives what f says there.
abbrev pub Tells : {A : Type 0} → ℕ → (ℕ → A → Type 0) → (ℕ → A) → Type 0
Tells n Gives f = (k : ℕ) (x : _) → k < n → Gives k x → x ≡ f k
