-- What the search for the least common multiple gives.
use Rattle.std.specs.Prelude.{ℕ, cond, eqb, Result, Ok, Err}
use Rattle.numbers.specs.First.{first}
use Rattle.fields.specs.Hyperperiod.{hyperperiod_of}
use Rattle.fields.specs.Tests.{exceeds}
use Rattle.fields.specs.declared.Fields.{Fields}

-- the hyperperiod, or the first task at which the least common multiple exceeds 1,000,000
unfoldable pub multiple_of : Fields → Result ℕ ℕ
multiple_of f = cond (eqb (first (exceeds f) f.n) 0) (Ok (hyperperiod_of f)) (Err (first (exceeds f) f.n))
