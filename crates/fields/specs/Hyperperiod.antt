-- The hyperperiod.
use Rattle.std.specs.Prelude.{ℕ}
use Rattle.numbers.specs.Multiples.{lcms}
use Rattle.fields.specs.Fields.{period_at}
use Rattle.fields.specs.declared.Fields.{Fields}

-- the least common multiple of the first k periods
unfoldable pub multiple_to : Fields → ℕ → ℕ
multiple_to f k = lcms (period_at f) k

-- the hyperperiod (the paper's frame H): the least common multiple of the periods
unfoldable pub hyperperiod_of : Fields → ℕ
hyperperiod_of f = multiple_to f f.n
