-- The words of the verdicts as data, which `verdict_word` has to be.
use Rattle.std.specs.Prelude.{ℕ, ◌≡◌, List, [], ◌∷◌}
use Prim.Native.String.{String}
use Rattle.text.specs.Ascii.{ascii}
use Rattle.refusal.specs.declared.Cause.{Cause}
use Rattle.planner.specs.declared.Verdict.{Verdict}
use Rattle.planner.specs.declared.Verdict.TheVariants.{All, Short, Spent, Refused}
use Rattle.report.specs.Output.{verdict_word}

-- A row of the table: a verdict, its word, the codes of the word's letters.
pub data VerdictRow : Type 0 where
  verdict : Verdict → String → List ℕ → VerdictRow

-- the table
abbrev pub verdict_table : Cause → List VerdictRow
verdict_table cause =
    verdict All "all" (97 ∷ 108 ∷ 108 ∷ [])
    ∷ verdict Short "short" (115 ∷ 104 ∷ 111 ∷ 114 ∷ 116 ∷ [])
    ∷ verdict Spent "spent" (115 ∷ 112 ∷ 101 ∷ 110 ∷ 116 ∷ [])
    ∷ verdict (Refused cause) "refused" (114 ∷ 101 ∷ 102 ∷ 117 ∷ 115 ∷ 101 ∷ 100 ∷ [])
    ∷ []

-- Word and letters of each row are those that the definition gives its verdict.
abbrev pub Agrees : List VerdictRow → Type 0
Agrees [] = Unit {0}
Agrees (verdict v said letters ∷ rows) = (verdict_word v ≡ ascii said) × (verdict_word v ≡ letters) × Agrees rows
