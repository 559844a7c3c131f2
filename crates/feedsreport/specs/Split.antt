-- Where the bytes of an input are split into a table in the new form and the dependency list behind it.
use Rattle.std.specs.Prelude.{ℕ, ◌+◌, ◌*◌, ◌≤◌, ◌<◌, ◌≡◌, Bool, cond, ◌||◌, List, [], ◌++◌, ltb, length, get_or, take, drop}
use Rattle.numbers.specs.Bounds.{outside, Outside}
use Rattle.fields.specs.Most.{most_tasks}
use Rattle.newform.specs.Form.{task_count, new_length}

-- byte 1 is no number of tasks
unfoldable pub no_count : List ℕ → Bool
no_count input = outside 1 most_tasks (task_count input)

-- there are fewer bytes than so many tasks have
unfoldable pub too_few : List ℕ → Bool
too_few input = ltb (length input) (new_length (task_count input))

-- where the table ends: behind its tasks, or, if either holds, at the end of the input
unfoldable pub split_at : List ℕ → ℕ
split_at input = cond (no_count input || too_few input) (length input) (new_length (task_count input))

-- the table
unfoldable pub table_in : List ℕ → List ℕ
table_in input = take (split_at input) input

-- the list
unfoldable pub list_in : List ℕ → List ℕ
list_in input = drop (split_at input) input

-- The input is split into this table and this list.
pub record Split (input table list : List ℕ) : Type 0 where
  -- If byte 1 is n, 1 to 16, and there are 4 + 9n bytes, these are the table, and those behind them the list.
  pub both : 1 ≤ get_or input 1 0 → get_or input 1 0 ≤ 16 → 4 + 9 * get_or input 1 0 ≤ length input
      → (table ++ list ≡ input) × (length table ≡ 4 + 9 * get_or input 1 0)
  -- If there are fewer, all are the table, and the list is empty;
  pub short : 1 ≤ get_or input 1 0 → get_or input 1 0 ≤ 16 → length input < 4 + 9 * get_or input 1 0 → (table ≡ input) × (list ≡ [])
  -- and so it is if byte 1 is anything else.
  pub other : Outside 1 16 (get_or input 1 0) → (table ≡ input) × (list ≡ [])
