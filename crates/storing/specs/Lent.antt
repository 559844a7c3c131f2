-- What a call gives that stores the fields of a table in a lent output, whatever its table, the bytes that it makes of the fields, and the
-- cause with which it refuses an output without room.
use Rattle.std.specs.Prelude.{ℕ, List, ◌++◌, length, drop, Ok, Err}
use Rattle.refusal.specs.Tests.{◌then◌, room_test, by_outcome}
use Rattle.refusal.specs.declared.Cause.{Cause}
use Rattle.refusal.specs.Outcome.{Outcome}
use Rattle.taskset.specs.Table.{Table}
use Rattle.fields.specs.declared.Fields.{Fields}
use Rattle.storing.specs.declared.Transfer.{Transfer}

-- the answer by the outcome of all tests: the length of what is stored, or 0 beside a refusal
unfoldable pub transfer_by : Outcome → ℕ → Transfer
transfer_by = by_outcome (λ cause. record { outcome = Err cause; length = 0 }) (λ size. record { outcome = Ok tt; length = size })

-- every byte of the output by the outcome of all tests: as it was, or what is stored in front of what stands behind it
unfoldable pub exit_by : List ℕ → Outcome → List ℕ → List ℕ
exit_by out = by_outcome (λ cause. out) (λ bytes. bytes ++ drop (length bytes) out)

-- the answer after tests, for an output of this length; the room is tested last
unfoldable pub transfer_after : Cause → Outcome → List ℕ → ℕ → Transfer
transfer_after cause before bytes room = transfer_by (before then room_test cause (length bytes) room) (length bytes)

-- every byte of the output at exit
unfoldable pub exit_after : Cause → Outcome → List ℕ → List ℕ → List ℕ
exit_after cause before bytes out = exit_by out (before then room_test cause (length bytes) (length out)) bytes

-- the answer and the output of a call that stores a table's fields as these bytes
abbrev pub transfer_of : Cause → (Fields → List ℕ) → Table → ℕ → Transfer
transfer_of cause bytes t room = transfer_after cause t.outcome (bytes t.fields) room

abbrev pub exit_of : Cause → (Fields → List ℕ) → Table → List ℕ → List ℕ
exit_of cause bytes t out = exit_after cause t.outcome (bytes t.fields) out
