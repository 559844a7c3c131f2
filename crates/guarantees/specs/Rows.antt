-- The paper's worked rows, and rows that each fix what no other does, as lists, one for each request, and one statement that goes down a list.
use Rattle.std.specs.Prelude.{ℕ, ◌-◌, ◌≡◌, List, [], ◌∷◌, ◌++◌, length, replicate, Ok}
use Prim.Native.String.{String}
use Rattle.numbers.specs.Rows.{row, entry}
use Rattle.refusal.specs.Conditions.{Gives}
use Rattle.refusal.specs.declared.Cause.TheVariants.{Buffer}
use Rattle.taskset.specs.Table.{Table, reading_of}
use Rattle.fields.specs.declared.Fields.{Fields}
use Rattle.oldform.specs.Form.{old_table, every_affinity, old_bytes}
use Rattle.oldform.specs.Limits.{beside, alone}
use Rattle.newform.specs.Form.{new_table, new_bytes}
use Rattle.newform.specs.Limits.{new}
use Rattle.storing.specs.Lent.{transfer_of, exit_of}
use Rattle.transfer.specs.Tables.{written, returned}
use Rattle.storing.specs.declared.Transfer.{Transfer}
use Rattle.planner.specs.Plan.{plan_of, verdict_outcome}
use Rattle.planner.specs.declared.Allocation.{Allocation}
use Rattle.planner.specs.declared.Verdict.{Verdict}
use Rattle.planner.specs.declared.Verdict.TheVariants.{All, Short, Spent}
use Rattle.bus.specs.Limits.{bus}
use Rattle.quick.specs.Quick.{quick_of}
use Rattle.ceiling.specs.Ceiling.{ceiling_of}
use Rattle.quickreport.specs.Output.{quick_output_of}
use Rattle.dependencies.specs.Order.{order_of as task_order_of}
use Rattle.feedsreport.specs.Output.{feeds_output_of}
use Rattle.runs.specs.declared.Run.{Run}
use Rattle.runs.specs.Runs.{run}
use Rattle.recording.specs.Tests.{write_answer, log_after}
use Rattle.replay.specs.Tests.{expand_answer, row_after}
use Rattle.logwords.specs.Words.{words_after}
use Rattle.edf.specs.declared.Slot.{Slot}
use Rattle.edf.specs.Slots.{empty_slot}
use Rattle.edf.specs.Guarantee.{runs}
use Rattle.edf.specs.Tick.{tick, ticked}
use Rattle.start.specs.Starts.{start_of}
use Rattle.text.specs.Ascii.{ascii}
use Rattle.report.specs.Output.{plan_lines, output_of}

-- A call that stores a table in a lent output: the writer of the new form, the move from the old form, and the move back.
pub data Storing : Type 0 where
  write : Fields → Storing
  to_new : List ℕ → Storing
  to_old : List ℕ → Storing

-- the table that it goes by, and the bytes that it makes of the fields
abbrev pub table_for : Storing → Table
table_for (write fields) = written fields
table_for (to_new table) = alone table
table_for (to_old table) = returned table

abbrev pub bytes_for : Storing → Fields → List ℕ
bytes_for (write fields) = new_bytes
bytes_for (to_new table) = new_bytes
bytes_for (to_old table) = old_bytes

-- its answer for an output of this length, and the output at exit
abbrev pub answer_to : Storing → ℕ → Transfer
answer_to call room = transfer_of Buffer (bytes_for call) (table_for call) room

abbrev pub out_after : Storing → List ℕ → List ℕ
out_after call out = exit_of Buffer (bytes_for call) (table_for call) out

-- A row: a table's hyperperiod; a plan with its verdict, cores, left-out demand and steps; a quick plan with its cores and left-out demand;
-- a step ceiling; a refusal with its number and place; a fresh core's slots, or its refusal; the tasks run by the ticks of a fresh core; one tick of
-- given slots, with the task run, the late task and the next slots, or its refusal's place. Of tables in the new form: their fields and hyperperiod, or
-- the refusal of the reader; a stored table's length and the output, or the refusal, which leaves the output; the whole output of the program, and
-- that of the quick one; the lines of a table and an answer that is given by hand; a dependency list's order, or its refusal, which gives zeros; the
-- whole output of the program for a table and a list. Of tables for bus drives: the hyperperiod of an accepted one; the refusal of reader and planner; a
-- plan; the whole output of the program. Of the run log, written and expanded: number, place and count, and the row at exit; the same row as numbers. Last, a row of the calls before these on a board with a charge, and one with core bytes.
pub data Row : Type 0 where
  frames : List ℕ → ℕ → Row
  plans : List ℕ → ℕ → Verdict → List ℕ → ℕ → ℕ → Row
  quick : List ℕ → List ℕ → ℕ → Row
  ceilings : List ℕ → ℕ → Row
  refuses : List ℕ → ℕ → ℕ → ℕ → Row
  starts : List ℕ → List ℕ → ℕ → List Slot → Row
  refuses_core : List ℕ → List ℕ → ℕ → ℕ → ℕ → Row
  ticks : List ℕ → List ℕ → ℕ → List (List ℕ) → List ℕ → Row
  tick_once : List Slot → List ℕ → ℕ → ℕ → List Slot → Row
  refuses_tick : List Slot → ℕ → Row
  reads_new : List ℕ → Fields → ℕ → Row
  refuses_new : List ℕ → ℕ → ℕ → Row
  stores : Storing → List ℕ → ℕ → List ℕ → Row
  refuses_store : Storing → List ℕ → ℕ → ℕ → Row
  prints : List ℕ → String → Row
  prints_quick : List ℕ → String → Row
  lists : List ℕ → Allocation → String → Row
  orders : List ℕ → List ℕ → List ℕ → Row
  refuses_list : List ℕ → List ℕ → ℕ → ℕ → Row
  prints_order : List ℕ → String → Row
  frames_bus : List ℕ → ℕ → Row
  refuses_bus : List ℕ → ℕ → ℕ → Row
  plans_bus : List ℕ → ℕ → Verdict → List ℕ → ℕ → ℕ → Row
  prints_bus : List ℕ → String → Row
  writes_log : List ℕ → List Run → ℕ → ℕ → ℕ → List Run → Row
  expands_log : List Run → List ℕ → ℕ → ℕ → ℕ → List ℕ → Row
  writes_words : List ℕ → List ℕ → List ℕ → Row
  charged : ℕ → Row → Row
  tied : List ℕ → Row → Row

-- what a row says where this is the board's charge, and these are a table's core bytes; a table in the new form has its own
abbrev pub Holds : ℕ → (List ℕ → List ℕ) → Row → Type 0
Holds charge bytes (frames table hyperperiod) = (reading_of (beside table charge (bytes table))).tasks.hyperperiod ≡ hyperperiod
Holds charge bytes (plans table limit verdict cores rejected steps) =
    plan_of (beside table charge (bytes table)) limit ≡ record { verdict = verdict; placement = row 0 (length cores) (entry cores); rejected = rejected; steps = steps }
Holds charge bytes (quick table cores rejected) =
    quick_of (beside table charge (bytes table)) ≡ record { outcome = Ok tt; placement = row 0 (length cores) (entry cores); rejected = rejected }
Holds charge bytes (ceilings table ceiling) = ceiling_of (beside table charge (bytes table)) ≡ record { outcome = Ok tt; ceiling = ceiling }
Holds charge bytes (refuses table limit number place) = Gives (verdict_outcome (plan_of (beside table charge (bytes table)) limit).verdict) number place
Holds charge bytes (starts table placement core slots) =
    start_of (beside table charge (bytes table)) placement core ≡ record { outcome = Ok tt; core = record { slots = slots; charge = charge } }
Holds charge bytes (refuses_core table placement core number place) = Gives (start_of (beside table charge (bytes table)) placement core).outcome number place
Holds charge bytes (ticks table placement core requests ran) =
    runs (ticked (start_of (beside table charge (bytes table)) placement core).core.charge (start_of (beside table charge (bytes table)) placement core).core.slots requests) ≡ ran
Holds charge bytes (tick_once slots requests run late next) =
    tick charge slots requests ≡ record { refusal = 0; place = 0; charge = charge; slots = next; run = run; late = late }
Holds charge bytes (refuses_tick slots place) = tick charge slots [] ≡ record { refusal = 12; place = place; charge = charge; slots = slots; run = 0; late = 0 }
Holds charge bytes (reads_new table fields hyperperiod) =
    ((reading_of (new table)).outcome ≡ Ok tt) × ((reading_of (new table)).tasks.fields ≡ fields) × ((reading_of (new table)).tasks.hyperperiod ≡ hyperperiod)
Holds charge bytes (refuses_new table number place) = Gives (reading_of (new table)).outcome number place
Holds charge bytes (stores call out size after) = (answer_to call (length out) ≡ record { outcome = Ok tt; length = size }) × (out_after call out ≡ after)
Holds charge bytes (refuses_store call out number place) =
    Gives (answer_to call (length out)).outcome number place × ((answer_to call (length out)).length ≡ 0) × (out_after call out ≡ out)
Holds charge bytes (prints table output) = output_of (new table) ≡ ascii output
Holds charge bytes (prints_quick table output) = quick_output_of (new table) ≡ ascii output
Holds charge bytes (lists table plan output) = plan_lines (reading_of (new table)).tasks plan ≡ ascii output
Holds charge bytes (orders table list tasks) = task_order_of (new table) list ≡ record { outcome = Ok tt; order = row 0 (length tasks) (entry tasks) }
Holds charge bytes (refuses_list table list number place) = Gives (task_order_of (new table) list).outcome number place × ((task_order_of (new table) list).order ≡ replicate 16 0)
Holds charge bytes (prints_order input output) = feeds_output_of input ≡ ascii output
Holds charge bytes (frames_bus table hyperperiod) = ((reading_of (bus table)).outcome ≡ Ok tt) × ((reading_of (bus table)).tasks.hyperperiod ≡ hyperperiod)
Holds charge bytes (refuses_bus table number place) =
    Gives (reading_of (bus table)).outcome number place × Gives (verdict_outcome (plan_of (bus table) 1000000).verdict) number place
Holds charge bytes (plans_bus table limit verdict cores rejected steps) =
    plan_of (bus table) limit ≡ record { verdict = verdict; placement = row 0 (length cores) (entry cores); rejected = rejected; steps = steps }
Holds charge bytes (prints_bus table output) = output_of (bus table) ≡ ascii output
Holds charge bytes (writes_log answers before number place count after) =
    (Gives (write_answer answers (length before)).outcome number place × ((write_answer answers (length before)).count ≡ count)) × (log_after answers before ≡ after)
Holds charge bytes (expands_log records before number place count after) =
    (Gives (expand_answer records (length before)).outcome number place × ((expand_answer records (length before)).count ≡ count)) × (row_after records before ≡ after)
Holds charge bytes (writes_words answers before after) = words_after answers before ≡ after
Holds charge bytes (charged own row) = Holds own bytes row
Holds charge bytes (tied own row) = Holds charge (λ table. own) row

-- every row of a list holds; where a row names no charge, it is 0, and where it names no core bytes, every core is permitted
abbrev pub AllHold : List Row → Type 0
AllHold [] = Unit {0}
AllHold (r ∷ rs) = Holds 0 every_affinity r × AllHold rs

-- the table of the listing, and that of row c
abbrev pub listing : List ℕ
listing = old_table 1 (10 ∷ 10 ∷ 10 ∷ []) (7 ∷ 6 ∷ 4 ∷ [])

abbrev pub row_c : List ℕ
row_c = old_table 1 (2 ∷ 3 ∷ 6 ∷ []) (1 ∷ 1 ∷ 1 ∷ [])

-- those of rows a and d, and one whose six tasks fill its two cores
abbrev pub row_a : List ℕ
row_a = old_table 1 (10 ∷ 10 ∷ []) (3 ∷ 7 ∷ [])

abbrev pub row_d : List ℕ
row_d = old_table 2 (10 ∷ 10 ∷ 10 ∷ 10 ∷ 10 ∷ []) (5 ∷ 5 ∷ 4 ∷ 3 ∷ 3 ∷ [])

abbrev pub packed : List ℕ
packed = old_table 2 (10 ∷ 10 ∷ 10 ∷ 10 ∷ 10 ∷ 10 ∷ []) (5 ∷ 4 ∷ 3 ∷ 3 ∷ 3 ∷ 2 ∷ [])

-- one in the new form, whose weights are no times: two tasks of weights 4 and 7 on a core that holds 10
abbrev pub crowded : List ℕ
crowded = new_table 1 0 (5 ∷ 10 ∷ []) (2 ∷ 7 ∷ []) (1 ∷ 1 ∷ [])

-- five tasks of which no two fit together, on four cores; seven tasks on three
abbrev pub five : List ℕ
five = old_table 4 (10 ∷ 10 ∷ 10 ∷ 10 ∷ 10 ∷ []) (6 ∷ 6 ∷ 6 ∷ 6 ∷ 6 ∷ [])

abbrev pub seven : List ℕ
seven = old_table 3 (10 ∷ 10 ∷ 10 ∷ 10 ∷ 10 ∷ 10 ∷ 10 ∷ []) (9 ∷ 8 ∷ 6 ∷ 6 ∷ 5 ∷ 4 ∷ 3 ∷ [])

-- two tasks that no core holds together, of weights 50 and 55 of 100; with charge 1 they are 60 and 56
abbrev pub swapped : List ℕ
swapped = old_table 2 (10 ∷ 100 ∷ []) (5 ∷ 55 ∷ [])

-- sixteen requests: full ones, and the same with none from task 1
abbrev pub full : List ℕ
full = replicate 16 4294967295

abbrev pub first_silent : List ℕ
first_silent = 0 ∷ replicate 15 4294967295

-- a slot, and a record with some in front
abbrev pub slot : ℕ → ℕ → ℕ → ℕ → Slot
slot period budget until remaining = record { period = period; budget = budget; until = until; remaining = remaining }

abbrev pub front : List Slot → List Slot
front slots = slots ++ replicate (16 - length slots) empty_slot

-- two and three full tasks on as many cores
abbrev pub two : List ℕ
two = old_table 2 (4 ∷ 4 ∷ []) (4 ∷ 4 ∷ [])

abbrev pub three : List ℕ
three = old_table 3 (4 ∷ 4 ∷ 4 ∷ []) (4 ∷ 4 ∷ 4 ∷ [])

-- three tasks of these times on two cores
abbrev pub loose : ℕ → ℕ → ℕ → List ℕ
loose a b c = old_table 2 (10 ∷ 10 ∷ 10 ∷ []) (a ∷ b ∷ c ∷ [])

-- the listing's table in both forms, byte by byte
abbrev pub old_listing : List ℕ
old_listing = 3 ∷ 1 ∷ 10 ∷ 0 ∷ 0 ∷ 0 ∷ 10 ∷ 0 ∷ 0 ∷ 0 ∷ 10 ∷ 0 ∷ 0 ∷ 0 ∷ 7 ∷ 0 ∷ 0 ∷ 0 ∷ 6 ∷ 0 ∷ 0 ∷ 0 ∷ 4 ∷ 0 ∷ 0 ∷ 0 ∷ []

abbrev pub new_listing : List ℕ
new_listing =
    0 ∷ 3 ∷ 1 ∷ 0 ∷ 10 ∷ 0 ∷ 0 ∷ 0 ∷ 10 ∷ 0 ∷ 0 ∷ 0 ∷ 10 ∷ 0 ∷ 0 ∷ 0 ∷ 7 ∷ 0 ∷ 0 ∷ 0 ∷ 6 ∷ 0 ∷ 0 ∷ 0 ∷ 4 ∷ 0 ∷ 0 ∷ 0 ∷ 1 ∷ 1 ∷ 1 ∷ []

-- the same for three tasks on two cores with a charge of 4, each part other than the rest: periods 10, 20 and 300, times 5, 8 and 140, and
-- core bytes for the second core, for both and for the first
abbrev pub board : List ℕ
board =
    0 ∷ 3 ∷ 2 ∷ 4 ∷ 10 ∷ 0 ∷ 0 ∷ 0 ∷ 20 ∷ 0 ∷ 0 ∷ 0 ∷ 44 ∷ 1 ∷ 0 ∷ 0 ∷ 5 ∷ 0 ∷ 0 ∷ 0 ∷ 8 ∷ 0 ∷ 0 ∷ 0 ∷ 140 ∷ 0 ∷ 0 ∷ 0 ∷ 2 ∷ 3 ∷ 1 ∷ []

-- these numbers as fields, with this number of core bytes and this behind each row of three
abbrev pub board_fields : ℕ → List ℕ → Fields
board_fields given rest = record {
  n = 3;
  m = 2;
  charge = 4;
  periods = 10 ∷ 20 ∷ 300 ∷ rest;
  budgets = 5 ∷ 8 ∷ 140 ∷ rest;
  affinity = 2 ∷ 3 ∷ 1 ∷ rest;
  given = given;
}

-- sixteen tasks on four cores with each core byte, and core 4 alone twice
abbrev pub sixteen : List ℕ
sixteen =
    new_table 4 0 (10000 ∷ 5000 ∷ 2500 ∷ 2000 ∷ 1250 ∷ 1000 ∷ 625 ∷ 500 ∷ 400 ∷ 250 ∷ 200 ∷ 125 ∷ 100 ∷ 50 ∷ 20 ∷ 10 ∷ [])
    (3500 ∷ 850 ∷ 770 ∷ 630 ∷ 350 ∷ 315 ∷ 210 ∷ 180 ∷ 105 ∷ 77 ∷ 42 ∷ 31 ∷ 21 ∷ 10 ∷ 4 ∷ 2 ∷ [])
    (1 ∷ 2 ∷ 3 ∷ 4 ∷ 5 ∷ 6 ∷ 7 ∷ 8 ∷ 9 ∷ 10 ∷ 11 ∷ 12 ∷ 13 ∷ 14 ∷ 15 ∷ 8 ∷ [])

-- Tables in lent outputs. The listing moved to the new form and back, and three tasks written, whatever stands beyond the third; each table stands in
-- front, and the bytes behind it are kept. On two cores a task gets the byte of both. Refused, with the output left as it was: to be moved back, a task
-- that may use the first of two cores alone; a charge, where there is no room either; a table with its own fault, before both; one byte too little
-- room for each call; an old table to be moved back, and a new one to be moved on; fields that are no bytes, which are not cut to bytes first; a byte
-- with a bit above core m, before the room.
unfoldable pub moves : List Row
moves =
    stores (to_new old_listing) (replicate 33 9) 31 (new_listing ++ 9 ∷ 9 ∷ [])
    ∷ stores (to_old new_listing) (replicate 27 9) 26 (old_listing ++ 9 ∷ [])
    ∷ stores (to_new (1 ∷ 2 ∷ 16 ∷ 39 ∷ 0 ∷ 0 ∷ 7 ∷ 1 ∷ 0 ∷ 0 ∷ [])) (replicate 13 9) 13 (0 ∷ 1 ∷ 2 ∷ 0 ∷ 16 ∷ 39 ∷ 0 ∷ 0 ∷ 7 ∷ 1 ∷ 0 ∷ 0 ∷ 3 ∷ [])
    ∷ stores (write (board_fields 0 (replicate 13 255))) (replicate 33 9) 31 (board ++ 9 ∷ 9 ∷ [])
    ∷ refuses_store (to_old (0 ∷ 1 ∷ 2 ∷ 0 ∷ 10 ∷ 0 ∷ 0 ∷ 0 ∷ 7 ∷ 0 ∷ 0 ∷ 0 ∷ 1 ∷ [])) (replicate 10 9) 18 0
    ∷ refuses_store (to_old (0 ∷ 1 ∷ 1 ∷ 1 ∷ 10 ∷ 0 ∷ 0 ∷ 0 ∷ 7 ∷ 0 ∷ 0 ∷ 0 ∷ 1 ∷ [])) [] 18 0
    ∷ refuses_store (to_old (new_table 2 1 (1000 ∷ 1001 ∷ []) (1 ∷ 1 ∷ []) (3 ∷ 1 ∷ []))) [] 7 2
    ∷ refuses_store (to_old new_listing) (replicate 25 9) 8 0
    ∷ refuses_store (to_new old_listing) (replicate 30 9) 8 0
    ∷ refuses_store (write (board_fields 0 [])) (replicate 30 9) 8 0
    ∷ refuses_store (to_old old_listing) (replicate 26 9) 17 0
    ∷ refuses_store (to_new new_listing) (replicate 31 9) 2 0
    ∷ refuses_store (write (record { n = 259; m = 1; charge = 0; periods = 10 ∷ []; budgets = 7 ∷ []; affinity = 1 ∷ []; given = 1 })) [] 2 0
    ∷ refuses_store (write (record { n = 1; m = 1; charge = 256; periods = 10 ∷ []; budgets = 7 ∷ []; affinity = 1 ∷ []; given = 1 })) [] 13 0
    ∷ refuses_store (write (record { n = 2; m = 1; charge = 3; periods = 10 ∷ 10 ∷ []; budgets = 7 ∷ 7 ∷ []; affinity = 1 ∷ 2 ∷ []; given = 1 })) [] 15 2
    ∷ []

-- The new form, read and printed. Three tasks of which each number stands in its own place. Fewer than 4 bytes are refused before the first byte is
-- looked at, an old table by its first byte, before a size; a table of the old form's length by its length; a charge after that and before a
-- period; a byte with a bit above core m for its task. Both programs go by the charge and the core bytes of the table. Every task number and
-- every core byte as it is printed.
unfoldable pub new_tables : List Row
new_tables =
    reads_new board (board_fields 3 (replicate 13 0)) 300
    ∷ prints board "table 3 2 300\n1 10 5 2 1 2\n2 20 8 1 2 1\n3 300 140 0 1 1\nshort 144 3\n"
    ∷ prints_quick (new_table 2 0 (4 ∷ 4 ∷ []) (4 ∷ 4 ∷ []) (3 ∷ 1 ∷ [])) "table 2 2 4\n1 4 4 1 2 1\n2 4 4 0 1 1\nquick 4\n"
    ∷ prints_quick sixteen "table 16 4 10000\n1 10000 3500 1 1 1\n2 5000 850 0 1 2\n3 2500 770 1 2 1\n4 2000 630 3 1 3\n5 1250 350 3 2 1\n6 1000 315 2 2 2\n7 625 210 1 3 1\n8 500 180 4 1 4\n9 400 105 4 2 1\n10 250 77 2 2 2\n11 200 42 2 3 1\n12 125 31 3 2 3\n13 100 21 4 3 1\n14 50 10 0 3 2\n15 20 4 0 4 1\n16 10 2 0 1 4\nquick 7700\n"
    ∷ prints (5 ∷ 1 ∷ 1 ∷ []) "refused 1 0\n"
    ∷ prints listing "refused 17 0\n"
    ∷ prints (0 ∷ 1 ∷ 1 ∷ 0 ∷ 10 ∷ 0 ∷ 0 ∷ 0 ∷ 1 ∷ 0 ∷ []) "refused 4 0\n"
    ∷ prints (new_table 1 10 (0 ∷ []) (1 ∷ []) (1 ∷ [])) "refused 13 0\n"
    ∷ prints (new_table 2 0 (1000 ∷ 1001 ∷ 10 ∷ []) (1 ∷ 1 ∷ 1 ∷ []) (3 ∷ 1 ∷ 4 ∷ [])) "refused 15 3\n"
    ∷ refuses_new (1 ∷ 17 ∷ 5 ∷ 10 ∷ []) 17 0
    ∷ refuses_new (0 ∷ 17 ∷ 5 ∷ 10 ∷ []) 2 0
    ∷ refuses_new (0 ∷ 1 ∷ 5 ∷ 10 ∷ []) 3 0
    ∷ refuses_new (0 ∷ 1 ∷ 4 ∷ 10 ∷ []) 4 0
    ∷ refuses_new (new_table 1 4 (10 ∷ 10 ∷ []) (6 ∷ 7 ∷ []) (1 ∷ 0 ∷ [])) 14 2
    ∷ []

-- Tasks tied to cores. Two full tasks that want each other's core: the rule of the empty core alone would lose the plan. Three full tasks, of which
-- the placed ones judge twins too: 7 steps. A core that only the heaviest and a light task may use, which is then left out. Two full tasks of which
-- the first may use either core: twins by the first task alone would lose the plan; first fit leaves the second out, and is stored after two steps.
-- Step ceilings: of two tasks on three cores, every core permitted; with the second tied to two; by planning order and not by the table's.
-- A row of core bytes is refused after a time plus charge and before the hyperperiod: too long, too short, a byte of 0, a bit above core m, bit 4.
-- A core that is not permitted is refused after the whole of 9 and before the core number, also where it is not the chosen one; left out is permitted.
unfoldable pub ties : List Row
ties =
    tied (2 ∷ 1 ∷ []) (plans two 1000000 All (2 ∷ 1 ∷ []) 0 2)
    ∷ tied (3 ∷ 6 ∷ 1 ∷ []) (plans three 1000000 All (2 ∷ 3 ∷ 1 ∷ []) 0 7)
    ∷ tied (5 ∷ 2 ∷ 2 ∷ []) (plans (old_table 3 (4 ∷ 4 ∷ 4 ∷ []) (1 ∷ 1 ∷ 4 ∷ [])) 1000000 Short (1 ∷ 0 ∷ 2 ∷ []) 1 3)
    ∷ tied (3 ∷ 1 ∷ []) (plans two 1000000 All (2 ∷ 1 ∷ []) 0 4)
    ∷ tied (3 ∷ 1 ∷ []) (plans two 2 Spent (1 ∷ 0 ∷ []) 4 2)
    ∷ tied (3 ∷ 1 ∷ []) (quick two (1 ∷ 0 ∷ []) 4)
    ∷ plans two 1000000 All (1 ∷ 2 ∷ []) 0 2
    ∷ ceilings (old_table 3 (10 ∷ 10 ∷ []) (2 ∷ 1 ∷ [])) 8
    ∷ tied (7 ∷ 3 ∷ []) (ceilings (old_table 3 (10 ∷ 10 ∷ []) (2 ∷ 1 ∷ [])) 16)
    ∷ tied (1 ∷ 3 ∷ 3 ∷ []) (ceilings (loose 1 3 2) 30)
    ∷ tied (1 ∷ 3 ∷ 3 ∷ []) (ceilings (loose 3 1 2) 26)
    ∷ tied (1 ∷ 3 ∷ 3 ∷ 3 ∷ []) (refuses (loose 1 3 2) 1000000 15 0)
    ∷ tied (0 ∷ 3 ∷ []) (refuses (loose 1 3 2) 1000000 15 0)
    ∷ tied (1 ∷ 0 ∷ 4 ∷ []) (refuses (loose 1 3 2) 1000000 15 2)
    ∷ tied (3 ∷ 3 ∷ 4 ∷ []) (refuses (loose 1 3 2) 1000000 15 3)
    ∷ tied (15 ∷ 16 ∷ []) (refuses (old_table 4 (1000 ∷ 1001 ∷ []) (1 ∷ 1 ∷ [])) 1000000 15 2)
    ∷ charged 1 (tied (0 ∷ []) (refuses (old_table 1 (1000 ∷ 1001 ∷ []) (1 ∷ 1001 ∷ [])) 1000000 14 2))
    ∷ tied (3 ∷ 1 ∷ 3 ∷ []) (refuses_core (loose 1 3 2) (1 ∷ 2 ∷ 3 ∷ []) 1 9 3)
    ∷ tied (3 ∷ 1 ∷ 3 ∷ []) (refuses_core (loose 1 3 2) (1 ∷ 2 ∷ 2 ∷ []) 1 16 2)
    ∷ tied (3 ∷ 1 ∷ 2 ∷ []) (refuses_core (loose 1 3 2) (1 ∷ 0 ∷ 1 ∷ []) 7 16 3)
    ∷ tied (3 ∷ 1 ∷ 2 ∷ []) (starts (loose 1 3 2) (2 ∷ 0 ∷ 2 ∷ []) 2 (front (slot 10 1 0 0 ∷ empty_slot ∷ slot 10 2 0 0 ∷ [])))
    ∷ []

-- Switch charges. Row a's table, which is full, is short with a charge, and its core is refused. A charge of 1 reorders two tasks, in the exact plan
-- and the quick one. A charge of 9 fills a core alone, and an empty core's record carries it. A task of period 5 and time 2 asks for nothing, for one
-- tick and for more than it may: with charge 1 it has 0, 2 and 3. A late slot owes its budget and the charge, the other is counted down.
-- The charge is refused after the length and before a period, a time plus charge after a time and before the hyperperiod; a record's charge before
-- any slot.
unfoldable pub charges : List Row
charges =
    charged 1 (plans row_a 1000000 Short (0 ∷ 1 ∷ []) 4 2)
    ∷ charged 1 (plans row_a 1 Spent (0 ∷ 0 ∷ []) 12 1)
    ∷ charged 1 (refuses_core row_a (1 ∷ 1 ∷ []) 1 11 0)
    ∷ plans swapped 1000000 All (2 ∷ 1 ∷ []) 0 2
    ∷ charged 1 (plans swapped 1000000 All (1 ∷ 2 ∷ []) 0 2)
    ∷ charged 1 (quick swapped (1 ∷ 2 ∷ []) 0)
    ∷ charged 9 (plans (old_table 1 (10 ∷ []) (1 ∷ [])) 1000000 All (1 ∷ []) 0 1)
    ∷ charged 9 (starts (old_table 2 (10 ∷ []) (1 ∷ [])) (1 ∷ []) 2 (front []))
    ∷ charged 9 (ceilings (old_table 2 (10 ∷ []) (1 ∷ [])) 2)
    ∷ charged 1 (ticks (old_table 1 (5 ∷ []) (2 ∷ [])) (1 ∷ []) 1 (replicate 5 (replicate 16 0) ++ replicate 5 (replicate 16 1) ++ replicate 5 full)
    (0 ∷ 0 ∷ 0 ∷ 0 ∷ 0 ∷ 1 ∷ 1 ∷ 0 ∷ 0 ∷ 0 ∷ 1 ∷ 1 ∷ 1 ∷ 0 ∷ 0 ∷ []))
    ∷ charged 2 (tick_once (front (slot 9 3 0 5 ∷ slot 9 3 4 0 ∷ [])) full 1 1 (front (slot 9 3 8 4 ∷ slot 9 3 3 0 ∷ [])))
    ∷ charged 10 (refuses (1 ∷ 1 ∷ []) 1000000 4 0)
    ∷ charged 10 (refuses (old_table 1 (0 ∷ []) (1 ∷ [])) 1000000 13 0)
    ∷ charged 4294967295 (refuses row_a 1000000 13 0)
    ∷ charged 4 (refuses (old_table 1 (10 ∷ 10 ∷ []) (7 ∷ 0 ∷ [])) 1000000 6 2)
    ∷ charged 4 (refuses row_a 1000000 14 2)
    ∷ charged 1 (refuses (old_table 1 (1000 ∷ 1001 ∷ []) (1 ∷ 1001 ∷ [])) 1000000 14 2)
    ∷ charged 10 (refuses_tick (front (slot 0 1 0 0 ∷ [])) 0)
    ∷ charged 9 (refuses_tick (front (slot 12 3 0 12 ∷ slot 12 4 0 0 ∷ [])) 2)
    ∷ []

-- Empty cores. Five tasks of which no two fit together, on four cores: 5 steps, where 65 are made if each empty core is tried. Seven
-- tasks on three cores: 24 steps (110), of which the 20th stores a better placement; then one step less, and the steps that are enough.
-- Step ceilings: of both tables, of the listing, of row d's table, and of sixteen tasks on four cores, which no limit reaches.
unfoldable pub empty_cores : List Row
empty_cores =
    plans five 1000000 Short (1 ∷ 2 ∷ 3 ∷ 4 ∷ 0 ∷ []) 6 5
    ∷ plans seven 19 Spent (1 ∷ 2 ∷ 3 ∷ 0 ∷ 0 ∷ 3 ∷ 0 ∷ []) 14 19
    ∷ plans seven 20 Spent (1 ∷ 0 ∷ 2 ∷ 3 ∷ 0 ∷ 2 ∷ 3 ∷ []) 13 20
    ∷ plans seven 24 Short (1 ∷ 0 ∷ 2 ∷ 3 ∷ 0 ∷ 2 ∷ 3 ∷ []) 13 24
    ∷ prints (new_table 4 0 (replicate 5 10) (replicate 5 6) (replicate 5 15)) "table 5 4 10\n1 10 6 1 4 1\n2 10 6 2 4 1\n3 10 6 3 4 1\n4 10 6 4 4 1\n5 10 6 0 4 1\nshort 6 5\n"
    ∷ ceilings five 752
    ∷ ceilings seven 8192
    ∷ ceilings listing 14
    ∷ ceilings row_d 242
    ∷ ceilings (old_table 4 (replicate 16 10) (replicate 16 1)) 36621093752
    ∷ []

-- Quick plans. Row d's table, where first fit places all; six tasks that fill two cores, where first fit leaves out the last and the exact
-- plan nothing; two that fill a core exactly; the listing, where first fit leaves out more than the exact plan; the request's order, by which
-- the axis loop goes first; and what the programs print: a left-out weight that stands nowhere else in the output, and a refusal.
unfoldable pub quicks : List Row
quicks =
    quick row_d (1 ∷ 1 ∷ 2 ∷ 2 ∷ 2 ∷ []) 0
    ∷ quick packed (1 ∷ 1 ∷ 2 ∷ 2 ∷ 2 ∷ 0 ∷ []) 2
    ∷ plans packed 1000000 All (1 ∷ 2 ∷ 1 ∷ 2 ∷ 2 ∷ 1 ∷ []) 0 11
    ∷ quick (old_table 1 (10 ∷ 10 ∷ []) (3 ∷ 7 ∷ [])) (1 ∷ 1 ∷ []) 0
    ∷ quick listing (1 ∷ 0 ∷ 0 ∷ []) 10
    ∷ quick (old_table 2 (1000 ∷ 10 ∷ []) (600 ∷ 6 ∷ [])) (2 ∷ 1 ∷ []) 0
    ∷ prints_quick (new_table 2 0 (replicate 6 10) (5 ∷ 4 ∷ 3 ∷ 3 ∷ 3 ∷ 2 ∷ []) (replicate 6 3)) "table 6 2 10\n1 10 5 1 2 1\n2 10 4 1 2 1\n3 10 3 2 2 1\n4 10 3 2 2 1\n5 10 3 2 2 1\n6 10 2 0 2 1\nquick 2\n"
    ∷ prints_quick crowded "table 2 1 10\n1 5 2 0 1 1\n2 10 7 1 1 1\nquick 4\n"
    ∷ prints crowded "table 2 1 10\n1 5 2 0 1 1\n2 10 7 1 1 1\nshort 4 2\n"
    ∷ prints_quick (new_table 1 0 (1000 ∷ 1001 ∷ []) (1 ∷ 1 ∷ []) (1 ∷ 1 ∷ [])) "refused 7 2\n"
    ∷ []

-- four tasks of equal periods in the new form, and five of periods 10, 20, 40, 15 and 60
abbrev pub alike : List ℕ
alike = new_table 1 0 (10 ∷ 10 ∷ 10 ∷ 10 ∷ []) (1 ∷ 1 ∷ 1 ∷ 1 ∷ []) (1 ∷ 1 ∷ 1 ∷ 1 ∷ [])

abbrev pub unlike : List ℕ
unlike = new_table 1 0 (10 ∷ 20 ∷ 40 ∷ 15 ∷ 60 ∷ []) (1 ∷ 1 ∷ 1 ∷ 1 ∷ 1 ∷ []) (1 ∷ 1 ∷ 1 ∷ 1 ∷ 1 ∷ [])

-- Tasks that feed each other. 4 feeds 1 and 3 feeds 2; 3 and 4 feed each other and 1 hangs on their circle; a circle of 1 and 3 behind which 2 feeds
-- itself; a pair twice, then one that names no task. No pair; the same pair twice; pairs turned round beside each other; a circle of three; two circles.
-- A multiple either way, and periods of which neither is. A number above n, in either place. No bytes, too few, too many, 65 pairs. A table that is
-- refused with a list that would be. What the program prints: an order, a circle, no list, too few bytes for a table.
unfoldable pub feeds : List Row
feeds =
    orders alike (2 ∷ 4 ∷ 3 ∷ 1 ∷ 2 ∷ []) (3 ∷ 2 ∷ 4 ∷ 1 ∷ [])
    ∷ refuses_list alike (3 ∷ 3 ∷ 4 ∷ 3 ∷ 4 ∷ 3 ∷ 1 ∷ []) 21 3
    ∷ refuses_list alike (3 ∷ 1 ∷ 3 ∷ 2 ∷ 3 ∷ 1 ∷ 2 ∷ []) 20 3
    ∷ refuses_list alike (3 ∷ 1 ∷ 1 ∷ 0 ∷ 2 ∷ 2 ∷ 1 ∷ []) 20 3
    ∷ orders alike (0 ∷ []) (1 ∷ 2 ∷ 3 ∷ 4 ∷ [])
    ∷ orders alike (3 ∷ 4 ∷ 1 ∷ 4 ∷ 1 ∷ 2 ∷ 1 ∷ []) (3 ∷ 4 ∷ 1 ∷ 2 ∷ [])
    ∷ refuses_list alike (2 ∷ 2 ∷ 4 ∷ 4 ∷ 2 ∷ []) 21 2
    ∷ refuses_list alike (3 ∷ 4 ∷ 2 ∷ 3 ∷ 2 ∷ 3 ∷ 4 ∷ []) 21 2
    ∷ refuses_list alike (4 ∷ 3 ∷ 4 ∷ 1 ∷ 2 ∷ 4 ∷ 3 ∷ 2 ∷ 1 ∷ []) 21 1
    ∷ orders unlike (3 ∷ 2 ∷ 3 ∷ 5 ∷ 1 ∷ 2 ∷ 4 ∷ []) (3 ∷ 2 ∷ 1 ∷ 5 ∷ 4 ∷ [])
    ∷ refuses_list unlike (2 ∷ 1 ∷ 3 ∷ 2 ∷ 4 ∷ []) 20 2
    ∷ refuses_list alike (2 ∷ 1 ∷ 5 ∷ 2 ∷ 1 ∷ []) 20 2
    ∷ refuses_list alike (1 ∷ 1 ∷ 5 ∷ []) 20 1
    ∷ refuses_list alike [] 19 0
    ∷ refuses_list alike (1 ∷ 1 ∷ []) 19 0
    ∷ refuses_list alike (1 ∷ 1 ∷ 2 ∷ 0 ∷ []) 19 0
    ∷ refuses_list alike (65 ∷ replicate 65 1 ++ replicate 65 2) 19 0
    ∷ refuses_list (0 ∷ 1 ∷ 1 ∷ 0 ∷ []) [] 4 0
    ∷ prints_order (alike ++ (2 ∷ 4 ∷ 3 ∷ 1 ∷ 2 ∷ [])) "3 2 4 1\n"
    ∷ prints_order (alike ++ (3 ∷ 3 ∷ 4 ∷ 3 ∷ 4 ∷ 3 ∷ 1 ∷ [])) "refused 21 3\n"
    ∷ prints_order alike "refused 19 0\n"
    ∷ prints_order (0 ∷ 4 ∷ 1 ∷ 0 ∷ 10 ∷ []) "refused 4 0\n"
    ∷ []

-- two tasks in the new form on one core with this charge, of these periods and times
abbrev pub pair_of : ℕ → List ℕ → List ℕ → List ℕ
pair_of charge periods times = new_table 1 charge periods times (1 ∷ 1 ∷ [])

-- three tasks for bus drives on two cores, with a charge of 1, of which the second is tied to core 2
abbrev pub driven : List ℕ
driven = new_table 2 1 (8 ∷ 20 ∷ 625 ∷ []) (3 ∷ 9 ∷ 250 ∷ []) (3 ∷ 2 ∷ 3 ∷ [])

-- Tables for bus drives. A period of 0 beside one that is not in the list; one that is not in the list beside a time above its period; the neighbour of a
-- listed period. Number 22 beside a charge above 9, a time with no room for the charge, an unfit core byte, another length, five cores, a first byte
-- other than 0, seventeen tasks, too few bytes; and some of these without it.
-- Periods whose multiple is too large for the general reader. Each listed period, in two tables. The largest hyperperiod. The listing, whole and spent; three
-- tasks with charge and core bytes; what the program prints: the same, and a refusal.
unfoldable pub drives : List Row
drives =
    refuses_bus (pair_of 0 (3 ∷ 0 ∷ []) (1 ∷ 1 ∷ [])) 5 2
    ∷ refuses_bus (pair_of 0 (10 ∷ 3 ∷ []) (11 ∷ 1 ∷ [])) 22 2
    ∷ refuses_bus (pair_of 0 (9999 ∷ 10000 ∷ []) (1 ∷ 1 ∷ [])) 22 1
    ∷ refuses_bus (pair_of 10 (10 ∷ 3 ∷ []) (1 ∷ 1 ∷ [])) 13 0
    ∷ refuses_bus (pair_of 9 (10 ∷ 3 ∷ []) (2 ∷ 1 ∷ [])) 22 2
    ∷ refuses_bus (pair_of 9 (10 ∷ 4 ∷ []) (1 ∷ 1 ∷ [])) 14 2
    ∷ refuses_bus (new_table 1 0 (3 ∷ 10 ∷ []) (1 ∷ 1 ∷ []) (0 ∷ 1 ∷ [])) 22 1
    ∷ refuses_bus (new_table 1 0 (4 ∷ 10 ∷ []) (1 ∷ 1 ∷ []) (1 ∷ 2 ∷ [])) 15 2
    ∷ refuses_bus (new_table 1 0 (3 ∷ 10 ∷ []) (1 ∷ 1 ∷ []) (1 ∷ [])) 4 0
    ∷ refuses_bus (new_table 5 0 (3 ∷ []) (1 ∷ []) (1 ∷ [])) 3 0
    ∷ refuses_bus (1 ∷ 1 ∷ 1 ∷ 0 ∷ 3 ∷ 0 ∷ 0 ∷ 0 ∷ 1 ∷ 0 ∷ 0 ∷ 0 ∷ 1 ∷ []) 17 0
    ∷ refuses_bus (0 ∷ 17 ∷ 1 ∷ 0 ∷ []) 2 0
    ∷ refuses_bus (0 ∷ 1 ∷ 1 ∷ []) 1 0
    ∷ refuses_bus (pair_of 0 (10 ∷ 4 ∷ []) (11 ∷ 1 ∷ [])) 6 1
    ∷ refuses_bus (pair_of 0 (1000 ∷ 1001 ∷ []) (1 ∷ 1 ∷ [])) 22 2
    ∷ refuses_bus (pair_of 0 (10000 ∷ 10001 ∷ []) (1 ∷ 1 ∷ [])) 5 2
    ∷ frames_bus (new_table 4 0 (1 ∷ 2 ∷ 4 ∷ 5 ∷ 8 ∷ 10 ∷ 16 ∷ 20 ∷ 25 ∷ 40 ∷ 50 ∷ 80 ∷ 100 ∷ 125 ∷ 200 ∷ 250 ∷ []) (replicate 16 1) (replicate 16 15)) 2000
    ∷ frames_bus (new_table 4 0 (400 ∷ 500 ∷ 625 ∷ 1000 ∷ 1250 ∷ 2000 ∷ 2500 ∷ 5000 ∷ 10000 ∷ []) (replicate 9 1) (replicate 9 15)) 10000
    ∷ frames_bus (pair_of 0 (16 ∷ 625 ∷ []) (1 ∷ 1 ∷ [])) 10000
    ∷ plans_bus new_listing 6 Short (0 ∷ 1 ∷ 1 ∷ []) 7 6
    ∷ plans_bus new_listing 5 Spent (1 ∷ 0 ∷ 0 ∷ []) 10 5
    ∷ plans_bus driven 1000000 All (1 ∷ 2 ∷ 1 ∷ []) 0 3
    ∷ prints_bus driven "table 3 2 5000\n1 8 3 1 2 1\n2 20 9 2 1 2\n3 625 250 1 2 1\nall 0 3\n"
    ∷ prints_bus (pair_of 0 (10 ∷ 3 ∷ []) (11 ∷ 1 ∷ [])) "refused 22 2\n"
    ∷ []

-- Of two tasks of equal weight the lower number is placed.
-- Two tasks that no core holds together: display and axis loop of equal weight, where the axis loop's shorter period gives it the lower core;
-- of equal weight and period, where the lower number has it; and the heavier one of longer period, which has it.
-- The excess counts: what two cores cannot hold ends the walk at the first placement that leaves out no more, whether a core is full or shared.
-- A spent walk returns the last placement that it stored: here the second one, at step 10; the first, at step 5, leaves out 15.
-- A task that asks for less than its time gets what it asked for.
-- The listing, rows d and b, row k and the refusals of row l, and no byte, as the program prints them; the lines of the listing's table and row f's
-- answer, which is spent.
-- Slots 2 and 3 are late: the lower is reported, the rest is dropped, and the one that is due sooner runs.
unfoldable pub more : List Row
more =
    plans (old_table 1 (10 ∷ 10 ∷ []) (6 ∷ 6 ∷ [])) 1000000 Short (1 ∷ 0 ∷ []) 6 2
    ∷ plans (old_table 2 (1000 ∷ 10 ∷ []) (600 ∷ 6 ∷ [])) 1000000 All (2 ∷ 1 ∷ []) 0 2
    ∷ plans (old_table 2 (10 ∷ 10 ∷ []) (6 ∷ 6 ∷ [])) 1000000 All (1 ∷ 2 ∷ []) 0 2
    ∷ plans (old_table 2 (10 ∷ 1000 ∷ []) (5 ∷ 600 ∷ [])) 1000000 All (2 ∷ 1 ∷ []) 0 2
    ∷ plans (old_table 2 (10 ∷ 10 ∷ 10 ∷ []) (10 ∷ 10 ∷ 1 ∷ [])) 1000000 Short (1 ∷ 2 ∷ 0 ∷ []) 1 3
    ∷ plans (old_table 2 (10 ∷ 10 ∷ 10 ∷ 10 ∷ 10 ∷ []) (5 ∷ 5 ∷ 5 ∷ 5 ∷ 1 ∷ [])) 1000000 Short (1 ∷ 1 ∷ 2 ∷ 2 ∷ 0 ∷ []) 1 5
    ∷ plans (old_table 1 (10 ∷ 10 ∷ 10 ∷ 10 ∷ 10 ∷ []) (8 ∷ 6 ∷ 3 ∷ 3 ∷ 3 ∷ [])) 10 Spent (0 ∷ 1 ∷ 1 ∷ 0 ∷ 0 ∷ []) 14 10
    ∷ ticks (old_table 1 (3 ∷ []) (2 ∷ [])) (1 ∷ []) 1 (replicate 3 (replicate 16 1)) (1 ∷ 0 ∷ 0 ∷ [])
    ∷ prints new_listing "table 3 1 10\n1 10 7 0 1 1\n2 10 6 1 1 1\n3 10 4 1 1 1\nshort 7 6\n"
    ∷ prints (new_table 2 0 (replicate 5 10) (5 ∷ 5 ∷ 4 ∷ 3 ∷ 3 ∷ []) (replicate 5 3)) "table 5 2 10\n1 10 5 1 2 1\n2 10 5 1 2 1\n3 10 4 2 2 1\n4 10 3 2 2 1\n5 10 3 2 2 1\nall 0 5\n"
    ∷ prints (new_table 1 0 (10 ∷ 10 ∷ []) (3 ∷ 8 ∷ []) (1 ∷ 1 ∷ [])) "table 2 1 10\n1 10 3 0 1 1\n2 10 8 1 1 1\nshort 3 2\n"
    ∷ prints (new_table 1 0 (1000 ∷ 1001 ∷ []) (1 ∷ 1 ∷ []) (1 ∷ 1 ∷ [])) "refused 7 2\n"
    ∷ prints (new_table 1 0 (10 ∷ []) (11 ∷ []) (1 ∷ [])) "refused 6 1\n"
    ∷ prints (0 ∷ 17 ∷ 1 ∷ 0 ∷ []) "refused 2 0\n"
    ∷ prints [] "refused 1 0\n"
    ∷ lists new_listing (record { verdict = Spent; placement = row 0 3 (entry (1 ∷ 0 ∷ 0 ∷ [])); rejected = 10; steps = 5 })
    "table 3 1 10\n1 10 7 1 1 1\n2 10 6 0 1 1\n3 10 4 0 1 1\nspent 10 5\n"
    ∷ tick_once (front (slot 8 1 3 0 ∷ slot 10 3 0 2 ∷ slot 5 2 0 1 ∷ [])) (9 ∷ 1 ∷ 9 ∷ replicate 13 0) 3 2
    (front (slot 8 1 2 0 ∷ slot 10 3 9 1 ∷ slot 5 2 4 1 ∷ []))
    ∷ []

-- a row of records that a call has to leave, or to write over
abbrev pub untouched : List Run
untouched = run 9 9 9 ∷ run 8 8 8 ∷ run 7 7 7 ∷ run 6 6 6 ∷ []

-- the log of answers 1 1 2 1
abbrev pub short_log : List Run
short_log = run 1 0 2 ∷ run 2 2 1 ∷ run 1 3 1 ∷ []

-- The run log. Writing: answers into a row that is longer, and one record too short; no answers; one; an answer above 16 beside a row that is too short;
-- sixteen and none. Expanding: the same log into its bytes, one byte more and one less; no records. Records that are unfit: a sum beyond 32 bits; tasks of
-- 17 and 257; the task of the one before; no length; ticks from 1, and with a gap; one tick above 60,000 at once, and after others; a fit record of 60,000. Rows of numbers: two records
-- of three, and what stands behind; one of two too few.
unfoldable pub logs : List Row
logs =
    writes_log (1 ∷ 1 ∷ 2 ∷ 1 ∷ []) untouched 0 0 3 (run 1 0 2 ∷ run 2 2 1 ∷ run 1 3 1 ∷ run 6 6 6 ∷ [])
    ∷ writes_log (1 ∷ 1 ∷ 2 ∷ 1 ∷ []) (run 9 9 9 ∷ run 8 8 8 ∷ []) 24 0 0 (run 9 9 9 ∷ run 8 8 8 ∷ [])
    ∷ writes_log [] [] 0 0 0 []
    ∷ writes_log [] untouched 0 0 0 untouched
    ∷ writes_log (0 ∷ []) (run 9 9 9 ∷ []) 0 0 1 (run 0 0 1 ∷ [])
    ∷ writes_log (0 ∷ []) [] 24 0 0 []
    ∷ writes_log (1 ∷ 2 ∷ 17 ∷ 18 ∷ []) [] 23 3 0 []
    ∷ writes_log (16 ∷ 16 ∷ 0 ∷ []) untouched 0 0 2 (run 16 0 2 ∷ run 0 2 1 ∷ run 7 7 7 ∷ run 6 6 6 ∷ [])
    ∷ expands_log short_log (9 ∷ 9 ∷ 9 ∷ 9 ∷ []) 0 0 4 (1 ∷ 1 ∷ 2 ∷ 1 ∷ [])
    ∷ expands_log short_log (9 ∷ 9 ∷ 9 ∷ 9 ∷ 9 ∷ []) 25 0 0 (9 ∷ 9 ∷ 9 ∷ 9 ∷ 9 ∷ [])
    ∷ expands_log short_log (9 ∷ 9 ∷ 9 ∷ []) 25 0 0 (9 ∷ 9 ∷ 9 ∷ [])
    ∷ expands_log [] [] 0 0 0 []
    ∷ expands_log [] (9 ∷ []) 25 0 0 (9 ∷ [])
    ∷ expands_log (run 1 0 2 ∷ run 2 2 4294967294 ∷ []) [] 25 2 0 []
    ∷ expands_log (run 17 0 1 ∷ []) (9 ∷ []) 25 1 0 (9 ∷ [])
    ∷ expands_log (run 1 0 1 ∷ run 257 1 1 ∷ []) (9 ∷ 9 ∷ []) 25 2 0 (9 ∷ 9 ∷ [])
    ∷ expands_log (run 1 0 1 ∷ run 1 1 1 ∷ []) (9 ∷ 9 ∷ []) 25 2 0 (9 ∷ 9 ∷ [])
    ∷ expands_log (run 1 0 0 ∷ []) [] 25 1 0 []
    ∷ expands_log (run 1 1 1 ∷ []) (9 ∷ []) 25 1 0 (9 ∷ [])
    ∷ expands_log (run 1 0 1 ∷ run 2 2 1 ∷ []) (9 ∷ 9 ∷ []) 25 2 0 (9 ∷ 9 ∷ [])
    ∷ expands_log (run 1 0 60001 ∷ []) [] 25 1 0 []
    ∷ expands_log (run 1 0 59999 ∷ run 2 59999 1 ∷ run 3 60000 1 ∷ []) [] 25 3 0 []
    ∷ expands_log (run 1 0 60000 ∷ []) [] 25 0 0 []
    ∷ writes_words (1 ∷ 1 ∷ 2 ∷ []) (9 ∷ 9 ∷ 9 ∷ 9 ∷ 9 ∷ 9 ∷ 8 ∷ 8 ∷ 8 ∷ 7 ∷ 7 ∷ []) (1 ∷ 0 ∷ 2 ∷ 2 ∷ 2 ∷ 1 ∷ 8 ∷ 8 ∷ 8 ∷ 7 ∷ 7 ∷ [])
    ∷ writes_words (1 ∷ 1 ∷ 2 ∷ []) (9 ∷ 9 ∷ 9 ∷ 9 ∷ 9 ∷ []) (9 ∷ 9 ∷ 9 ∷ 9 ∷ 9 ∷ [])
    ∷ []

-- rows a to i and k; where the paper gives no limit it is 1,000,000
unfoldable pub rows : List Row
rows =
    plans row_a 1000000 All (1 ∷ 1 ∷ []) 0 2
    ∷ plans (old_table 1 (10 ∷ 10 ∷ []) (3 ∷ 8 ∷ [])) 1000000 Short (0 ∷ 1 ∷ []) 3 2
    ∷ frames row_c 6
    ∷ plans row_c 1000000 All (1 ∷ 1 ∷ 1 ∷ []) 0 3
    ∷ plans row_d 1000000 All (1 ∷ 1 ∷ 2 ∷ 2 ∷ 2 ∷ []) 0 5
    ∷ plans listing 6 Short (0 ∷ 1 ∷ 1 ∷ []) 7 6
    ∷ plans listing 5 Spent (1 ∷ 0 ∷ 0 ∷ []) 10 5
    ∷ plans listing 0 Spent (0 ∷ 0 ∷ 0 ∷ []) 17 0
    ∷ ticks row_c (1 ∷ 1 ∷ 1 ∷ []) 1 (replicate 6 full) (1 ∷ 2 ∷ 1 ∷ 2 ∷ 1 ∷ 3 ∷ [])
    ∷ ticks row_c (1 ∷ 1 ∷ 1 ∷ []) 1 (full ∷ full ∷ first_silent ∷ full ∷ full ∷ full ∷ []) (1 ∷ 2 ∷ 3 ∷ 2 ∷ 1 ∷ 0 ∷ [])
    ∷ refuses (old_table 1 (1000 ∷ 1001 ∷ []) (1 ∷ 1 ∷ [])) 1000000 7 2
    ∷ []

-- Every row of every list.
pub record WorkedRows : Type 0 where
  pub base : AllHold rows
  pub more_of_it : AllHold more
  pub quick_plans : AllHold quicks
  pub empty_cores_fact : AllHold empty_cores
  pub switch_charges : AllHold charges
  pub core_bytes : AllHold ties
  pub new_form : AllHold new_tables
  pub moved_tables : AllHold moves
  pub feeding-tasks : AllHold feeds
  pub bus-drives : AllHold drives
  pub run-logs : AllHold logs
