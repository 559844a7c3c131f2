-- What a check of fields gives.
use Rattle.std.specs.Prelude.{replicate, Ok, Err}
use Rattle.numbers.specs.Rows.{row}
use Rattle.refusal.specs.Tests.{by_outcome}
use Rattle.refusal.specs.declared.Cause.{Cause}
use Rattle.refusal.specs.Outcome.{Outcome}
use Rattle.fields.specs.Most.{most_tasks}
use Rattle.fields.specs.Hyperperiod.{hyperperiod_of}
use Rattle.taskset.specs.Demands.{demand_of}
use Rattle.fields.specs.declared.Fields.{Fields}
use Rattle.taskset.specs.declared.TaskSet.{TaskSet}
use Rattle.taskset.specs.declared.Reading.{Reading}

-- the task set of fields within the limits
unfoldable pub task_set_of : Fields → TaskSet
task_set_of f = record { fields = f; hyperperiod = hyperperiod_of f; demands = row 0 f.n (demand_of f) }

-- all zeros
unfoldable pub no_tasks : TaskSet
no_tasks = record {
  fields = record { n = 0; m = 0; charge = 0; periods = replicate most_tasks 0; budgets = replicate most_tasks 0; affinity = replicate most_tasks 0; given = 0 };
  hyperperiod = 0;
  demands = replicate most_tasks 0;
}

-- the answer where fields are refused: zeros beside the cause
unfoldable pub refused_reading : Cause → Reading
refused_reading cause = record { outcome = Err cause; tasks = no_tasks }

-- the answer where they are accepted
unfoldable pub accepted_reading : Fields → Reading
accepted_reading f = record { outcome = Ok tt; tasks = task_set_of f }

-- the whole answer, by the outcome of the tests
unfoldable pub reading_by : Outcome → Fields → Reading
reading_by = by_outcome refused_reading accepted_reading
