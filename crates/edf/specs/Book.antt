-- Earliest deadline first as a plain book of owed and received ticks. It is fed the tasks, with their charge and first releases, the core number
-- and each tick's requests, and no answer or record.
use Rattle.std.specs.Prelude.{ℕ, zero, suc, ◌+◌, ◌*◌, ◌-◌, ◌/◌, ◌%◌, Bool, cond, ◌&&◌, List, [], ◌∷◌, map, ltb, leb, eqb}
use Rattle.edf.specs.declared.Claim.{Claim}
use Rattle.edf.specs.Earliest.{cons_if, earliest}
use Rattle.edf.specs.Tick.{request, owed_for}
use Rattle.edf.specs.Fresh.{Tasks, period, budget, core_of, first_release}

-- what the book holds for a task on the core; `received` is the paper's had
pub record BookEntry : Type 0 where
  pub task : ℕ
  pub period : ℕ
  pub budget : ℕ
  pub first_release : ℕ
  pub owed : ℕ
  pub received : ℕ

-- the entry of the task at k before tick 0
abbrev pub new_entry : Tasks → ℕ → BookEntry
new_entry tasks k = record { task = suc k; period = period tasks k; budget = budget tasks k; first_release = first_release tasks k; owed = 0; received = 0 }

-- before tick 0: an entry for each task on the core, of the r tasks from k on
abbrev pub entries_from : Tasks → ℕ → ℕ → ℕ → List BookEntry
entries_from tasks core k zero = []
entries_from tasks core k (suc r) = cons_if (eqb (core_of tasks k) core) (new_entry tasks k) (entries_from tasks core (suc k) r)

unfoldable pub book : Tasks → ℕ → List BookEntry
book tasks core = entries_from tasks core 0 tasks.n

-- tick t begins a period of the task: it is whole periods after the first release
abbrev pub begins : ℕ → BookEntry → Bool
begins t e = leb e.first_release t && eqb ((t - e.first_release) % e.period) 0

-- the tick at which the task's present period ends
abbrev pub period_end : ℕ → BookEntry → ℕ
period_end t e = e.first_release + ((t - e.first_release) / e.period + 1) * e.period

-- At a tick that begins a task's period, owed becomes what the task is owed for it, and received becomes 0.
abbrev pub renewed : BookEntry → ℕ → BookEntry
renewed e owed = record { task = e.task; period = e.period; budget = e.budget; first_release = e.first_release; owed = owed; received = 0 }

abbrev pub renew : ℕ → ℕ → List ℕ → List BookEntry → List BookEntry
renew charge t requests [] = []
renew charge t requests (e ∷ es) =
    cond (begins t e) (renewed e (owed_for charge e.budget (request requests e.task))) e ∷ renew charge t requests es

-- The tasks with received below owed claim the tick, each by the end of its present period.
abbrev pub claims : ℕ → List BookEntry → List Claim
claims t [] = []
claims t (e ∷ es) = cons_if (ltb e.received e.owed) (record { task = e.task; deadline = period_end t e }) (claims t es)

-- the named task has received one tick more
abbrev pub given : BookEntry → BookEntry
given e = record { task = e.task; period = e.period; budget = e.budget; first_release = e.first_release; owed = e.owed; received = e.received + 1 }

abbrev pub give : ℕ → List BookEntry → List BookEntry
give task [] = []
give task (e ∷ es) = cond (eqb e.task task) (given e) e ∷ give task es

-- the claims at each of a list of ticks, the first of which is tick t; the task with the earliest is named and given the tick
abbrev pub claimed : ℕ → ℕ → List BookEntry → List (List ℕ) → List (List Claim)
claimed charge t es [] = []
claimed charge t es (requests ∷ rest) =
    let es₁ : List BookEntry = renew charge t requests es in
    claims t es₁ ∷ claimed charge (suc t) (give (earliest (claims t es₁)) es₁) rest

-- over a list of ticks from tick 0: the claims at each, and the task that the book names, whose present period ends first; 0 if there is none
abbrev pub claims_over : Tasks → ℕ → List (List ℕ) → List (List Claim)
claims_over tasks core ticks = claimed tasks.charge 0 (book tasks core) ticks

abbrev pub names : Tasks → ℕ → List (List ℕ) → List ℕ
names tasks core ticks = map earliest (claims_over tasks core ticks)
