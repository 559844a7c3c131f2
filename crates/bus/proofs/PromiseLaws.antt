-- What is promised of the answers for bus drives.
use Rattle.std.specs.Prelude.{Ok, Err}
use Prim.Native.Nat.{ℕ, ◌≤◌, ◌<◌, ◌∣◌}
use mathlib.Core.Path.{◌≡◌, refl, sym, ◌∙◌, ap}
use mathlib.Core.List.{List, [], ◌∷◌, ◌++◌}
use mathlib.Core.Logic.{◌⊎◌, inl, inr, ⊎_elim, ◌≢◌, ◌↔◌}
use native.Mathlib.Omega.{arith}
use Rattle.numbers.specs.Bounds.{Outside}
use Rattle.numbers.proofs.BoundLaws.{not_outside}
use Rattle.numbers.proofs.FirstLaws.{is_first_map}
use Rattle.refusal.specs.Causes.{number_of, number_in, place_in}
use Rattle.refusal.specs.Tests.{◌then◌, in_order}
use Rattle.refusal.specs.Conditions.{Condition, None, First, Gives, Reports}
use Rattle.refusal.specs.declared.Cause.{Cause}
use Rattle.refusal.specs.declared.Cause.TheVariants.{BusPeriod}
use Rattle.refusal.specs.Outcome.{Outcome}
use Rattle.refusal.proofs.TestLaws.{outcome_cases, refuse_at_refused}
use Rattle.refusal.proofs.ConditionLaws.{decides, no_number, none_first, none-append, first-behind, first_either, Numbers, first_number}
use Rattle.fields.specs.Fields.{period_at}
use Rattle.fields.specs.Limits.{budget_outside, cost_above, affinity_unfit, multiple_above}
use Rattle.fields.specs.declared.Fields.{Fields}
use Rattle.profile.specs.Periods.{Listed}
use Rattle.profile.specs.Tests.{list_test, period_unlisted}
use Rattle.profile.proofs.ListLaws.{listed_exactly, listed_multiple}
use Rattle.taskset.specs.Promise.{Reads}
use Rattle.taskset.specs.Table.{reading_of, Decided}
use Rattle.taskset.specs.declared.Reading.{Reading}
use Rattle.taskset.proofs.TableLaws.{table_accepts, read_outcome, read_fields, read_decided, read_reads}
use Rattle.form.specs.Layout.{ReadsIn}
use Rattle.newform.specs.Form.{new_fields, NewForm}
use Rattle.newform.specs.Limits.{new, new_outcome}
use Rattle.newform.proofs.NewLaws.{new-tested}
use Rattle.encoding.specs.Beside.{beside_of}
use Rattle.encoding.proofs.BesideLaws.{reads_beside}
use Rattle.planner.specs.Plan.{plan_by, plan_of, verdict_outcome}
use Rattle.planner.specs.Promise.{Plans}
use Rattle.planner.specs.declared.Allocation.{Allocation}
use Rattle.planner.proofs.PlanLaws.{plan_alike}
use Rattle.planner.proofs.PromiseLaws.{plan_outcome, plan_all}
use Rattle.bus.specs.Limits.{earlier, bus_conditions, bus_outcome, bus}
use Rattle.bus.specs.Promise.{OneOf, FirstOther, Profile, BusReads, BusPlans}
use Rattle.bus.proofs.BusLaws.{bus_sound, bus-stored}

-- ---- number 22 beside the general tests

-- a test put behind two of a list refuses, or changes nothing
put_in : (a b c x : Outcome) (rest : List Outcome)
    → (a then in_order (b ∷ c ∷ x ∷ rest) ≡ a then in_order (b ∷ c ∷ rest)) ⊎ ((cause : Cause) × (x ≡ Err cause) × (a then in_order (b ∷ c ∷ x ∷ rest) ≡ Err cause))
unfolding in_order ◌then◌
put_in (Err d) b c x rest = inl refl
put_in (Ok _) (Err d) c x rest = inl refl
put_in (Ok _) (Ok _) (Err d) x rest = inl refl
put_in (Ok _) (Ok _) (Ok _) (Ok _) rest = inl refl
put_in (Ok _) (Ok _) (Ok _) (Err d) rest = inr (d, refl, refl)

unless : (s : List ℕ) → number_in (bus_outcome s) ≢ 22 → bus_outcome s ≡ new_outcome s
unfolding bus_outcome new_outcome
unless s n =
    ⊎_elim (λ e. e)
    (λ r. absurd (n (ap number_in r.2 ∙ ap number_of (sym (refuse_at_refused _ BusPeriod r.0 r.1).2))))
    (put_in _ _ _ (list_test (new_fields s)) _)

-- ---- the place of 22

module _ (s : List ℕ) where
  abbrev f : Fields
  f = new_fields s

  -- what comes behind number 22
  abbrev later : List Condition
  later = budget_outside f ∷ cost_above f ∷ affinity_unfit f ∷ []

  earlier_numbers : Numbers (λ k. k ≤ 17) (earlier s)
  earlier_numbers = (omega arith, (omega arith, (omega arith, (omega arith, (omega arith, (omega arith, (omega arith, tt)))))))

  later_numbers : Numbers (λ k. k ≤ 15) later
  later_numbers = (omega arith, (omega arith, (omega arith, tt)))

  not_seven : Numbers (λ k. k ≢ 7) (bus_conditions s)
  not_seven =
      (λ e. omega arith, (λ e. omega arith, (λ e. omega arith, (λ e. omega arith, (λ e. omega arith, (λ e. omega arith, (λ e. omega arith, (λ e. omega arith, (λ e. omega arith, (λ e. omega arith, (λ e. omega arith, tt)))))))))))

  -- the first condition to hold is number 22
  is_first : (task : ℕ) → First (bus_conditions s) 22 task ↔ FirstOther Listed s task
  is_first task = (
    λ h.
        ⊎_elim
        (λ a. absurd (omega (arith, first_number (λ k. k ≤ 17) (earlier s) earlier_numbers 22 task a)))
        (λ a. (a.0, ⊎_elim (λ b. b.1) (λ b. absurd (omega (arith, first_number (λ k. k ≤ 15) later later_numbers 22 task b.1))) a.1))
        (first_either (earlier s) (period_unlisted f ∷ later) 22 task h),
    λ h. first-behind (earlier s) (period_unlisted f ∷ later) 22 task h.0 (inl (refl, h.1)),
  )

  -- where number 5 does not hold, a period is in the list exactly if it divides 10,000
  divides_listed : None (earlier s) → (k : ℕ) → k < f.n → Listed (period_at f k) ↔ (period_at f k ∣ 10000)
  divides_listed n k h = listed_exactly (period_at f k) ((not_outside 1 10000 (period_at f k)).0 (n.1.1.1.1.1.1.0 k h)).0

  by_division : (task : ℕ) → FirstOther Listed s task ↔ FirstOther (λ period. period ∣ 10000) s task
  by_division task = (
    λ h. let d = divides_listed h.0 in (h.0, (h.1.0, h.1.1, is_first_map (λ k b u x. u ((d k b).1 x)) (λ k b u x. u ((d k b).0 x)) h.1.2)),
    λ h. let d = divides_listed h.0 in (h.0, (h.1.0, h.1.1, is_first_map (λ k b u x. u ((d k b).0 x)) (λ k b u x. u ((d k b).1 x)) h.1.2)),
  )

  -- ---- the numbers that come before 22

  abbrev early : List ℕ
  early = 1 ∷ 17 ∷ 2 ∷ 3 ∷ 4 ∷ 13 ∷ 5 ∷ []

  early_numbers : Numbers (OneOf early) (earlier s)
  early_numbers = (
    inl refl,
    (inr (inl refl), (inr (inr (inl refl)), (inr (inr (inr (inl refl))), (inr (inr (inr (inr (inl refl)))), (inr (inr (inr (inr (inr (inl refl))))), (inr (inr (inr (inr (inr (inr (inl refl)))))), tt)))))),
  )

  not_early : (k : ℕ) → Outside 1 5 k → k ≢ 13 → k ≢ 17 → OneOf early k → ⊥
  not_early k h n m (inl e) = (not_outside 1 5 k).1 (omega arith, omega arith) h
  not_early k h n m (inr (inl e)) = m e
  not_early k h n m (inr (inr (inl e))) = (not_outside 1 5 k).1 (omega arith, omega arith) h
  not_early k h n m (inr (inr (inr (inl e)))) = (not_outside 1 5 k).1 (omega arith, omega arith) h
  not_early k h n m (inr (inr (inr (inr (inl e))))) = (not_outside 1 5 k).1 (omega arith, omega arith) h
  not_early k h n m (inr (inr (inr (inr (inr (inl e)))))) = n e
  not_early k h n m (inr (inr (inr (inr (inr (inr (inl e))))))) = (not_outside 1 5 k).1 (omega arith, omega arith) h
  not_early k h n m (inr (inr (inr (inr (inr (inr (inr x7))))))) = elim x7 [ ]

  -- what the general reader tests behind them
  abbrev behind : List Condition
  behind = budget_outside f ∷ cost_above f ∷ affinity_unfit f ∷ multiple_above f ∷ []

  behind_numbers : Numbers (λ k. OneOf early k → ⊥) behind
  behind_numbers =
      (other 6 (omega arith), (other 14 (omega arith), (other 15 (omega arith), (other 7 (omega arith), tt))))
    where
      other : (k : ℕ) → (5 < k) × (k ≢ 13) × (k ≢ 17) → OneOf early k → ⊥
      other k h = not_early k (inr h.0) h.1 h.2

  module _ {o : Outcome} (r : Reports (earlier s ++ behind) o) where
    none-early : None (earlier s) → OneOf early (number_in o) → ⊥
    none-early n =
        ⊎_elim
        (λ e. rw e (not_early 0 (inl (omega arith)) (λ z. omega arith) (λ z. omega arith)))
        (λ e.
        rw e.1 (⊎_elim
        (λ a. absurd (none_first (earlier s) _ _ n a))
        (λ a. first_number (λ k. OneOf early k → ⊥) behind behind_numbers _ _ a.1)
        (first_either (earlier s) behind _ _ (r.refused e.0 e.1))))
        (outcome_cases o)

    early-none : (OneOf early (number_in o) → ⊥) → None (earlier s)
    early-none n =
        ⊎_elim
        (λ e. ((none-append (earlier s) behind).0 (r.accepted e)).0)
        (λ e.
        ⊎_elim
        (λ a. absurd (n (rw e.1 (first_number (OneOf early) (earlier s) early_numbers _ _ a))))
        (λ a. a.0)
        (first_either (earlier s) behind _ _ (r.refused e.0 e.1)))
        (outcome_cases o)

  before_said : None (earlier s) ↔ (OneOf early (number_in (new s).outcome) → ⊥)
  unfolding new
  before_said = let r = (new-tested s).reports in (none-early r, early-none r)

  -- ---- what is promised of the outcome

  module _ {o : Outcome} (e : o ≡ (bus s).outcome) where
    decided : Decided (bus s) o
    decided = rw e (decides (bus_sound s).tested)

    at_task : (task : ℕ) → Gives o 22 task ↔ FirstOther Listed s task
    unfolding bus
    at_task task = let d = decided.refused 22 task (omega arith) in (λ g. (is_first task).0 (d.0 g), λ h. d.1 ((is_first task).1 h))

    never_seven : number_in o ≢ 7
    unfolding bus
    never_seven z = first_number (λ k. k ≢ 7) (bus_conditions s) not_seven 7 (place_in o) ((decided.refused 7 (place_in o) (omega arith)).0 (z, refl)) refl

    pub profile_kept : Profile s o
    unfolding bus new
    profile_kept = record {
      unlisted = at_task;
      undivided = λ task. (λ g. (by_division task).0 ((at_task task).0 g), λ h. (at_task task).1 ((by_division task).1 h));
      before = before_said;
      agrees = λ n. e ∙ unless s (λ z. n (ap number_in e ∙ z));
      never = never_seven;
    }

-- ---- the reader and the planner

-- unless it is 22, the table reads as it does by the general reader
pub reads_alike : (s : List ℕ) → number_in (bus s).outcome ≢ 22 → reading_of (bus s) ≡ reading_of (new s)
unfolding reading_of bus new
reads_alike s n = rw (unless s n) refl

module _ (s : List ℕ) {r : Reading} (e : r ≡ reading_of (bus s)) where
  said : r.outcome ≡ (bus s).outcome
  said = read_outcome (bus s) e

  listed_periods : r.outcome ≡ Ok tt → (k : ℕ) → k < r.tasks.fields.n → Listed (period_at r.tasks.fields k)
  unfolding bus
  listed_periods a = rw (read_fields (bus s) e a) ((table_accepts (bus_sound s)).0 (sym said ∙ a)).listed

  pub bus_reads : BusReads s r
  bus_reads = record {
    outcome = profile_kept s said;
    agrees = λ n. e ∙ reads_alike s (λ z. n (ap number_in said ∙ z));
    divides = λ z.
        let a = no_number r.outcome z in
        listed_multiple (period_at r.tasks.fields) r.tasks.fields.n r.tasks.hyperperiod (listed_periods a) ((read_reads (bus s) e (bus_sound s)).exact a).hyperperiod;
  }

  pub read_all : (r ≡ reading_of (bus s)) × (Decided (bus s) r.outcome × (Reads r × (ReadsIn NewForm s r × BusReads s r)))
  read_all = (e, (read_decided (bus s) e (bus_sound s), (read_reads (bus s) e (bus_sound s), (bus-stored s e, bus_reads))))

module _ (s : List ℕ) (limit : ℕ) {r : Allocation} (e : r ≡ plan_of (bus s) limit) where
  plan_said : verdict_outcome r.verdict ≡ (bus s).outcome
  plan_said = ap (λ a. verdict_outcome a.verdict) e ∙ plan_outcome (bus s) limit

  -- an accepted table reads in the old form as it does here
  reads_old : number_in (bus s).outcome ≡ 0 → reading_of (bus s) ≡ reading_of (beside_of s)
  unfolding bus new
  reads_old z =
      reads_alike s (λ q. omega (arith, z, q))
      ∙ sym (reads_beside s ((table_accepts (bus_sound s)).0 (no_number (bus s).outcome z)).general)

  pub bus_plans : BusPlans s limit r
  bus_plans = record {
    outcome = profile_kept s plan_said;
    refuses = plan_said ∙ sym (read_outcome (bus s) refl);
    exact = λ z. e ∙ plan_alike (bus s) (beside_of s) (reads_old (sym (ap number_in plan_said) ∙ z)) limit;
  }

pub plan_kept : (s : List ℕ) {g : Reading} → g ≡ reading_of (bus s) → (limit : ℕ) {r : Allocation} → r ≡ plan_by limit g.outcome g.tasks.fields
    → (r ≡ plan_of (bus s) limit) × (Decided (bus s) (verdict_outcome r.verdict) × (Plans (bus s) limit r × BusPlans s limit r))
plan_kept s e limit w = let a = plan_all (bus_sound s) e limit w in (a.0, (a.1.0, (a.1.1, bus_plans s limit a.0)))
