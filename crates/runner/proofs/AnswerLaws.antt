-- What is said of every answer that equals the definition of a tick.
use Rattle.std.specs.Prelude.{Ok, Err}
use Prim.Native.Nat.{ℕ}
use mathlib.Core.Path.{◌≡◌, refl, sym, ◌∙◌}
use mathlib.Core.List.{List}
use mathlib.Core.Logic.{◌⊎◌, inl, inr, ⊎_elim, ◌≢◌, by_cases}
use native.Mathlib.Decide.{ℕ_discrete}
use Rattle.refusal.specs.Causes.{number_in}
use Rattle.refusal.specs.Conditions.{Decides}
use Rattle.refusal.specs.declared.Cause.TheVariants.{Slot as WrongSlot}
use Rattle.refusal.proofs.ConditionLaws.{decides_same}
use Rattle.edf.specs.declared.Slot.{Slot}
use Rattle.edf.specs.Slots.{first_wrong}
use Rattle.edf.specs.Tick.{stepped, refused_tick, tick}
use Rattle.edf.proofs.DemandLaws.{split}
use Rattle.runner.specs.declared.Core.{Core}
use Rattle.runner.specs.declared.Ticked.{Ticked}
use Rattle.runner.specs.Answers.{tick_answer}
use Rattle.runner.specs.Records.{ValidRecord, record_conditions}
use Rattle.runner.specs.Plain.{PlainRefusal}
use Rattle.runner.proofs.RecordLaws.{Decided, record_overcharged, record_accepted, record_refused}
use Rattle.runner.proofs.TickLaws.{tick_overcharged, tick_accepted, tick_refused}

module _ (charge : ℕ) (slots : List Slot) (requests : List ℕ) where
  -- A tick makes its steps, and that is right; or it refuses at a place, and that is.
  tick_ends : ((tick charge slots requests ≡ stepped charge slots requests) × Decided charge slots (Ok tt))
      ⊎ ((place : ℕ) × (tick charge slots requests ≡ refused_tick charge slots place) × Decided charge slots (Err (WrongSlot place)))
  tick_ends = elim (split charge 9) [
    | inl h ↦
        by_cases (ℕ_discrete (first_wrong charge slots) 0)
        (λ z. inl (sym (tick_accepted charge slots requests h refl z), record_accepted charge slots h refl z))
        (λ n. inr (first_wrong charge slots, sym (tick_refused charge slots requests h refl n), record_refused charge slots h refl n))
    | inr h ↦ inr (0, sym (tick_overcharged charge slots requests h), record_overcharged charge slots h)
  ]

module _ (core : Core) (requests : List ℕ) (r : Ticked) (e : tick_answer r ≡ tick core.charge core.slots requests) where
  pub answer_decides : Decides (ValidRecord core.charge core.slots) (record_conditions core.charge core.slots) r.outcome
  unfolding stepped refused_tick tick_answer
  answer_decides =
      ⊎_elim
      (λ t. let w = e ∙ t.0 in decides_same r.outcome (Ok tt) (λ i. (w i).refusal) (λ i. (w i).place) t.1)
      (λ t. let w = e ∙ t.1 in decides_same r.outcome (Err (WrongSlot t.0)) (λ i. (w i).refusal) (λ i. (w i).place) t.2)
      (tick_ends core.charge core.slots requests)

  pub answer_refused : number_in r.outcome ≢ 0 → PlainRefusal core r
  unfolding stepped refused_tick tick_answer
  answer_refused n =
      ⊎_elim
      (λ t. let w = e ∙ t.0 in absurd (n (λ i. (w i).refusal)))
      (λ t. let w = e ∙ t.1 in
      record { unchanged = λ i. record { slots = (w i).slots; charge = (w i).charge }; runs_none = λ i. (w i).run; late-none = λ i. (w i).late })
      (tick_ends core.charge core.slots requests)
