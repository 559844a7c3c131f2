-- The tests, then the steps or a refusal; what else is promised follows from the answer.
use Rattle.std.specs.Prelude.{Ok, Err}
use Prim.Native.Nat.{ℕ}
use mathlib.Core.Path.{◌≡◌, refl, sym, ◌∙◌}
use mathlib.Core.Logic.{◌≢◌}
use mathlib.Core.List.{List}
use native.Mathlib.Omega.{arith}
use borrow.Author.Tests.{eqb-true, eqb-false}
use lib.ListN.{length, length-map}
use borrow.Author.Rules.{rules}
use Rattle.refusal.specs.Conditions.{Decides}
use Rattle.refusal.specs.declared.Cause.TheVariants.{Slot as WrongSlot}
use Rattle.refusal.proofs.TestLaws.{accepted≢refused}
use Rattle.refusal.proofs.ConditionLaws.{◌also◌}
use Rattle.edf.specs.Tick.{refused_tick, tick}
use Rattle.runner.specs.declared.Core.{Core}
use Rattle.runner.specs.declared.Ticked.{Ticked}
use Rattle.runner.specs.Answers.{tick_answer}
use Rattle.runner.specs.Plain.{PlainTick, PlainRefusal}
use Rattle.runner.specs.Records.{ValidRecord, record_conditions}
use Rattle.runner.proofs.TickLaws.{refused_by, tick_overcharged, tick_refused, tick_accepted}
use Rattle.runner.proofs.PlainLaws.{plain_stepped}
use Rattle.runner.proofs.RecordLaws.{record_valid}
use Rattle.runner.proofs.AnswerLaws.{answer_decides}
use Rattle.runner.proofs.Core.tick.Goals as goal

-- all that is promised of a tick
abbrev Answered : Core → List ℕ → Ticked → Type 0
Answered core requests r =
    (tick_answer r ≡ tick core.charge core.slots requests)
    × (Decides (ValidRecord core.charge core.slots) (record_conditions core.charge core.slots) r.outcome
    × ((r.outcome ≡ Ok tt → PlainTick core.charge core.slots requests r)
    × (r.outcome ≢ Ok tt → PlainRefusal core r)))

-- a refused tick is not accepted,
refusal : (core : Core) (requests : List ℕ) (slot : ℕ) {r : Ticked} → r ≡ record { core = core; run = 0; late = 0; outcome = Err (WrongSlot slot) }
    → refused_tick core.charge core.slots slot ≡ tick core.charge core.slots requests → Answered core requests r
refusal core requests slot {r} same is =
    let answer = refused_by core slot same ∙ is in
    answer
    also (answer_decides core requests r answer)
    also (λ e. absurd (accepted≢refused e (λ i. (same i).outcome)))
    also (λ n. record { unchanged = λ i. (same i).core; runs_none = λ i. (same i).run; late-none = λ i. (same i).late })

-- and an accepted one not refused
acceptance : (core : Core) (requests : List ℕ) {r : Ticked} → tick_answer r ≡ tick core.charge core.slots requests
    → PlainTick core.charge core.slots requests r → r.outcome ≡ Ok tt → Answered core requests r
acceptance core requests {r} answer plain accepted = answer also (answer_decides core requests r answer) also (λ e. plain) also (λ n. absurd (n accepted))

pub stepped-requires : goal.stepped-requires
stepped-requires c = record_valid _ _ (omega (arith, c.if-charge-gt9.false)) refl (eqb-true _ 0 (sym c.all_can_be.ensures ∙ c.if-all_can_be.true))

pub returns-then-charge-gt9 : goal.returns-then-charge-gt9
returns-then-charge-gt9 c =
    let said = refusal _ _ _ c.refused.ensures (tick_overcharged _ _ _ (omega (arith, c.if-charge-gt9.true))) in
    record { answer = said.0; decides = said.1.0; plain = said.1.1.0; refused = said.1.1.1 }

pub returns-then-all_can_be : goal.returns-then-all_can_be
returns-then-all_can_be c =
    let size : length c.args.self.slots ≡ 16 = search rules in
    let small = c.if-charge-gt9.false in
    let none = eqb-true _ 0 (sym c.all_can_be.ensures ∙ c.if-all_can_be.true) in
    let said = acceptance _ _ (c.stepped.ensures.answer ∙ tick_accepted _ _ _ small refl none) (plain_stepped _ _ _ _ size c.stepped.ensures.answer) c.stepped.ensures.outcome in
    record { answer = said.0; decides = said.1.0; plain = said.1.1.0; refused = said.1.1.1 }

pub returns-else-all_can_be : goal.returns-else-all_can_be
returns-else-all_can_be c =
    let small = c.if-charge-gt9.false in
    let wrong = c.first_wrong-wrong.ensures in
    let some = eqb-false _ 0 (sym c.all_can_be.ensures ∙ c.if-all_can_be.false) in
    let said = refusal _ _ _ c.refused-else-all_can_be.ensures (tick_refused _ _ _ small wrong (λ z. some (sym wrong ∙ z))) in
    record { answer = said.0; decides = said.1.0; plain = said.1.1.0; refused = said.1.1.1 }
