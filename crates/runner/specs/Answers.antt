-- What a tick's answer says in the paper's numbers.
use Rattle.refusal.specs.Causes.{number_in, place_in}
use Rattle.edf.specs.Tick.{TickAnswer}
use Rattle.runner.specs.declared.Ticked.{Ticked}

unfoldable pub tick_answer : Ticked → TickAnswer
tick_answer t = record {
  refusal = number_in t.outcome;
  place = place_in t.outcome;
  charge = t.core.charge;
  slots = t.core.slots;
  run = t.run;
  late = t.late;
}
