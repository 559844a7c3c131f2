-- What a test, or several made in order, say of a call: it is accepted, or the cause of its refusal.
use Rattle.std.specs.Prelude.{Result}
use Rattle.refusal.specs.declared.Cause.{Cause}

abbrev pub Outcome : Type 0
Outcome = Result (Unit {0}) Cause
