use Rattle.std.proofs.Common.{refl}
use Rattle.trace_objects.proofs.going.go_on_alone.Goals as goal

pub returns-in-Some : goal.returns-in-Some
returns-in-Some c = λ yes. record { deed = c.in-Some.deed; is = refl; free = c.in-Some.ensures.0; answer = c.in-Some.ensures.1 }
