use Rattle.std.proofs.Common.{sym, ◌∙◌}
use Rattle.latches.proofs.Places.{found_at}
use Rattle.core_runtime.proofs.Asleep.{over_held}
use Rattle.core_runtime.proofs.resting.rest_if_over.Goals as goal

pub returns-then-not-may_start : goal.returns-then-not-may_start
returns-then-not-may_start c = λ p t cores at watch.
    let n = c.in-Some.number in
    let object = c.in-Some-get.object.now in
    let found = found_at c.args.objects.now n object c.in-Some-get.ensures.lookup.3.0 c.in-Some-get.ensures.lookup.1 in
    c.rest_event.ensures p t c.args.objects.now _ cores
    (over_held c.held_starts_lead_nowhere.ensures p c.args.objects.now n c.args.event object found (sym at ∙ c.in-Some.is) (sym c.if-not-may_start.ensures)) watch
