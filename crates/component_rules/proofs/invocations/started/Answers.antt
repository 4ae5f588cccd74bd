use Rattle.std.proofs.Common.{[], refl}
use Rattle.description_types.specs.declared.component.Event.{Event}
use Rattle.component_rules.proofs.Gathering.{all_mapped, mapped}
use Rattle.component_rules.proofs.invocations.started.Goals as goal

pub loop-event-preserved : goal.loop-event-preserved
loop-event-preserved c =
    mapped c.args.events.now c.loop-event.event-index c.event-item.result c.loop-event-test.true c.event-item.is (λ (e : Event). e.runnable) [] c.loop-event.found.items c.push.new.self.items c.event-item.result.runnable
    c.loop-event.invariant c.in_ok-push.ensures.items refl

pub returns : goal.returns
returns c = all_mapped c.args.events.now c.loop-event.event-index c.loop-event-test.false (λ (e : Event). e.runnable) [] c.loop-event.found.items c.loop-event.invariant
