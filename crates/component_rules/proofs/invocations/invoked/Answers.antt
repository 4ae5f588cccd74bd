use Rattle.std.proofs.Common.{[]}
use Rattle.description_types.specs.declared.component.Event.{Event}
use Rattle.plan_definitions.specs.Invocations.{operation_of}
use Rattle.component_rules.proofs.Gathering.{all_gathered, gathered}
use Rattle.component_rules.proofs.invocations.invoked.Goals as goal

pub loop-event-preserved : goal.loop-event-preserved
loop-event-preserved c =
    gathered c.args.events.now c.loop-event.event-index c.event-item.result c.loop-event-test.true c.event-item.is (λ (e : Event). operation_of e.kind) [] c.loop-event.found.items c.note.new.found.items
    c.loop-event.invariant c.in_ok-note.ensures

pub returns : goal.returns
returns c = all_gathered c.args.events.now c.loop-event.event-index c.loop-event-test.false (λ (e : Event). operation_of e.kind) [] c.loop-event.found.items c.loop-event.invariant
