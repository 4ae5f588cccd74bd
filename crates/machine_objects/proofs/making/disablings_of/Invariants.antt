use Rattle.std.proofs.Common.{◌≡◌, map, take}
use Rattle.bus_semantics.specs.Plan.{plan_of}
use Rattle.mode_machine.specs.Disabling.{modes_in}
use Rattle.machine_objects.specs.Layout.{disabling_modes}
use Rattle.machine_objects.proofs.making.disablings_of.Given as goal

abbrev pub invariant-loop-event : goal.invariant-loop-event
invariant-loop-event l = map modes_in l.disablings.items ≡ map (disabling_modes (plan_of l.p)) (take l.event-index l.events)
