use Rattle.std.proofs.Common.{ap}
use Rattle.bus_semantics.specs.Plan.{plan_of}
use Rattle.port_objects.specs.declared.object.Object.TheVariants.{Clock}
use Rattle.port_objects.specs.Kept.{of_clock}
use Rattle.port_objects.proofs.Opened.{clock_more}
use Rattle.port_objects.proofs.making.push_clock.Goals as goal

pub returns : goal.returns
returns c =
    let p = plan_of c.args.p.now in
    clock_more p c.requires.sound c.args.objects.now.items c.push.new.self.items (Clock c.in_ok-ticks.ticks) c.requires.first (ap of_clock c.in_ok-ticks.ensures.kept) c.in_ok-ticks.ensures.planned
    (record { past = tt; keeps = c.first_clock_stands_for_nothing.ensures p }) c.in_ok-push.ensures.items
