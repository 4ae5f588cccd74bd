use Rattle.std.proofs.Common.{◌∙◌, ◌+◌, ◌<◌, ap, length, arith}
use Rattle.bus_semantics.specs.Common.{plan_of, first_machine}
use Rattle.port_objects.specs.declared.object.Object.TheVariants.{Machine}
use Rattle.port_objects.specs.Common.{of_machine, before_machines, opening_of_machine}
use Rattle.port_objects.proofs.Opened.{machines_from, row_more, first_stands}
use Rattle.port_objects.proofs.making.push_machines.Goals as goal

pub loop-machine-preserved : goal.loop-machine-preserved
loop-machine-preserved c =
    let p = plan_of c.args.p.now in
    let n = c.loop-machine.machine in
    let within : n < length c.args.p.now.machines = omega (arith, c.loop-machine-test.true, c.loop-machine.auto.machine-end, c.len-machine-end.ensures) in
    record {
      long = c.take_list-events.ensures.long ∙ c.loop-machine.invariant.long;
      left = λ other next. c.take_list-events.ensures.others other (omega (arith, next)) ∙ c.loop-machine.invariant.left other (omega (arith, next));
      first = row_more p (before_machines p) (opening_of_machine p) n (n + 1) c.loop-machine.objects.items c.push.new.self.items (Machine c.in_ok-made.made) (first_machine p + n) (omega arith) c.loop-machine.invariant.first
          (ap (λ k. k + n) (machines_from p c.requires.sound)) (ap of_machine c.in_ok-made.ensures.kept) c.in_ok-made.ensures.planned
          (record { past = tt; keeps = first_stands p n (c.first_machine_stands_for_nothing.ensures p (first_machine p + n) (c.requires.sound.machines n within)) }) c.in_ok-push.ensures.items;
    }
