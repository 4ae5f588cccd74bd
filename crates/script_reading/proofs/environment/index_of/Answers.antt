use Rattle.std.proofs.Common.{◌-◌, ◌<◌, ◌^◌, subst, arith}
use Rattle.bus_semantics.specs.Plan.{plan_of}
use Rattle.script_reading.specs.Common.{IsNoted, how_many}
use Rattle.script_reading.proofs.Indexed.{few_numbered, noted}
use Rattle.script_reading.proofs.environment.index_of.Goals as goal

pub loop-left-preserved : goal.loop-left-preserved
loop-left-preserved c =
    let j = c.loop-left.left - 1 in
    let put = subst (λ t. IsNoted t j c.loop-left.places c.note.new.index) c.offered.ensures c.in_ok-note.ensures in
    record {
      within = omega arith;
      found = noted c.args.form (plan_of c.args.plan.now) (how_many c.args.form (plan_of c.args.plan.now)) j c.loop-left.left c.loop-left.places c.note.new.index (omega arith) (omega arith) put c.loop-left.invariant.found;
    }

pub overflow_cast-left : goal.overflow_cast-left
overflow_cast-left c =
    let few : how_many c.args.form (plan_of c.args.plan.now) < 2 ^ 32 = few_numbered c.args.form (plan_of c.args.plan.now) c.requires in
    omega (arith, few, c.how_many-left.ensures)
