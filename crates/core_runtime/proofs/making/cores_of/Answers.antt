use Rattle.std.proofs.Common.{sym, subst, arith}
use Rattle.bus_semantics.specs.Plan.{plan_of}
use Rattle.core_runtime.specs.Nodes.{AreNewCores}
use Rattle.core_runtime.proofs.NewNodes.{one_more}
use Rattle.core_runtime.proofs.making.cores_of.Goals as goal

pub loop-number-preserved : goal.loop-number-preserved
loop-number-preserved c = record {
  count = omega (arith, c.loop-number.invariant.count, c.in_ok-push.ensures.len);
  cores = subst (AreNewCores (plan_of c.args.p.now) c.args.m.now c.args.t.now) (sym c.in_ok-push.ensures.items)
      (one_more (plan_of c.args.p.now) c.args.m.now c.args.t.now c.loop-number.cores.items c.loop-number.number c.in_ok-core_of.field-0 c.loop-number.invariant.count c.loop-number.invariant.cores c.in_ok-core_of.ensures);
}
