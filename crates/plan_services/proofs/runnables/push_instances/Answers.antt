use Rattle.std.proofs.Common.{[]}
use Rattle.bus_semantics.specs.Common.{slice_get, option_map_or}
use Rattle.plan_definitions.specs.Started.{runnables_of_component}
use Rattle.plan_definitions.proofs.Turns.{from_added, from_all}
use Rattle.plan_services.proofs.runnables.push_instances.Goals as goal

pub loop-number-preserved : goal.loop-number-preserved
loop-number-preserved c = record {
  listed = from_added (λ i x. option_map_or (runnables_of_component c.args.source.now.d.now c.args.source.now.f.now i) (slice_get c.args.source.now.d.now.components x.component) []) c.args.instances.now _ _ _ c.loop-number.number _ c.loop-number-test.true c.index-instances-number.is c.in_ok-push_instance.ensures.listed c.loop-number.invariant.listed;
  coded = c.in_ok-push_instance.ensures.coded;
}

pub returns-clause-listed : goal.returns-clause-listed
returns-clause-listed c = from_all (λ i x. option_map_or (runnables_of_component c.args.source.now.d.now c.args.source.now.f.now i) (slice_get c.args.source.now.d.now.components x.component) []) c.args.instances.now _ _ c.loop-number.number c.loop-number-test.false c.loop-number.invariant.listed
