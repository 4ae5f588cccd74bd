use Rattle.std.proofs.Common.{[], ℕ}
use Rattle.std.specs.List.{slice_get}
use Rattle.std.specs.Option.{option_map_or}
use Rattle.description_types.specs.declared.flat.Instance.{Instance}
use Rattle.plan_definitions.specs.Callings.{callings_of_component}
use Rattle.plan_definitions.proofs.Turns.{from_added, from_all}
use Rattle.plan_services.proofs.callings.push_instances.Goals as goal

pub loop-number-preserved : goal.loop-number-preserved
loop-number-preserved c =
    from_added (λ (i : ℕ) (x : Instance). option_map_or (callings_of_component i) (slice_get c.args.d.now.components x.component) []) c.args.instances.now _ _ _ c.loop-number.number _ c.loop-number-test.true
    c.index-instances-number.is c.in_ok-push_instance.ensures c.loop-number.invariant

pub returns : goal.returns
returns c =
    from_all (λ (i : ℕ) (x : Instance). option_map_or (callings_of_component i) (slice_get c.args.d.now.components x.component) []) c.args.instances.now _ _ c.loop-number.number c.loop-number-test.false c.loop-number.invariant
