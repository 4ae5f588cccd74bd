use Rattle.plan_definitions.specs.Callings.{call_key}
use Rattle.plan_services.proofs.Few.{few_keyed}
use Rattle.plan_services.proofs.listed_callings.calls_of.Goals as goal

pub of-requires : goal.of-requires
of-requires c = few_keyed call_key c.as_slice.result.now c.in_ok-keys.keys.items c.args.list.now c.as_slice.ensures.value c.in_ok-keys.ensures c.requires
