use Rattle.plan_definitions.specs.Keys.{end_key}
use Rattle.plan_elements.proofs.Few.{place_fits}
use Rattle.plan_elements.proofs.ends.mark_end.Goals as goal

pub number_of-requires : goal.number_of-requires
number_of-requires c = place_fits c.args.source.now.d.now c.args.source.now.f.now (end_key c.args.end) c.place_of-place.result c.place_of-place.ensures c.args.source.now.few
