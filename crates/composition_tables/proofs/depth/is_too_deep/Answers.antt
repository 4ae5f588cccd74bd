use Rattle.composition_tables.proofs.Deepest.{too_deep}
use Rattle.composition_tables.proofs.depth.is_too_deep.Goals as goal

pub returns : goal.returns
returns c = too_deep c.args.d.now c.in_ok-level.level.keys c.in_ok-below.below.keys c.as_slice.result.now c.any_holds_component.result c.as_slice.ensures.keys c.in_ok-level.ensures c.in_ok-below.ensures c.any_holds_component.ensures

pub reached-requires : goal.reached-requires
reached-requires c = λ e h. ((c.in_ok-level.ensures e).0 h).3
