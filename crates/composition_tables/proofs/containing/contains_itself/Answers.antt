use Rattle.composition_tables.proofs.InItself.{in_itself}
use Rattle.composition_tables.proofs.containing.contains_itself.Goals as goal

pub returns : goal.returns
returns c = in_itself c.args.d.now c.args.composition c.in_ok-starts.starts.keys c.in_ok-below.below.keys c.as_slice.result.now c.is_held_by_any.result
    c.in_ok-starts.ensures c.as_slice.ensures.keys c.requires c.in_ok-below.ensures c.is_held_by_any.ensures
