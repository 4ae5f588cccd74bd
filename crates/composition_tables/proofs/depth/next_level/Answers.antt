use Rattle.composition_tables.proofs.Deepest.{level_more}
use Rattle.composition_tables.proofs.depth.next_level.Goals as goal

pub returns : goal.returns
returns c = λ n. level_more c.args.d.now n c.args.level.keys c.as_slice.result.now c.in_ok-next.next.keys c.as_slice.ensures.keys c.in_ok-next.ensures
