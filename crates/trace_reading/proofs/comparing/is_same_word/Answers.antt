use Rattle.std.proofs.Common.{rules}
use Rattle.trace_reading.proofs.SameBytes.{words_decide}
use Rattle.trace_reading.proofs.comparing.is_same_word.Goals as goal

pub returns : goal.returns
returns c = words_decide c.args.x.now c.args.y.now (search rules) (search rules) (search rules) (search rules) _ _ c.from_le_bytes.ensures c.from_le_bytes-2.ensures
