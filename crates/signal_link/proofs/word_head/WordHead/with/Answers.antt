use Rattle.std.proofs.Common.{arith}
use Rattle.signal_link.proofs.Heads.{pushed_fits}
use Rattle.signal_link.proofs.word_head.WordHead.with.Goals as goal

pub overflow_mul-result : goal.overflow_mul-result
overflow_mul-result c = let fits = pushed_fits c.args.self c.args.byte c.requires.head c.requires.room (omega arith) in omega arith

pub overflow_add-result : goal.overflow_add-result
overflow_add-result c = let fits = pushed_fits c.args.self c.args.byte c.requires.head c.requires.room (omega arith) in omega arith
