use Rattle.std.proofs.KnownBytes.{Appends-kept}
use Rattle.gathered_output.proofs.Pieces.{written_more}
use Rattle.gathered_output.proofs.counting.written_of.Goals as goal
use Rattle.gathered_output.proofs.counting.written_of.Goals.{in-Ok, in-Err}

pub loop-preserved : goal.loop-preserved
loop-preserved g c = elim c.match-write.branch [
  | in-Ok w ↦ rw w.written-is (written_more _ _ _ c.args.piece.now c.loop.written w.in-Ok.count c.loop.invariant.0 w.in-Ok.ensures.bound c.loop.invariant.1 w.in-Ok.ensures.bytes)
  | in-Err w ↦ rw w.written-is (c.loop.invariant.0, Appends-kept _ _ _ _ c.loop.invariant.1 w.in-Err.ensures.bytes)
]
