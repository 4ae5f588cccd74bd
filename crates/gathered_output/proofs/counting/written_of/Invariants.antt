use Rattle.std.proofs.Common.{◌≤◌, length, take}
use Rattle.std.specs.Io.KnownBytes.{Appends}
use Rattle.gathered_output.proofs.counting.written_of.Given as goal

abbrev pub invariant-loop : goal.invariant-loop
invariant-loop g l = (l.written ≤ length l.fn.piece) × Appends (g.W.Write.contents l.fn.out) (g.W.Write.contents l.out) (take l.written l.fn.piece)
