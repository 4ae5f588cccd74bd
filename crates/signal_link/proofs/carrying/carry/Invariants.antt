use Rattle.std.proofs.Common.{◌≡◌, ◌+◌, ◌*◌, length}
use Rattle.rte_value.specs.Values.{words_of}
use Rattle.signal_link.proofs.Sending.{IsUnderWay}
use Rattle.signal_link.proofs.carrying.carry.Given as goal

-- some of the frame did not come yet
abbrev pub invariant-turns : goal.invariant-turns
invariant-turns g l = let way = g.L.Link.way in let faults = g.L.Link.faults in let never = g.L.Link.never_fails in record {
  under_way : IsUnderWay l.fn.unframer.links l.link (words_of l.value) l.unframer (way l.way) l.unsent;
  faults : faults l.way ≡ faults l.fn.way;
  never : never l.way ≡ never l.fn.way;
}

-- what is not sent has two moves before it
abbrev pub decreases-turns : goal.decreases-turns
decreases-turns g l = let way = g.L.Link.way in 2 * length l.unsent + length (way l.way)
