use Rattle.std.proofs.Common.{◌≡◌, take}
use Rattle.trace_counts.specs.Tallies.{after}
use Rattle.trace_counts.proofs.tally.Tally.take.Given as goal

-- so many bytes were taken
abbrev pub invariant-loop-byte : goal.invariant-loop-byte
invariant-loop-byte l = l.self ≡ after l.initial.self (take l.byte-index l.piece)
