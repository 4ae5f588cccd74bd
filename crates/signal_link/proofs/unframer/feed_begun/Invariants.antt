use Rattle.std.proofs.Common.{◌≡◌, ℕ, List, ◌++◌, take}
use Rattle.std.specs.Option.{option_map}
use Rattle.signal_link.specs.Parts.{IsPart, begun_of}
use Rattle.signal_link.proofs.unframer.feed_begun.Given as goal

abbrev pub invariant-loop-at : goal.invariant-loop-at
invariant-loop-at l = record {
  part : IsPart l.links l.part;
  begun : begun_of l.part ≡ option_map (λ (kept : List ℕ). kept ++ take l.at l.piece) (begun_of l.initial.part);
}
