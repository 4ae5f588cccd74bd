use Rattle.std.proofs.Common.{◌≡◌, ℕ, ◌<◌, ◌||◌, drop, length, take}
use Rattle.std.specs.List.{list_any}
use Rattle.plan_definitions.specs.Common.{keys_of, elements_of}
use Rattle.plan_elements.specs.Ends.{has_at, mark_at, pairs_of}
use Rattle.plan_elements.proofs.ends.ends_of.Given as goal

-- the numbers of the ends so far; the marks are as many as the elements, and tell of the joins so far
abbrev pub invariant-loop-join : goal.invariant-loop-join
invariant-loop-join l = record {
  pairs : l.pairs.items ≡ pairs_of (keys_of (elements_of l.source.d.now l.source.f.now)) (take l.join-index l.source.f.now.joins);
  long : length l.joined.items ≡ length (elements_of l.source.d.now l.source.f.now);
  marks : (n : ℕ) → n < length (elements_of l.source.d.now l.source.f.now) → list_any (has_at (keys_of (elements_of l.source.d.now l.source.f.now)) n) l.source.f.now.joins
      ≡ (mark_at l.joined.items n || list_any (has_at (keys_of (elements_of l.source.d.now l.source.f.now)) n) (drop l.join-index l.source.f.now.joins));
}
