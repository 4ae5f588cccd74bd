use Rattle.std.proofs.Common.{◌≡◌, ℕ, drop, length, map}
use Rattle.std.specs.List.{flat_map}
use Rattle.plan_definitions.specs.ElementGroups.{least}
use Rattle.plan_elements.specs.Spreads.{across_pair, number_at, spread_numbers}
use Rattle.plan_elements.proofs.spread.spread.Given as goal

-- as many as before, and what the pairs that are left lower each to
abbrev pub invariant-loop-pair : goal.invariant-loop-pair
invariant-loop-pair l = record {
  long : length l.list.items ≡ length l.numbers;
  numbers : (n : ℕ) → spread_numbers l.pairs (number_at l.numbers) n ≡ least (number_at l.list.items n) (map (number_at l.numbers) (flat_map (across_pair n) (drop l.pair-index l.pairs)));
}
