use Rattle.std.proofs.Common.{◌≡◌, take, drop}
use Rattle.std.specs.List.{position_from}
use Rattle.std.specs.Map.{keys_of, lookup}
use Rattle.std.specs.Option.{option_or}
use Rattle.plan_numbers.proofs.positions.entries_of.Given as goal

abbrev pub invariant-loop-number : goal.invariant-loop-number
invariant-loop-number g l = record {
  keys : keys_of l.list.items ≡ take l.number l.keys;
  numbers : (q : _) → position_from (g.K.PartialEq.eq q) 0 l.keys ≡ option_or (lookup (g.K.PartialEq.eq q) l.list.items) (position_from (g.K.PartialEq.eq q) l.number (drop l.number l.keys));
}
