use Rattle.std.proofs.Common.{◌≡◌, ℕ, ◌+◌, ◌≤◌, List, bytes_eq, map, drop, length, unwrap_or}
use Rattle.indexmap.specs.IndexMap.{get_by}
use Rattle.declared_names.specs.Names.{position_in, text_of}
use Rattle.declared_names.proofs.names.places_of.Given as goal

abbrev pub invariant-loop-left : goal.invariant-loop-left
invariant-loop-left l = record {
  within : l.left ≤ length l.names;
  found : (name : List ℕ) → unwrap_or (get_by (λ k. bytes_eq name k.now) l.places) (length l.names) ≡ l.left + position_in (map text_of (drop l.left l.names)) name;
}

abbrev pub decreases-loop-left : goal.decreases-loop-left
decreases-loop-left l = l.left
