-- A history and entries that follow it, as the law of rounds on threads has them.
pub use Rattle.core_lanes.specs.After.{after, is_within, are_within}
