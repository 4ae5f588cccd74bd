-- What a group of unqueued data elements keeps, as plain data.
use Rattle.std.specs.Prelude.{ℕ, List, map, Bool}
use Rattle.data_objects.specs.KeptValues as ports
use Rattle.bus_semantics.specs.Plan.{Plan}
use Rattle.object_kinds.specs.Common.{members_of, events_of, waits_for_data, place, is_pending}
use Rattle.data_objects.specs.Layout.{initial_of, receiver_of}

-- the plan's DataReceivedEvents that wait for the group, in rising order, and what its elements keep
pub record Kept : Type 0 where
  pub events : List ℕ
  pub unqueued : ports.Kept

-- with the events that the last write or publication made pending
pub record GroupState : Type 0 where
  pub kept : Kept
  pub woken : List ℕ

-- what is kept before anything has happened
abbrev pub opening : Plan → (group : ℕ) → Kept
opening p g = record {
  events = events_of p (waits_for_data p g);
  unqueued = ports.fresh (map (initial_of p) (members_of p g)) (map (receiver_of p g) (events_of p (waits_for_data p g)));
}

-- whether a start by an event may come
abbrev pub may_start : Kept → (event : ℕ) → Bool
may_start k e = is_pending k.unqueued.due (place e k.events)
