-- What a group of queued data elements keeps, as plain data (SWS_RTE: Rte_Send, Rte_Receive, DataReceivedEvent).
use Rattle.std.specs.Prelude.{ℕ, List, map, Bool}
use Rattle.bus_semantics.specs.Common.{Plan, places_at}
use Rattle.queued_ports.specs.Kept as ports
use Rattle.object_kinds.specs.Common.{events_of, place, is_pending}
use Rattle.queue_objects.specs.Layout.{receivers_of, waits_for_receiver, receiver_of, words_in}

-- the group's receivers and the plan's DataReceivedEvents that wait for them, both in rising order, and what their queues keep
pub record Kept : Type 0 where
  pub receivers : List ℕ
  pub events : List ℕ
  pub queued : ports.Kept

-- with the events that the last send made pending
pub record GroupState : Type 0 where
  pub kept : Kept
  pub woken : List ℕ

-- what is kept before anything has happened
abbrev pub opening : Plan → (group : ℕ) → Kept
opening p g = record {
  receivers = receivers_of p g;
  events = events_of p (waits_for_receiver p g);
  queued = ports.fresh (map (places_at p) (receivers_of p g)) (map (receiver_of p g) (events_of p (waits_for_receiver p g))) (words_in p g);
}

-- whether a start by an event may come
abbrev pub may_start : Kept → (event : ℕ) → Bool
may_start k e = is_pending k.queued.due (place e k.events)
