-- What a group keeps, as the definitions give it from a past of the group.
use Rattle.std.specs.Prelude.{◌≡◌, ℕ, ℤ, List, map, drop, Bool}
use Rattle.bus_semantics.specs.Common.{words_of, Plan, Past, accepted_at, taken_at, has_lost, places_at, is_due}
use Rattle.bus_semantics.specs.declared.entries.Actor.TheVariants.{Env}
use Rattle.queued_ports.specs.Kept as ports
use Rattle.object_kinds.specs.Layout.{group_at, IsAlone, events_of}
use Rattle.queue_objects.specs.Layout.{receivers_of, waits_for_receiver, receiver_of, words_in, IsQueuedGroup}
use Rattle.queue_objects.specs.Kept.{Kept}

-- whether an event is due after these entries (SWS_RTE: DataReceivedEvent). What is due for data goes by no actor
abbrev pub due_after : Plan → Past → (event : ℕ) → Bool
due_after p l e = is_due p Env e l

-- a queue in the words of the definitions (SWS_RTE: Rte_Receive, queueLength): how many values it may hold, the values in it, the oldest
-- first, and whether one was discarded since the last Receive
pub record Contents : Type 0 where
  pub places : ℕ
  pub values : List (List ℤ)
  pub lost : Bool

abbrev pub contents_of : ports.Queue → Contents
contents_of q = record { places = q.queue_length; values = map words_of q.held; lost = q.lost }

-- in the queue of an element are the values that it accepted, less as many as were taken (SWS_RTE: Rte_Send, Rte_Receive)
abbrev pub contents_after : Plan → Past → (elem : ℕ) → Contents
contents_after p l x = record { places = places_at p x; values = drop (taken_at x l) (accepted_at p x l); lost = has_lost p x l }

-- the queue of each receiver, and which events are due
pub record GroupKeeps (p : Plan) (group : ℕ) (k : Kept) (l : Past) : Type 0 where
  pub is_group : IsQueuedGroup p group
  pub receiving : k.receivers ≡ receivers_of p group
  pub waiting : k.events ≡ events_of p (waits_for_receiver p group)
  pub awaited : k.queued.events ≡ map (receiver_of p group) k.events
  pub words : k.queued.words ≡ words_in p group
  pub queues : map contents_of k.queued.queues ≡ map (contents_after p l) k.receivers
  pub due : k.queued.due ≡ map (due_after p l) k.events

-- the object of this number is the group
pub record Keeps (p : Plan) (object : ℕ) (k : Kept) (l : Past) : Type 0 where
  pub alone : IsAlone p object
  pub group : GroupKeeps p (group_at p object) k l
