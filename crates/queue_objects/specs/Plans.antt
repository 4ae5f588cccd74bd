-- A group as it is of a plan: all in it that no call changes.
use Rattle.std.specs.Prelude.{◌≡◌, ℕ, map}
use Rattle.bus_semantics.specs.Common.{Plan, places_at}
use Rattle.queued_ports.specs.Kept as ports
use Rattle.object_kinds.specs.Layout.{group_at, IsAlone, events_of}
use Rattle.queue_objects.specs.Layout.{receivers_of, waits_for_receiver, receiver_of, words_in, IsQueuedGroup}
use Rattle.queue_objects.specs.Kept.{Kept}

pub record IsGroupOfPlan (p : Plan) (group : ℕ) (k : Kept) : Type 0 where
  pub is_group : IsQueuedGroup p group
  pub receiving : k.receivers ≡ receivers_of p group
  pub waiting : k.events ≡ events_of p (waits_for_receiver p group)
  pub awaited : k.queued.events ≡ map (receiver_of p group) k.events
  pub words : k.queued.words ≡ words_in p group
  pub places : map (λ (q : ports.Queue). q.queue_length) k.queued.queues ≡ map (places_at p) k.receivers

-- the object of this number is the group
pub record IsOfPlan (p : Plan) (object : ℕ) (k : Kept) : Type 0 where
  pub alone : IsAlone p object
  pub group : IsGroupOfPlan p (group_at p object) k
