-- What is asked of the plans whose objects are made. A sound plan has it.
use Rattle.std.specs.Prelude.{◌≡◌, ◌<◌, ◌+◌, ◌^◌, ℕ, length, map, sum, Bool, true, false, nat_le, Some, option_and_then, slice_get}
use Rattle.bus_semantics.specs.Common.{list_any, same_number, Plan, look, bundle_of, first_server, first_machine, places_at, groups_fit, objects_counted, bundles_fit}
use Rattle.bus_semantics.specs.declared.plan.CoherentList.{CoherentList}
use Rattle.object_kinds.specs.Layout.{group_at, IsAlone, members_of}
use Rattle.data_objects.specs.Layout.{IsUnqueuedGroup}
use Rattle.bundle_objects.specs.Layout.{IsBundle}
use Rattle.queue_objects.specs.Layout.{receivers_of, is_queued_at, IsQueuedGroup}
use Rattle.server_objects.specs.Layout.{IsServer}
use Rattle.server_objects.specs.Plans.{AreJoined}
use Rattle.machine_objects.specs.Layout.{IsMachine}
use Rattle.machine_objects.specs.Plans.{AreTheirs}
use Rattle.clock_objects.specs.Layout.{have_periods}

-- whether the first element of a group is queued
abbrev pub has_queues : Plan → (group : ℕ) → Bool
has_queues p g = look (members_of p g) 0 (is_queued_at p) false

-- each element of the group is queued, and its queues have few enough places
pub record QueuesFit (p : Plan) (group : ℕ) : Type 0 where
  pub queued : IsQueuedGroup p group
  pub places : sum (map (places_at p) (receivers_of p group)) < 2 ^ 32

-- the elements of a group are all queued, or none is: as its first one
abbrev pub IsOfOneKind : Plan → (group : ℕ) → (queued : Bool) → Type 0
IsOfOneKind p g true = QueuesFit p g
IsOfOneKind p g false = IsUnqueuedGroup p g

-- the bundle is a group by itself, of one kind
pub record IsOneGroup (p : Plan) (bundle : ℕ) : Type 0 where
  pub alone : IsAlone p bundle
  pub kind : IsOfOneKind p (group_at p bundle) (has_queues p (group_at p bundle))

-- a coherent list touches the bundle
abbrev pub is_listed : Plan → (bundle : ℕ) → Bool
is_listed p b = list_any (λ (c : CoherentList). same_number (option_and_then (bundle_of p) (slice_get c.elems 0)) (Some b)) p.lists

-- a bundle that lists touch has unqueued groups alone; any other one is a group
abbrev pub IsOfKind : Plan → (bundle : ℕ) → (listed : Bool) → Type 0
IsOfKind p b true = IsBundle p b
IsOfKind p b false = IsOneGroup p b

-- groups list their elements, bundles list their groups and are of one kind each, servers and machines are such that are made and own the
-- points and events that name them, the objects and events are counted, and no period is empty
pub record HasObjects (p : Plan) : Type 0 where
  pub groups : groups_fit p ≡ true
  pub bundles : bundles_fit p ≡ true
  pub kinds : (bundle : ℕ) → bundle < length p.bundles → IsOfKind p bundle (is_listed p bundle)
  pub servers : (server : ℕ) → server < length p.servers → IsServer p (first_server p + server)
  pub joined : AreJoined p
  pub machines : (machine : ℕ) → machine < length p.machines → IsMachine p (first_machine p + machine)
  pub theirs : AreTheirs p
  pub counted : objects_counted p ≡ true
  pub few_events : nat_le (length p.events) 16384 ≡ true
  pub periods : have_periods p ≡ true
