-- A group as it is of a plan: all in it that no call changes.
use Rattle.std.specs.Prelude.{◌≡◌, ℕ, map}
use Rattle.bus_semantics.specs.Plan.{Plan}
use Rattle.object_kinds.specs.Layout.{group_at, IsAlone, members_of, events_of, waits_for_data}
use Rattle.data_objects.specs.Layout.{initial_of, receiver_of, IsUnqueuedGroup}
use Rattle.data_objects.specs.Kept.{Kept}

pub record IsGroupOfPlan (p : Plan) (group : ℕ) (k : Kept) : Type 0 where
  pub is_group : IsUnqueuedGroup p group
  pub waiting : k.events ≡ events_of p (waits_for_data p group)
  pub inits : k.unqueued.inits ≡ map (initial_of p) (members_of p group)
  pub receivers : k.unqueued.events ≡ map (receiver_of p group) k.events

-- the object of this number is the group
pub record IsOfPlan (p : Plan) (object : ℕ) (k : Kept) : Type 0 where
  pub alone : IsAlone p object
  pub group : IsGroupOfPlan p (group_at p object) k
