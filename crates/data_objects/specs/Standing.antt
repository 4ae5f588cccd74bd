-- What a group keeps, as the definitions give it from a past of the group, or of a bundle that has it.
use Rattle.std.specs.Prelude.{◌≡◌, ℕ, map, Bool, option_map}
use Rattle.bus_semantics.specs.Common.{words_of, Plan, Past, last_stored, is_invalid, is_updated, is_due}
use Rattle.bus_semantics.specs.declared.entries.Actor.TheVariants.{Env}
use Rattle.object_kinds.specs.Layout.{group_at, IsAlone, members_of, events_of, waits_for_data}
use Rattle.data_objects.specs.Layout.{initial_of, receiver_of, IsUnqueuedGroup}
use Rattle.data_objects.specs.Kept.{Kept}

-- whether an event is due after these entries. What is due for data goes by no actor
abbrev pub due_after : Plan → Past → (event : ℕ) → Bool
due_after p l e = is_due p Env e l

-- the last value, whether it is invalid, who was updated, and which events are due
pub record GroupKeeps (p : Plan) (group : ℕ) (k : Kept) (l : Past) : Type 0 where
  pub is_group : IsUnqueuedGroup p group
  pub waiting : k.events ≡ events_of p (waits_for_data p group)
  pub inits : k.unqueued.inits ≡ map (initial_of p) (members_of p group)
  pub receivers : k.unqueued.events ≡ map (receiver_of p group) k.events
  pub stored : option_map words_of k.unqueued.stored ≡ last_stored p group l
  pub invalid : k.unqueued.invalid ≡ is_invalid p group l
  pub updated : k.unqueued.updated ≡ map (λ x. is_updated p x l) (members_of p group)
  pub due : k.unqueued.due ≡ map (due_after p l) k.events

-- the object of this number is the group
pub record Keeps (p : Plan) (object : ℕ) (k : Kept) (l : Past) : Type 0 where
  pub alone : IsAlone p object
  pub group : GroupKeeps p (group_at p object) k l
