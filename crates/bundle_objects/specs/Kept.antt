-- What a bundle of groups of unqueued data elements keeps, as plain data.
use Rattle.std.specs.Prelude.{ℕ, List, map, not, count_by, sum_by, Bool, false, Option, slice_get, option_and_then}
use Rattle.bus_semantics.specs.Common.{option_map_or, Plan, groups_at}
use Rattle.object_kinds.specs.Layout.{events_of, waits_in_bundle, place}
use Rattle.data_objects.specs.Kept as groups
use Rattle.bundle_objects.specs.Layout.{place_of}

-- the groups, in rising order; the plan's DataReceivedEvents that wait for them, in rising order, and for each the place of its group; and
-- what each group keeps
pub record Kept : Type 0 where
  pub numbers : List ℕ
  pub events : List ℕ
  pub places : List ℕ
  pub parts : List groups.Kept

-- with the events that the last write or publication made pending, and for how many there is room
pub record BundleState : Type 0 where
  pub kept : Kept
  pub woken : List ℕ
  pub room : ℕ

-- what is kept before anything has happened
abbrev pub opening : Plan → (bundle : ℕ) → Kept
opening p b = record {
  numbers = groups_at p b;
  events = events_of p (waits_in_bundle p b);
  places = map (place_of p b) (events_of p (waits_in_bundle p b));
  parts = map (groups.opening p) (groups_at p b);
}

-- the place of the group that an event waits for
abbrev pub route : Kept → (event : ℕ) → Option ℕ
route k e = option_and_then (λ i. slice_get k.places i) (place e k.events)

-- whether a start by an event may come
abbrev pub may_start : Kept → (event : ℕ) → Bool
may_start k e = option_map_or (λ part. groups.may_start part e) (option_and_then (λ i. slice_get k.parts i) (route k e)) false

-- how many events are not pending
abbrev pub clear_in : Kept → ℕ
clear_in k = sum_by (λ (part : groups.Kept). count_by not part.unqueued.due) k.parts
