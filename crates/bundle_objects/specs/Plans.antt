-- A bundle as it is of a plan: all in it that no call changes.
use Rattle.std.specs.Prelude.{◌≡◌, ℕ, map, length, slice_get, Some}
use Rattle.bus_semantics.specs.Common.{Plan, groups_at}
use Rattle.object_kinds.specs.Layout.{events_of, waits_in_bundle}
use Rattle.data_objects.specs.Kept as groups
use Rattle.data_objects.specs.Plans.{IsGroupOfPlan}
use Rattle.bundle_objects.specs.Layout.{IsBundle, place_of}
use Rattle.bundle_objects.specs.Kept.{Kept}

-- each part is of the group at its place
abbrev pub AreGroups : Plan → Kept → Type 0
AreGroups p k = (i g : ℕ) (part : groups.Kept) → slice_get k.numbers i ≡ Some g → slice_get k.parts i ≡ Some part → IsGroupOfPlan p g part

pub record IsOfPlan (p : Plan) (bundle : ℕ) (k : Kept) : Type 0 where
  pub is_bundle : IsBundle p bundle
  pub numbers : k.numbers ≡ groups_at p bundle
  pub waiting : k.events ≡ events_of p (waits_in_bundle p bundle)
  pub places : k.places ≡ map (place_of p bundle) k.events
  pub counted : length k.parts ≡ length k.numbers
  pub parts : AreGroups p k
