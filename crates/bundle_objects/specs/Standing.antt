-- What a bundle keeps, as the definitions give it from a past of the bundle: each group what they give from all of that past.
use Rattle.std.specs.Prelude.{◌≡◌, ℕ, map, length, slice_get, Some}
use Rattle.bus_semantics.specs.Common.{Plan, groups_at, Past}
use Rattle.object_kinds.specs.Layout.{events_of, waits_in_bundle}
use Rattle.data_objects.specs.Kept as groups
use Rattle.data_objects.specs.Standing.{GroupKeeps}
use Rattle.bundle_objects.specs.Layout.{IsBundle, place_of}
use Rattle.bundle_objects.specs.Kept.{Kept}

pub record Keeps (p : Plan) (bundle : ℕ) (k : Kept) (l : Past) : Type 0 where
  pub is_bundle : IsBundle p bundle
  pub numbers : k.numbers ≡ groups_at p bundle
  pub waiting : k.events ≡ events_of p (waits_in_bundle p bundle)
  pub places : k.places ≡ map (place_of p bundle) k.events
  pub counted : length k.parts ≡ length k.numbers
  pub parts : (i g : ℕ) (part : groups.Kept) → slice_get k.numbers i ≡ Some g → slice_get k.parts i ≡ Some part → GroupKeeps p g part l
