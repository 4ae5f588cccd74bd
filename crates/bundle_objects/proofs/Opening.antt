-- What a bundle keeps at first is what the definitions give from no entry.
use Rattle.std.proofs.Common.{◌≡◌, ℕ, refl, sym, ◌∙◌, ap, subst, List, [], length, map, Some}
use Rattle.bus_semantics.specs.Common.{slice_get, length-map, same_Some, Plan, home_of, groups_at}
use Rattle.object_kinds.proofs.Lists.{mapped_at}
use Rattle.data_objects.specs.Kept as groups
use Rattle.data_objects.specs.Standing.{GroupKeeps}
use Rattle.data_objects.proofs.Opening.{group_opens}
use Rattle.bundle_objects.specs.Layout.{IsBundle}
use Rattle.bundle_objects.specs.Kept.{opening}
use Rattle.bundle_objects.specs.Standing.{Keeps}
use Rattle.bundle_objects.proofs.Parts.{number_home}

pub bundle_opens : (p : Plan) (b : ℕ) → IsBundle p b → Keeps p b (opening p b) []
bundle_opens p b is_bundle = record {
  is_bundle = is_bundle;
  numbers = refl;
  waiting = refl;
  places = refl;
  counted = length-map (groups_at p b) (groups.opening p);
  parts = λ i g part number found.
      let is : groups.opening p g ≡ part = same_Some (groups.opening p g) part (sym (mapped_at (groups.opening p) (groups_at p b) i g number) ∙ found) in
      subst (λ q. GroupKeeps p g q []) is (group_opens p g (is_bundle.groups g (number_home p b (groups_at p b) i g refl number)));
}
