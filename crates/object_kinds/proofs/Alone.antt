-- In a sound plan a bundle that no list touches is one group, and so is the bundle of a group that no list names.
use Rattle.std.proofs.Common.{◌≡◌, ◌<◌, ℕ, Bool, true, false, refl, ◌∙◌, ap, sym, length, get_or, Some}
use Rattle.std.specs.Prelude.{option_and_then}
use Rattle.std.proofs.lemmas.List.Elements.{filter_agree}
use Rattle.bus_semantics.specs.Common.{same_number, Plan, group_of, kind_of, positions, home_of, bundle_of, bundle_of_list, is_in_group, IsSound}
use Rattle.bus_laws.specs.Common.{EventKind, DataReceived, Mapping}
use Rattle.bus_laws.proofs.Bundling.{begins, begun_home, home_there}
use Rattle.bus_laws.proofs.ObjectLists.{IsUnnamed, unnamed_alone, unnamed_untouched, untouched_unnamed, one_group}
use Rattle.object_kinds.specs.Layout.{group_at, IsAlone, events_of, waits_for_data, waits_in_bundle}
use Rattle.object_kinds.proofs.Options.{number_is, is_number}
use Rattle.object_kinds.proofs.Touching.{touched_inside}

-- the group is the bundle
pub record Alone (p : Plan) (g b : ℕ) : Type 0 where
  pub group : group_at p b ≡ g
  pub alone : IsAlone p b

pub only_group : (p : Plan) (g b : ℕ) → home_of p g ≡ Some b → ((other : ℕ) → home_of p other ≡ Some b → other ≡ g) → ((list : ℕ) → bundle_of_list p list ≡ Some b → ⊥) → Alone p g b
only_group p g b home only unlisted =
    let group : group_at p b ≡ g = ap (λ gs. get_or gs 0 0) (one_group p g b home only) in
    record {
      group = group;
      alone = record { home = ap (home_of p) group ∙ home; alone = λ other is. only other is ∙ sym group; unlisted = unlisted };
    }

module _ (p : Plan) (m : Mapping) (sound : IsSound p m) where
  pub unnamed_group : (g b : ℕ) → IsUnnamed p g → home_of p g ≡ Some b → Alone p g b
  unnamed_group g b unnamed home = only_group p g b home (unnamed_alone p m sound g b unnamed home) (unnamed_untouched p m sound g b unnamed home)

  pub untouched_bundle : (b : ℕ) → b < length p.bundles → ((list : ℕ) → bundle_of_list p list ≡ Some b → ⊥) → IsAlone p b
  untouched_bundle b below untouched =
      let first = begins p sound.bundles b below in
      let home : home_of p first.0 ≡ Some b = home_there p sound.bundles first.0 b (begun_home p sound.bundles b first.0 first.1) in
      (unnamed_group first.0 b (untouched_unnamed p m sound first.0 b untouched home) home).alone

-- what waits for the data of a bundle that is a group waits for the group's
pub alone_events : (p : Plan) (b : ℕ) → IsAlone p b → events_of p (waits_in_bundle p b) ≡ events_of p (waits_for_data p (group_at p b))
alone_events p b alone = filter_agree (λ e. waits_in_bundle p b (kind_of p e)) (λ e. waits_for_data p (group_at p b) (kind_of p e)) (λ e. by_kind (kind_of p e)) (positions (length p.events))
  where
    back : (x : ℕ) → is_in_group p (group_at p b) x ≡ true → same_number (bundle_of p x) (Some b) ≡ true
    back x inside = is_number (bundle_of p x) b (ap (option_and_then (home_of p)) (number_is (group_of p x) (group_at p b) inside) ∙ alone.home)

    both : (s t : Bool) → (s ≡ true → t ≡ true) → (t ≡ true → s ≡ true) → s ≡ t
    both true t there back = sym (there refl)
    both false true there back = back refl
    both false false there back = refl

    by_kind : (k : EventKind) → waits_in_bundle p b k ≡ waits_for_data p (group_at p b) k
    by_kind (DataReceived x) = both (same_number (bundle_of p x) (Some b)) (is_in_group p (group_at p b) x) (touched_inside p b x alone) (back x)
    by_kind k = refl
