-- What of a plan belongs to a bundle that coherent lists touch: its groups, and which of them an event waits for.
use Rattle.std.specs.Prelude.{◌≡◌, ◌<◌, ℕ, ◌==◌, List, length, true, Some, option_and_then, unwrap_or}
use Rattle.bus_semantics.specs.Common.{list_any, Plan, group_of, kind_of, elems_of, home_of, bundle_of, bundle_of_list, groups_at}
use Rattle.object_kinds.specs.Layout.{place, element_in}
use Rattle.data_objects.specs.Layout.{IsUnqueuedGroup}

-- it is one of the plan's, no element of its groups is queued, and a list that touches it has elements of its groups alone
pub record IsBundle (p : Plan) (bundle : ℕ) : Type 0 where
  pub number : bundle < length p.bundles
  pub groups : (group : ℕ) → home_of p group ≡ Some bundle → IsUnqueuedGroup p group
  pub together : (list elem : ℕ) → bundle_of_list p list ≡ Some bundle → list_any (λ x. x == elem) (elems_of p list) ≡ true → bundle_of p elem ≡ Some bundle

-- the group that an event waits for: a place among these groups
abbrev pub place_among : Plan → (numbers : List ℕ) → (event : ℕ) → ℕ
place_among p numbers e = unwrap_or (option_and_then (λ g. place g numbers) (group_of p (element_in (kind_of p e)))) 0

-- among the groups of the bundle
abbrev pub place_of : Plan → (bundle : ℕ) → (event : ℕ) → ℕ
place_of p b e = place_among p (groups_at p b) e
