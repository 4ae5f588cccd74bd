-- What of a plan belongs to one object: the elements of a group, the group that a bundle is, and the events that wait for them.
use Rattle.std.specs.Prelude.{◌≡◌, ℕ, zero, suc, List, [], ◌∷◌, length, filter, get_or, Bool, false, ◌==◌, if◌then◌else◌, Option, Some, None, option_map}
use Rattle.bus_semantics.specs.Common.{same_number, Plan, kind_of, positions, home_of, bundle_of, bundle_of_list, groups_at, is_in_group}
use Rattle.bus_laws.specs.Common.{EventKind, DataReceived}

-- the elements of a group, in rising order
abbrev pub members_of : Plan → (group : ℕ) → List ℕ
members_of p g = filter (is_in_group p g) (positions (length p.elements))

-- the least group of a bundle: the only one, if the bundle is a group by itself
abbrev pub group_at : Plan → (bundle : ℕ) → ℕ
group_at p b = get_or (groups_at p b) 0 0

-- the bundle is one group, and no coherent list touches it: so the object of the group's elements is the group
pub record IsAlone (p : Plan) (bundle : ℕ) : Type 0 where
  pub home : home_of p (group_at p bundle) ≡ Some bundle
  pub alone : (other : ℕ) → home_of p other ≡ Some bundle → other ≡ group_at p bundle
  pub unlisted : (list : ℕ) → bundle_of_list p list ≡ Some bundle → ⊥

-- the events of a plan whose kind passes, in rising order
abbrev pub events_of : Plan → (EventKind → Bool) → List ℕ
events_of p test = filter (λ e. test (kind_of p e)) (positions (length p.events))

-- a DataReceivedEvent of an element of the group
abbrev pub waits_for_data : Plan → (group : ℕ) → EventKind → Bool
waits_for_data p g (DataReceived x) = is_in_group p g x
waits_for_data p g _ = false

-- a DataReceivedEvent of an element of the bundle
abbrev pub waits_in_bundle : Plan → (bundle : ℕ) → EventKind → Bool
waits_in_bundle p b (DataReceived x) = same_number (bundle_of p x) (Some b)
waits_in_bundle p b _ = false

abbrev pub element_in : EventKind → ℕ
element_in (DataReceived x) = x
element_in _ = 0

-- where a number stands in a list, first
abbrev pub place : ℕ → List ℕ → Option ℕ
place x [] = None
place x (y ∷ ys) = if x == y then Some zero else option_map (λ i. suc i) (place x ys)
