-- Bundles: groups that coherent lists connect, which so are one object; any other group is a bundle by itself. Bundles are this
-- project's own.
use Rattle.std.specs.Prelude.{ℕ, List, [], ◌∷◌, map, length, filter, min, get_or, slice_get, ◌==◌, if◌then◌else◌, Option, Some, None, option_and_then}
use Rattle.std.specs.List.{list_any}
use Rattle.rte_value.specs.Values.{same_number}
use Rattle.bus_semantics.specs.Plan.{Plan, look, positions, group_of}
use Rattle.bus_semantics.specs.Lists.{elems_of}

-- the bundle of a group
abbrev pub home_of : Plan → (group : ℕ) → Option ℕ
home_of p g = look p.homes g (λ (b : ℕ). Some b) None

-- the bundle of an element's group
abbrev pub bundle_of : Plan → (elem : ℕ) → Option ℕ
bundle_of p x = option_and_then (home_of p) (group_of p x)

-- the bundle of a list's elements, which all have one: that of the first
abbrev pub bundle_of_list : Plan → (list : ℕ) → Option ℕ
bundle_of_list p l = option_and_then (bundle_of p) (slice_get (elems_of p l) 0)

-- the groups of a bundle, in rising order
abbrev pub groups_at : Plan → (bundle : ℕ) → List ℕ
groups_at p b = filter (λ g. same_number (home_of p g) (Some b)) (positions (length p.homes))

-- ---- what lists connect. Each group has a label, the least group that it is connected with so far

abbrev pub least : ℕ → List ℕ → ℕ
least n [] = n
least n (m ∷ ms) = min m (least n ms)

-- these groups are connected: all that have a label of theirs get the least of these labels
abbrev pub together : (groups : List ℕ) → (labels : List ℕ) → List ℕ
together gs labels = let theirs = map (λ g. get_or labels g g) gs in map (λ l. if list_any (λ t. t == l) theirs then least l theirs else l) labels

abbrev pub leaders_on : (labels : List ℕ) → (lists : List (List ℕ)) → List ℕ
leaders_on labels [] = labels
leaders_on labels (gs ∷ more) = leaders_on (together gs labels) more

-- for each of n groups the least one that these lists of groups connect with it
abbrev pub leaders_by : (n : ℕ) → (lists : List (List ℕ)) → List ℕ
leaders_by n lists = leaders_on (positions n) lists
