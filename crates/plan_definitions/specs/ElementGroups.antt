-- Groups of data elements that joins connect (SWS_RTE: sender-receiver communication 1:n and n:1).
use Rattle.std.specs.Prelude.{ℕ, List, [], ◌∷◌, length, map, min, nat_eq, Option, Some, None, if◌then◌else◌}
use Rattle.bus_semantics.specs.Common.{position_from, unwrap_or}
use Rattle.description_types.specs.declared.flat.End.{End}
use Rattle.description_types.specs.declared.flat.Join.{Join}
use Rattle.plan_definitions.specs.declared.site.Site.{Site}
use Rattle.plan_definitions.specs.Lists.{from, positions}
use Rattle.plan_definitions.specs.Joined.{end_of, partners}
use Rattle.plan_definitions.specs.Keys.{Key, end_key, key_of, number_in}

abbrev pub least : ℕ → List ℕ → ℕ
least n [] = n
least n (m ∷ ms) = min m (least n ms)

-- The least number among an end and its partners, the ends having numbers.
abbrev pub spread : List Join → (End → ℕ) → End → ℕ
spread joins number e = least (number e) (map number (partners joins e))

abbrev pub own_number : List Key → End → ℕ
own_number keys e = number_in keys (end_key e)

-- The least number among an element and its partners, and among these and their partners. By the rule on groups one of the two
-- sides of a group has one element: all its elements are partners of that one. So the second is the least number of the group.
abbrev pub nearest : List Join → List Key → End → ℕ
nearest joins keys = spread joins (own_number keys)

abbrev pub leader : List Join → List Key → End → ℕ
leader joins keys = spread joins (nearest joins keys)

-- a variable is a group of its own
abbrev pub leader_of : List Join → List Key → Site → ℕ
leader_of joins keys s = by_end (end_of s)
  where
    by_end : Option End → ℕ
    by_end None = number_in keys (key_of s)
    by_end (Some e) = leader joins keys e

-- Groups, from the least number in the group of each element. They are numbered by their least elements: the n-th group is that
-- of the n-th element that is the least of its group.
abbrev pub head_at : ℕ → ℕ → List ℕ
head_at n l = if nat_eq l n then n ∷ [] else []

abbrev pub heads : List ℕ → List ℕ
heads leaders = from 0 head_at leaders

abbrev pub number_among : List ℕ → ℕ → ℕ
number_among heads l = unwrap_or (position_from (nat_eq l) 0 heads) 0

abbrev pub group_number : List ℕ → ℕ → ℕ
group_number leaders l = number_among (heads leaders) l

-- the elements of each group, in rising order, from the number of the group of each element
abbrev pub member_at : ℕ → ℕ → ℕ → List ℕ
member_at g n h = if nat_eq h g then n ∷ [] else []

abbrev pub members : List ℕ → ℕ → List ℕ
members numbers g = from 0 (member_at g) numbers

abbrev pub all_members : ℕ → List ℕ → List (List ℕ)
all_members count numbers = map (members numbers) (positions 0 count)

abbrev pub groups : List ℕ → List (List ℕ)
groups leaders = all_members (length (heads leaders)) (map (group_number leaders) leaders)
