-- The ends of joins, as they are found: their numbers, and the elements that they are.
use Rattle.std.specs.Prelude.{◌≡◌, ℕ, List, map, Bool, false, ◌||◌, nat_eq, slice_index_or, Some}
use Rattle.bus_semantics.specs.Common.{position_from, option_eq, option_map_or}
use Rattle.plan_definitions.specs.Common.{Description, End, Flat, Join, own_number, end_of, is_joined, Key, end_key, same_key, elements_of}
use Rattle.plan_definitions.specs.declared.site.Site.{Site}

-- the numbers of the ends of each join, the provided one first
abbrev pub pairs_of : List Key → List Join → List (ℕ × ℕ)
pairs_of keys joins = map (λ j. (own_number keys j.provided, own_number keys j.required)) joins

-- whether an end has this number, and whether an end of a join has
abbrev pub stands_at : List Key → End → ℕ → Bool
stands_at keys e n = option_eq nat_eq (position_from (same_key (end_key e)) 0 keys) (Some n)

abbrev pub has_at : List Key → ℕ → Join → Bool
has_at keys n j = stands_at keys j.provided n || stands_at keys j.required n

-- the mark at a number
abbrev pub mark_at : List Bool → ℕ → Bool
mark_at marks n = slice_index_or marks n false

-- whether a join has a site as an end; a variable is none
abbrev pub joined_at : List Join → Site → Bool
joined_at joins s = option_map_or (is_joined joins) (end_of s) false

-- of each element, whether a join has it as an end
abbrev pub AreJoined : Description → Flat → List Bool → Type 0
AreJoined d f marks = marks ≡ map (joined_at f.joins) (elements_of d f)
