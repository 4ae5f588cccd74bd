-- Who is joined with whom (SWS_RTE, communication between ports: 1:n and n:1).
use Rattle.std.specs.Prelude.{List, [], ◌∷◌, map, filter, Bool, true, false, ◌&&◌, not, nat_eq}
use Rattle.bus_semantics.specs.Common.{list_any, option_eq}
use Rattle.description_types.specs.declared.flat.End.{End}
use Rattle.description_types.specs.declared.flat.Join.{Join}

-- two ends are the same
abbrev pub same_end : End → End → Bool
same_end a b = (option_eq nat_eq a.instance b.instance && nat_eq a.port b.port) && nat_eq a.element b.element

-- the ends that joins have on the other side of an end
abbrev pub partners : (own other : Join → End) → List Join → End → List End
partners own other joins e = map other (filter (λ j. same_end (own j) e) joins)

-- the provided ends that are joined with a required one, and the required ends that are joined with a provided one
abbrev pub providers : List Join → End → List End
providers = partners (λ j. j.required) (λ j. j.provided)

abbrev pub requirers : List Join → End → List End
requirers = partners (λ j. j.provided) (λ j. j.required)

-- two of these differ
abbrev pub are_several : List End → Bool
are_several [] = false
are_several (x ∷ xs) = list_any (λ y. not (same_end x y)) xs

abbrev pub is_none : List End → Bool
is_none [] = true
is_none (x ∷ xs) = false

-- Rule 15, as it is seen from the ends nearby: a provided end is crowded if it has several required ones, of which one has
-- several provided ones. A required end is in a group of many to many exactly if a crowded end provides it (law in
-- proofs/Stars).
abbrev pub crowds : List Join → Join → Bool
crowds joins j = are_several (requirers joins j.provided) && are_several (providers joins j.required)

abbrev pub is_crowded : List Join → End → Bool
is_crowded joins p = list_any (λ j. same_end j.provided p && crowds joins j) joins

abbrev pub is_many_to_many : List Join → End → Bool
is_many_to_many joins r = list_any (λ j. same_end j.required r && is_crowded joins j.provided) joins
