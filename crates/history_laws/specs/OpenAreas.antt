-- The exclusive areas that an activation has entered and not left (SWS_RTE: Rte_Enter, Rte_Exit). Areas stand the innermost first, answers the
-- oldest first.
use Rattle.std.specs.Prelude.{ℕ, List, [], ◌∷◌, Bool, true, false, ◌&&◌, nat_lt, Option, Some, None}
use Rattle.bus_semantics.specs.Common.{list_all, Wanted, to_ask, to_hear, to_publish, to_publish_all, to_return, to_end}
use Rattle.bus_semantics.specs.declared.entries.Deed.{Deed}
use Rattle.bus_semantics.specs.declared.entries.Deed.TheVariants as deed

abbrev pub all_but_innermost : List ℕ → List ℕ
all_but_innermost [] = []
all_but_innermost (x ∷ areas) = areas

-- an Enter opens its area, and a Leave closes the innermost one
abbrev pub open_after : Deed → List ℕ → List ℕ
open_after (deed.Enter x) areas = x ∷ areas
open_after (deed.Leave x) areas = all_but_innermost areas
open_after _ areas = areas

abbrev pub opened_on : List ℕ → List Deed → List ℕ
opened_on areas [] = areas
opened_on areas (d ∷ answers) = opened_on (open_after d areas) answers

-- the open areas of an activation, after these answers
abbrev pub open_areas : List Deed → List ℕ
open_areas answers = opened_on [] answers

abbrev pub innermost : List ℕ → Option ℕ
innermost [] = None
innermost (x ∷ areas) = Some x

-- each area stands inside areas of lesser numbers
abbrev pub are_nested : List ℕ → Bool
are_nested [] = true
are_nested (x ∷ areas) = list_all (λ y. nat_lt y x) areas && are_nested areas

-- the wishes that come if no area is open: a call and its answer, a publication, a return and an end
abbrev pub comes_outside : Wanted → Bool
comes_outside (to_ask q ws) = true
comes_outside (to_hear q) = true
comes_outside (to_publish x ws) = true
comes_outside (to_publish_all l written ws) = true
comes_outside (to_return code ws) = true
comes_outside (to_end event) = true
comes_outside w = false
