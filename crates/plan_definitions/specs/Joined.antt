-- Who is joined with whom (VFB: connectors).
use Rattle.std.specs.Prelude.{ℕ, List, [], ◌∷◌, ◌++◌, Bool, ◌&&◌, ◌||◌, nat_eq, Option, option_map, if◌then◌else◌}
use Rattle.bus_semantics.specs.Common.{find, flat_map, list_any, option_eq}
use Rattle.description_types.specs.declared.flat.End.{End}
use Rattle.description_types.specs.declared.flat.Join.{Join}
use Rattle.plan_definitions.specs.declared.site.Site.{Site}

abbrev pub same_end : End → End → Bool
same_end a b = (option_eq nat_eq a.instance b.instance && nat_eq a.port b.port) && nat_eq a.element b.element

abbrev pub end_at : Option ℕ → ℕ → ℕ → End
end_at owner port item = record { instance = owner; port = port; element = item }

-- the end of a site; a variable has none
abbrev pub end_of : Site → Option End
end_of s = option_map (λ port. end_at s.owner port s.item) s.port

-- the provided end that is joined with a required one: by the rules on services and groups there is one at most for an operation
-- and a mode element
abbrev pub provider_of : List Join → End → Option End
provider_of joins e = option_map (λ j. j.provided) (find (λ j. same_end j.required e) joins)

abbrev pub is_joined : List Join → End → Bool
is_joined joins e = list_any (λ j. same_end j.provided e || same_end j.required e) joins

-- the ends on the other sides of the joins of an end
abbrev pub across : End → Join → List End
across e j = (if same_end j.required e then j.provided ∷ [] else []) ++ (if same_end j.provided e then j.required ∷ [] else [])

abbrev pub partners : List Join → End → List End
partners joins e = flat_map (across e) joins
