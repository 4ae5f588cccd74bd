-- The numbers of things: their positions in the lists of a plan.
use Rattle.std.specs.Prelude.{ℕ, List, map, filter, Bool, true, false, ◌&&◌, nat_eq, Option, Some}
use Rattle.bus_semantics.specs.Common.{position_from, option_eq, unwrap_or}
use Rattle.description_types.specs.declared.description.Description.{Description}
use Rattle.description_types.specs.declared.flat.End.{End}
use Rattle.description_types.specs.declared.flat.Flat.{Flat}
use Rattle.plan_definitions.specs.declared.site.Site.{Site}
use Rattle.plan_definitions.specs.declared.site.SiteKind.{SiteKind}
use Rattle.plan_definitions.specs.declared.site.SiteKind.TheVariants.{Element, Variable, Server, Machine, ModePort}
use Rattle.plan_definitions.specs.Sites.{sites}

-- the owner, the port (none for a variable) and the item
abbrev pub Key : Type 0
Key = Option ℕ × Option ℕ × ℕ

abbrev pub key_of : Site → Key
key_of s = (s.owner, s.port, s.item)

abbrev pub end_key : End → Key
end_key e = (e.instance, Some e.port, e.element)

abbrev pub same_key : Key → Key → Bool
same_key a b = (option_eq nat_eq a.0 b.0 && option_eq nat_eq a.1 b.1) && nat_eq a.2 b.2

-- a position among keys; of a key that is not among them 0
abbrev pub number_in : List Key → Key → ℕ
number_in keys k = unwrap_or (position_from (same_key k) 0 keys) 0

-- the same for pairs: an instance with a runnable, an event or an area of its component
abbrev pub same_pair : ℕ × ℕ → ℕ × ℕ → Bool
same_pair a b = nat_eq a.0 b.0 && nat_eq a.1 b.1

abbrev pub pair_number : List (ℕ × ℕ) → ℕ × ℕ → ℕ
pair_number pairs x = unwrap_or (position_from (same_pair x) 0 pairs) 0

-- data elements and variables; servers; machines; required mode elements
abbrev pub is_element : SiteKind → Bool
is_element (Element provided) = true
is_element Variable = true
is_element _ = false

abbrev pub is_server : SiteKind → Bool
is_server Server = true
is_server _ = false

abbrev pub is_machine : SiteKind → Bool
is_machine Machine = true
is_machine _ = false

abbrev pub is_mode_port : SiteKind → Bool
is_mode_port ModePort = true
is_mode_port _ = false

abbrev pub of_kind : (SiteKind → Bool) → Description → Flat → List Site
of_kind wanted d f = filter (λ s. wanted s.kind) (sites d f)

abbrev pub keys_of : List Site → List Key
keys_of list = map key_of list
