-- What is kept of the partners of an end.
use Rattle.std.specs.Prelude.{◌≡◌, ℕ, List, [], ◌∷◌, Bool, false, ◌&&◌, ◌||◌, not, nat_eq, Option, Some, None, is_none as is_absent}
use Rattle.std.specs.List.{list_any}
use Rattle.std.specs.Option.{option_eq, option_map_or}
use Rattle.indexmap.specs.IndexMap.{IndexMap, get}
use Rattle.indexmap.specs.IndexSet.{IndexSet, contains}
use Rattle.plan_definitions.specs.Common.{End, Join}
use Rattle.join_search.specs.declared.partners.Kept.{Kept}
use Rattle.join_search.specs.declared.partners.Kept.TheVariants as kept
use Rattle.join_search.specs.declared.partners.Partners.{Partners}
use Rattle.join_search.specs.declared.partners.Side.{Side}
use Rattle.join_search.specs.declared.partners.Side.TheVariants as side
use Rattle.plan_definitions.specs.Joins.{are_several, is_none, partners, providers, requirers, same_end}

-- an end on this side of a join, and the one on the other side
abbrev pub own : Side → Join → End
own side.Provided j = j.provided
own side.Required j = j.required

abbrev pub other : Side → Join → End
other side.Provided j = j.required
other side.Required j = j.provided

-- the key of an end
abbrev pub Key : Type 0
Key = Option ℕ × ℕ × ℕ

abbrev pub key_of : End → Key
key_of e = (e.instance, e.port, e.element)

abbrev pub same_key : Key → Key → Bool
same_key a b = (option_eq nat_eq a.0 b.0 && nat_eq a.1 b.1) && nat_eq a.2 b.2

-- the first partner, and whether there is another
abbrev pub summary : List End → Option Partners
summary [] = None
summary (x ∷ xs) = Some (record { first = x; several = list_any (λ y. not (same_end x y)) xs })

-- one more partner
abbrev pub with_one : Option Partners → End → Partners
with_one None x = record { first = x; several = false }
with_one (Some p) x = record { first = p.first; several = p.several || not (same_end p.first x) }

-- what is kept, after these partners too
abbrev pub added : Option Partners → List End → Option Partners
added kept [] = kept
added kept (x ∷ xs) = added (Some (with_one kept x)) xs

-- the map has what is kept of the partners of each end
abbrev pub AreKept : {S : Type 0} → Side → List Join → IndexMap Key Partners S → Type 0
AreKept side joins map = (e : End) → get same_key map (key_of e) ≡ summary (partners (own side) (other side) joins e)

-- no required end has several partners, and the set has those that have one
abbrev pub AreSingle : {S : Type 0} → List Join → IndexSet Key S → Type 0
AreSingle joins ends = (e : End) → (are_several (providers joins e) ≡ false) × (contains same_key ends (key_of e) ≡ not (is_none (providers joins e)))

-- several are kept
abbrev pub has_several : Option Partners → Bool
has_several kept = option_map_or (λ p. p.several) kept false

-- what is kept, of all ends
abbrev pub IsKeptBy : List Join → Kept → Type 0
IsKeptBy joins (kept.Single ends) = AreSingle joins ends
IsKeptBy joins (kept.Several required provided) = AreKept side.Required joins required × AreKept side.Provided joins provided

-- what it tells: whether a required end has several partners, or none, and whether a provided and a required one both have several
abbrev pub tells_several : Kept → End → Bool
tells_several (kept.Single ends) e = false
tells_several (kept.Several required provided) e = has_several (get same_key required (key_of e))

abbrev pub tells_none : Kept → End → Bool
tells_none (kept.Single ends) e = not (contains same_key ends (key_of e))
tells_none (kept.Several required provided) e = is_absent (get same_key required (key_of e))

abbrev pub tells_crowded : Kept → End → End → Bool
tells_crowded (kept.Single ends) p r = false
tells_crowded (kept.Several required provided) p r = has_several (get same_key provided (key_of p)) && has_several (get same_key required (key_of r))

-- it tells so of the ends of these joins
pub record TellsAll (joins : List Join) (k : Kept) : Type 0 where
  pub several : (e : End) → tells_several k e ≡ are_several (providers joins e)
  pub none : (e : End) → tells_none k e ≡ is_none (providers joins e)
  pub crowded : (p r : End) → tells_crowded k p r ≡ (are_several (requirers joins p) && are_several (providers joins r))
