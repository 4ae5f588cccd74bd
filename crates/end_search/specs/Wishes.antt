-- Searches for the ends below ports, from composition to composition.
use Rattle.std.specs.Prelude.{◌≡◌, ◌<◌, ℕ, List, [], Bool, true, false, nat_eq, ◌⊎◌}
use Rattle.description_types.specs.declared.description.Description.{Description}
use Rattle.description_types.specs.declared.description.PrototypeType.{PrototypeType}
use Rattle.description_types.specs.declared.description.PrototypeType.TheVariants.{Composition}
use Rattle.indexmap.specs.IndexMap.{get}
use Rattle.composition_tables.specs.declared.inner.Inner.{Inner}
use Rattle.end_search.specs.declared.seek.Found.{Found}
use Rattle.end_search.specs.declared.seek.Known.{Known}
use Rattle.end_search.specs.declared.seek.Wanted.{Wanted}
use Rattle.end_search.specs.declared.seek.Wanted.TheVariants.{Anything, Only}
use Rattle.composition_tables.specs.declared.tree.PortEnd.{PortEnd}
use Rattle.composition_tables.specs.Ends.{ends, inner_ends}
use Rattle.description_types.specs.Growing.{AnyOf}
use Rattle.composition_tables.specs.Owners.{owner_from}
use Rattle.description_types.specs.Members.{Among}
use Rattle.composition_tables.specs.Multi.{under}
use Rattle.composition_tables.specs.Inner.{port_of}

-- an end with instances numbered from another first one on
abbrev pub end_from : ℕ → PortEnd → PortEnd
end_from first x = record { owner = owner_from first x.owner; port = x.port; interface = x.interface }

-- the interface is one of those that are wanted
abbrev pub IsWanted : Wanted → ℕ → Type 0
IsWanted Anything interface = Unit {0}
IsWanted (Only interfaces) interface = Among interface interfaces.keys

-- an end of a wanted interface at or below a port of what stands here
abbrev pub IsEnd : Description → Wanted → ℕ → PrototypeType → ℕ → ℕ → PortEnd → Type 0
IsEnd d w n t first port x = Among x (ends d n t first port) × IsWanted w x.interface

-- one below the port p of the prototype q of the composition c
abbrev pub IsInnerEnd : Description → Wanted → ℕ → ℕ → ℕ → ℕ → PortEnd → Type 0
IsInnerEnd d w n c q p x = Among x (inner_ends d n (ends d n) c 0 (port_of (q, p))) × IsWanted w x.interface

-- one below some of these inner ports of the prototype q of the composition c
abbrev pub IsBelowPrototype : Description → Wanted → ℕ → ℕ → Inner → ℕ → PortEnd → Type 0
IsBelowPrototype d w n c inner q x = AnyOf (IsInnerEnd d w n c q) (under (get nat_eq inner.ports q)) x

-- what is in the list now was there before, or has P; all that was there stays, and all that has P was added, unless that was cut short
pub record Sought (P : PortEnd → Type 0) (before after : List PortEnd) (is_cut : Bool) : Type 0 where
  pub sound : (x : PortEnd) → Among x after → Among x before ⊎ P x
  pub stays : (x : PortEnd) → Among x before → Among x after
  pub has : is_cut ≡ false → (x : PortEnd) → P x → Among x after

-- A search is cut short past its limit alone, so with the greatest limit never: a number of ends is below 2^64.
abbrev pub IsCutBelow : (limit : ℕ) → (is_cut : Bool) → Type 0
IsCutBelow limit is_cut = is_cut ≡ true → limit < 18446744073709551615

-- the ends below some ports of a composition are known
abbrev pub IsKnown : Description → Wanted → Known → Type 0
IsKnown d w known = Sought (AnyOf (IsEnd d w known.depth (Composition known.composition) 0) known.ports.items) [] known.ends.keys known.is_cut

-- only these ends were found, and all that are wanted unless the search was cut short
pub record AreFound (w : Wanted) (all : List PortEnd) (found : Found) : Type 0 where
  pub sound : (x : PortEnd) → Among x found.ends.keys → Among x all
  pub whole : found.is_cut ≡ false → (x : PortEnd) → Among x all → IsWanted w x.interface → Among x found.ends.keys
