-- What is kept of the joined items of interfaces and of what is below gates, and the links that this adds.
use Rattle.std.specs.Prelude.{◌≡◌, ◌⊎◌, ◌&&◌, ℕ, List, Bool, false, nat_eq, Some, Vec}
use Rattle.std.specs.Global.{Global}
use Rattle.description_types.specs.declared.description.Description.{Description}
use Rattle.indexmap.specs.IndexMap.{IndexMap, get}
use Rattle.end_crossing.specs.declared.crossings.Crossing.{Crossing}
use Rattle.end_crossing.specs.declared.crossings.Crossing.TheVariants.{Gates, Row, Column}
use Rattle.end_search.specs.declared.gates.Gate.{Gate}
use Rattle.composition_tables.specs.declared.links.Link.{Link}
use Rattle.end_crossing.specs.declared.matched.Matched.{Matched}
use Rattle.end_search.specs.declared.seek.Found.{Found}
use Rattle.end_search.specs.declared.seek.Wanted.TheVariants.{Anything}
use Rattle.end_search.specs.declared.sides.Side.{Side}
use Rattle.composition_tables.specs.declared.tree.PortEnd.{PortEnd}
use Rattle.end_search.specs.Gates.{gate_ends}
use Rattle.description_types.specs.Items.{interface_at, ItemsJoin}
use Rattle.end_crossing.specs.PortLinks.{IsPairLink, IsCrossLink}
use Rattle.description_types.specs.Members.{Among}
use Rattle.composition_tables.specs.Multi.{under}
use Rattle.end_search.specs.Matching.{AreListed, AreMatches}
use Rattle.end_search.specs.Near.{same_gate, AreNear}
use Rattle.end_search.specs.Sides.{AreOf, IsSide}

abbrev pub same_pair : ℕ × ℕ → ℕ × ℕ → Bool
same_pair a b = nat_eq a.0 b.0 && nat_eq a.1 b.1

-- what is kept of pairs of interfaces and of gates is right
pub record IsMatched (d : Description) (m : Matched) : Type 0 where
  pub listed : AreListed d m.interfaces.items
  pub kept : (k : ℕ × ℕ) (pairs : Vec (ℕ × ℕ) Global) → get same_pair m.kept k ≡ Some pairs → AreMatches d k.0 k.1 pairs.items
  pub sides : (g : Gate) (s : Side) → get same_gate m.sides g ≡ Some s → IsSide d g s
  pub near : AreNear d Anything m.near

-- wherever items of one of the first interfaces and one of the second are joined, these are one of the pairs
abbrev pub AreJoining : Description → List ℕ → List ℕ → List (ℕ × ℕ) → Type 0
AreJoining d first second pairs = (p r : ℕ) → Among p first → Among r second → (i j : ℕ) → ItemsJoin (interface_at d p) (interface_at d r) i j → Among (p, r) pairs

-- wherever items of two of these ports are joined, their interfaces are one of the pairs
abbrev pub HasPairs : Description → List PortEnd → List PortEnd → List (ℕ × ℕ) → Type 0
HasPairs d provided required pairs = (p r : PortEnd) → Among p provided → Among r required → (i j : ℕ) → ItemsJoin (interface_at d p.interface) (interface_at d r.interface) i j → Among (p.interface, r.interface) pairs

-- only ends below a gate were found, and all whose interface is the provided one of a pair unless the search was cut short
pub record AreFirsts (d : Description) (gate : Gate) (pairs : List (ℕ × ℕ)) (found : Found) : Type 0 where
  pub sound : (x : PortEnd) → Among x found.ends.keys → Among x (gate_ends d gate)
  pub whole : found.is_cut ≡ false → (x : PortEnd) → Among x (gate_ends d gate) → (r : ℕ) → Among (x.interface, r) pairs → Among x found.ends.keys

-- the same of the required one
pub record AreSeconds (d : Description) (gate : Gate) (pairs : List (ℕ × ℕ)) (found : Found) : Type 0 where
  pub sound : (x : PortEnd) → Among x found.ends.keys → Among x (gate_ends d gate)
  pub whole : found.is_cut ≡ false → (x : PortEnd) → Among x (gate_ends d gate) → (p : ℕ) → Among (p, x.interface) pairs → Among x found.ends.keys

-- a link of a provided port of the one interface and a required one of the other
abbrev pub IsBetween : {S T : Type 0} → Description → IndexMap ℕ (Vec PortEnd Global) S → IndexMap ℕ (Vec PortEnd Global) T → ℕ × ℕ → Link → Type 0
IsBetween d provided required pair x = IsCrossLink d (under (get nat_eq provided pair.0)) (under (get nat_eq required pair.1)) x

-- what is in the list now was there before, or has P, and all that was there stays
abbrev pub IsPart : (Link → Type 0) → List Link → List Link → Type 0
IsPart P before after = ((x : Link) → Among x after → Among x before ⊎ P x) × ((x : Link) → Among x before → Among x after)

-- The pairs of ports that are done have all their links.
abbrev pub AreDone : Description → List (PortEnd × PortEnd) → List Link → Type 0
AreDone d pairs links = (k : PortEnd × PortEnd) → Among k pairs → (x : Link) → IsPairLink d k.0 k.1 x → Among x links

-- a link of a crossing: of the ends below two gates, or of an end and those of an interface below a gate
abbrev pub IsCrossingLink : Description → Crossing → Link → Type 0
IsCrossingLink d (Gates p r) x = IsCrossLink d (gate_ends d p) (gate_ends d r) x
IsCrossingLink d (Row p gate interface) x = (r : PortEnd) × (Among r (gate_ends d gate) × (r.interface ≡ interface)) × IsPairLink d p r x
IsCrossingLink d (Column gate interface r) x = (p : PortEnd) × (Among p (gate_ends d gate) × (p.interface ≡ interface)) × IsPairLink d p r x

-- these are, for each of the pairs, the ends below a gate of the interface that it has first, or second
abbrev pub HaveFirsts : {S : Type 0} → Description → Gate → List (ℕ × ℕ) → IndexMap ℕ (Vec PortEnd Global) S → Type 0
HaveFirsts d gate pairs groups = (k : ℕ × ℕ) → Among k pairs → AreOf d gate k.0 (under (get nat_eq groups k.0))

abbrev pub HaveSeconds : {S : Type 0} → Description → Gate → List (ℕ × ℕ) → IndexMap ℕ (Vec PortEnd Global) S → Type 0
HaveSeconds d gate pairs groups = (k : ℕ × ℕ) → Among k pairs → AreOf d gate k.1 (under (get nat_eq groups k.1))

-- The crossings that are done have all their links.
abbrev pub AreCrossed : Description → List Crossing → List Link → Type 0
AreCrossed d crossings links = (k : Crossing) → Among k crossings → (x : Link) → IsCrossingLink d k x → Among x links

-- what is kept while links are added is right
pub record IsAdding (d : Description) (m : Matched) (links : List Link) : Type 0 where
  pub matched : IsMatched d m
  pub done : AreDone d m.done.keys links
  pub crossed : AreCrossed d m.crossed.keys links
