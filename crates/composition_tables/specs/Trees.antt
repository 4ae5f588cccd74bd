-- Tables by which ends are found.
use Rattle.std.specs.Prelude.{◌≡◌, ◌<◌, ◌+◌, ℕ, List, [], ◌∷◌, Vec, length, min, Some, slice_get, slice_index}
use Rattle.std.specs.Global.{Global}
use Rattle.std.specs.Option.{option_map_or}
use Rattle.description_types.specs.declared.description.Composition.{Composition}
use Rattle.description_types.specs.declared.description.Description.{Description}
use Rattle.description_types.specs.declared.description.InnerPort.{InnerPort}
use Rattle.description_types.specs.declared.description.Prototype.{Prototype}
use Rattle.description_types.specs.declared.description.PrototypeType.{PrototypeType}
use Rattle.composition_tables.specs.Counts.{IsCounted}
use Rattle.composition_tables.specs.Ends.{offset, inner_ports}
use Rattle.description_types.specs.Places.{size_of}
use Rattle.description_types.specs.Paths.{prototypes_of}
use Rattle.composition_tables.specs.declared.tree.Tree.{Tree}

-- the counts so far before each of some prototypes, up to 1,025, from a total on
abbrev pub running : (PrototypeType → ℕ) → ℕ → List Prototype → List ℕ
running count total [] = []
running count total (p ∷ ps) = total ∷ running count (min (total + count p.of_type) 1025) ps

-- those of the prototypes of a composition, by the counts of the compositions
abbrev pub starts_for : List ℕ → Composition → List ℕ
starts_for counts x = running (size_of (slice_index counts)) 0 x.prototypes

abbrev pub items_of : {X : Type 0} → Vec X Global → List X
items_of v = v.items

-- the start of the prototype q of the composition c
abbrev pub start_in : List (Vec ℕ Global) → ℕ → ℕ → ℕ
start_in starts c q = option_map_or (λ v. slice_index v.items q) (slice_get starts c) 0

-- for each prototype of each composition, how many instances stand before its own, up to 1,025
abbrev pub AreStarts : Description → ℕ → List (Vec ℕ Global) → Type 0
AreStarts d n starts = (c q : ℕ) → q < length (prototypes_of d c) → start_in starts c q ≡ min (offset d n c q) 1025

-- the same for each depth up to 8
abbrev pub IsStarted : Description → List (Vec (Vec ℕ Global) Global) → Type 0
IsStarted d table = (length table ≡ 9) × ((n : ℕ) (starts : Vec (Vec ℕ Global) Global) → slice_get table n ≡ Some starts → AreStarts d n starts.items)

abbrev pub ports_at : List (Vec InnerPort Global) → ℕ → List InnerPort
ports_at by_port port = option_map_or (λ v. v.items) (slice_get by_port port) []

-- for each outer port of each composition, the inner ports that it is delegated to
abbrev pub IsDelegated : Description → List (Vec (Vec InnerPort Global) Global) → Type 0
IsDelegated d table = (c port : ℕ) → ports_at (option_map_or (λ v. v.items) (slice_get table c) []) port ≡ inner_ports d c port

-- the tables of a description
pub record IsTree (tree : Tree) : Type 0 where
  pub counted : IsCounted tree.d.now tree.levels.items
  pub started : IsStarted tree.d.now tree.starts.items
  pub wired : IsDelegated tree.d.now tree.delegations.items
