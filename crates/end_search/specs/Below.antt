-- A search for the interfaces of the ports below a port, from composition to composition and not from place to place.
use Rattle.std.specs.Prelude.{◌≡◌, ◌≤◌, ◌<◌, ℕ, List, ◌++◌, length, get_or, Some}
use Rattle.description_types.specs.declared.description.Description.{Description}
use Rattle.description_types.specs.declared.description.InnerPort.{InnerPort}
use Rattle.description_types.specs.declared.description.PrototypeType.{PrototypeType}
use Rattle.description_types.specs.declared.description.PrototypeType.TheVariants.{Component, Composition}
use Rattle.end_search.specs.declared.below.Search.{Search}
use Rattle.description_types.specs.Connectors.{interface_of}
use Rattle.composition_tables.specs.Ends.{inner_ports}
use Rattle.description_types.specs.Members.{Among}
use Rattle.description_types.specs.Paths.{type_in}

-- nothing that a search has seen or found is lost, and what it sees comes last
pub record Stays (before after : Search) : Type 0 where
  pub seen : (more : List (ℕ × ℕ)) × (after.seen.keys ≡ before.seen.keys ++ more)
  pub found : (i : ℕ) → Among i before.found.keys → Among i after.found.keys

-- the interface of the port is found, or the port is seen
abbrev pub IsCovered : Description → Search → PrototypeType → ℕ → Type 0
IsCovered d s (Component k) port = (i : ℕ) → interface_of d (Component k) port ≡ Some i → Among i s.found.keys
IsCovered d s (Composition c) port = Among (c, port) s.seen.keys

abbrev pub IsInnerCovered : Description → Search → ℕ → InnerPort → Type 0
IsInnerCovered d s c inner = (t : PrototypeType) → type_in d (Composition c) inner.prototype ≡ Some t → IsCovered d s t inner.port

-- all inner ports of the port k.1 of the composition k.0 are covered
abbrev pub IsFollowed : Description → Search → ℕ × ℕ → Type 0
IsFollowed d s k = (inner : InnerPort) → Among inner (inner_ports d k.0 k.1) → IsInnerCovered d s k.0 inner

-- so many of those that are seen are followed
abbrev pub IsSearching : Description → Search → ℕ → Type 0
IsSearching d s position = (position ≤ length s.seen.keys) × ((i : ℕ) → i < position → IsFollowed d s (get_or s.seen.keys i (0, 0)))

-- all that is seen is followed
abbrev pub IsDone : Description → Search → Type 0
IsDone d s = (k : ℕ × ℕ) → Among k s.seen.keys → IsFollowed d s k
