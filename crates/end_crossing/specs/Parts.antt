-- The inner ports that gates are split into.
use Rattle.std.specs.Prelude.{ℕ, List, Bool, true, false, Option, Some}
use Rattle.std.specs.List.{flat_map, list_any}
use Rattle.description_types.specs.declared.description.Description.{Description}
use Rattle.description_types.specs.declared.description.InnerPort.{InnerPort}
use Rattle.description_types.specs.declared.description.PrototypeType.{PrototypeType}
use Rattle.description_types.specs.declared.description.PrototypeType.TheVariants.{Composition}
use Rattle.end_crossing.specs.declared.parts.Parts.{Parts}
use Rattle.composition_tables.specs.declared.tree.PortEnd.{PortEnd}
use Rattle.composition_tables.specs.Ends.{ends, inner_ends}
use Rattle.description_types.specs.Paths.{type_in}

abbrev pub is_held : Option PrototypeType → Bool
is_held (Some (Composition c)) = true
is_held _ = false

-- the prototype of the composition c is of a composition
abbrev pub holds_composition : Description → ℕ → ℕ → Bool
holds_composition d c prototype = is_held (type_in d (Composition c) prototype)

-- one of these inner ports leads on
abbrev pub leads_on : Description → ℕ → List InnerPort → Bool
leads_on d c ports = list_any (λ (inner : InnerPort). holds_composition d c inner.prototype) ports

-- the ends below them
abbrev pub part_ends : Description → Parts → List PortEnd
part_ends d parts = flat_map (inner_ends d parts.depth (ends d parts.depth) parts.composition parts.first) parts.ports.now
