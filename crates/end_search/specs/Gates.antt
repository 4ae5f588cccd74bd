-- Ports from which delegations are followed down to ports of instances.
use Rattle.std.specs.Prelude.{◌≤◌, List, [], ◌∷◌, ℕ, Option, Some, None}
use Rattle.description_types.specs.declared.description.Description.{Description}
use Rattle.description_types.specs.declared.description.PrototypeType.TheVariants as type
use Rattle.end_search.specs.declared.gates.Gate.{Gate}
use Rattle.end_search.specs.declared.gates.Gate.TheVariants.{Outer, Component, Composition}
use Rattle.composition_tables.specs.declared.tree.Owner.TheVariants.{Environment}
use Rattle.composition_tables.specs.declared.tree.PortEnd.{PortEnd}
use Rattle.composition_tables.specs.Ends.{ends}

-- the ends at or below a gate
abbrev pub gate_ends : Description → Gate → List PortEnd
gate_ends d (Outer port interface) = record { owner = Environment; port = port; interface = interface } ∷ []
gate_ends d (Component k first port) = ends d 0 (type.Component k) first port
gate_ends d (Composition n c first port) = ends d n (type.Composition c) first port

-- it is followed no deeper than an instance may stand
abbrev pub IsShallow : Gate → Type 0
IsShallow (Outer port interface) = Unit {0}
IsShallow (Component k first port) = Unit {0}
IsShallow (Composition n c first port) = n ≤ 8

-- a port of the root, as a port of the environment
abbrev pub outer_ends : Option ℕ → ℕ → List PortEnd
outer_ends None port = []
outer_ends (Some interface) port = record { owner = Environment; port = port; interface = interface } ∷ []
