-- The items that require: data elements, operations and mode elements of R-ports of component instances, and of P-ports of the
-- root, where the environment requires.
use Rattle.std.specs.Prelude.{ℕ, zero, suc, ◌+◌, List, Bool, false, ◌&&◌, ◌||◌, not, length, is_some, slice_get, Option, Some, None, option_map, option_and_then, if◌then◌else◌}
use Rattle.std.specs.Option.{option_or}
use Rattle.description_types.specs.declared.interface.InterfaceKind.{InterfaceKind}
use Rattle.description_types.specs.declared.interface.InterfaceKind.TheVariants.{SenderReceiver, ClientServer, ModeSwitch}
use Rattle.description_types.specs.declared.component.Port.{Port}
use Rattle.description_types.specs.declared.component.PortKind.{PortKind}
use Rattle.description_types.specs.declared.component.PortKind.TheVariants as port_kind
use Rattle.description_types.specs.declared.description.Description.{Description}
use Rattle.description_types.specs.declared.description.PrototypeType.TheVariants as of_type
use Rattle.description_types.specs.declared.flat.End.{End}
use Rattle.description_types.specs.declared.flat.Flat.{Flat}
use Rattle.description_types.specs.declared.flat.Join.{Join}
use Rattle.plan_definitions.specs.declared.join_rule.JoinRule.{JoinRule}
use Rattle.plan_definitions.specs.declared.join_rule.JoinRule.TheVariants.{Services, Groups}
use Rattle.plan_definitions.specs.Connectors.{ports_of}
use Rattle.plan_definitions.specs.Firsts.{first_of}
use Rattle.plan_definitions.specs.Joins.{providers, are_several, is_none, is_many_to_many}

-- how many items of an interface a rule looks at: that on services at operations and mode elements, that on groups at data
-- elements
abbrev pub looked_at : JoinRule → InterfaceKind → ℕ
looked_at Services (ClientServer operations) = length operations
looked_at Services (ModeSwitch element) = 1
looked_at Groups (SenderReceiver elements) = length elements
looked_at _ _ = 0

-- a mode element of an instance must have a provided one, and other items need none
abbrev pub needs_provider : InterfaceKind → End → Bool
needs_provider (ModeSwitch element) e = is_some e.instance
needs_provider _ e = false

-- JoinRule 14: a required operation or mode element has at most one provided one; a mode element of an instance has one.
-- JoinRule 15: no group has more than one provided and more than one required data element.
abbrev pub breaks : JoinRule → List Join → InterfaceKind → End → Bool
breaks Services joins kind e = are_several (providers joins e) || (needs_provider kind e && is_none (providers joins e))
breaks Groups joins kind e = is_many_to_many joins e

-- the first of n numbers, from i on, that passes the test
abbrev pub first_number : (ℕ → Bool) → ℕ → ℕ → Option ℕ
first_number test i zero = None
first_number test i (suc n) = if test i then Some i else first_number test (i + 1) n

abbrev pub end_of : Option ℕ → ℕ → ℕ → End
end_of instance port element = record { instance = instance; port = port; element = element }

-- the first item of an interface, at a port, that breaks a rule
abbrev pub first_item : JoinRule → List Join → Option ℕ → ℕ → InterfaceKind → Option End
first_item rule joins instance k kind = option_map (end_of instance k)
    (first_number (λ n. breaks rule joins kind (end_of instance k n)) 0 (looked_at rule kind))

abbrev pub in_port : JoinRule → Description → Flat → Option ℕ → ℕ → Port → Option End
in_port rule d f instance k port = option_and_then (λ i. first_item rule f.joins instance k i.kind) (slice_get d.types.interfaces port.interface)

-- an instance requires at its R-ports, the environment at the P-ports of the root
abbrev pub requires_at : Option ℕ → PortKind → Bool
requires_at instance port_kind.Required = is_some instance
requires_at instance port_kind.Provided = not (is_some instance)

-- the first item of some ports that breaks a rule, and the first of some instances
abbrev pub in_ports : JoinRule → Description → Flat → Option ℕ → List Port → Option End
in_ports rule d f instance ports = first_of (λ k port. if requires_at instance port.kind then in_port rule d f instance k port else None) 0 ports

abbrev pub in_instances : JoinRule → Description → Flat → Option End
in_instances rule d f = first_of (λ i x. in_ports rule d f (Some i) (ports_of d (of_type.Component x.component))) 0 f.instances

-- The first required item that breaks a rule: by instance, port and item, each in declared order, the environment last.
abbrev pub first_broken : JoinRule → Description → Flat → Option End
first_broken rule d f = option_or (in_instances rule d f) (in_ports rule d f None (ports_of d (of_type.Composition d.root)))
