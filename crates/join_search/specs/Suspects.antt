-- The ports of ends that break a rule.
use Rattle.std.specs.Prelude.{ℕ, List, Bool, ◌&&◌, nat_eq, Option}
use Rattle.std.specs.List.{list_any}
use Rattle.std.specs.Option.{option_eq}
use Rattle.plan_definitions.specs.Common.{End, Join, are_several, providers}
use Rattle.join_search.specs.Partners.{Key, key_of}

-- a port, of an instance or of the environment
abbrev pub PortKey : Type 0
PortKey = Option ℕ × ℕ

abbrev pub port_of : End → PortKey
port_of e = (e.instance, e.port)

abbrev pub same_port : PortKey → PortKey → Bool
same_port a b = option_eq nat_eq a.0 b.0 && nat_eq a.1 b.1

-- a required end of the port has several provided ones
abbrev pub several_at : List Join → PortKey → Bool
several_at joins q = list_any (λ j. same_port (port_of j.required) q && are_several (providers joins j.required)) joins

-- a required end of the port is among some
abbrev pub among_at : (Key → Bool) → List Join → PortKey → Bool
among_at is_among joins q = list_any (λ j. same_port (port_of j.required) q && is_among (key_of j.required)) joins
