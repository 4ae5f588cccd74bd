-- The items of which ports say something, by port and by component.
use Rattle.std.specs.Prelude.{◌≡◌, ℕ, List, map}
use Rattle.plan_definitions.specs.Common.{Port, Description, root_ports}
use Rattle.plan_numbers.specs.declared.com_specs.PortTables.{PortTables}

abbrev pub named_items : Port → List ℕ
named_items port = map (λ s. s.element) port.com_specs

abbrev pub items_of_ports : List Port → List (List ℕ)
items_of_ports ports = map named_items ports

-- the tables of a description
pub record AreTables (d : Description) (t : PortTables) : Type 0 where
  pub of_components : t.components ≡ map (λ c. items_of_ports c.ports) d.components
  pub of_root : t.root ≡ items_of_ports (root_ports d)
