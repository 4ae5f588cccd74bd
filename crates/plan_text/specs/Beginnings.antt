-- How the lines of the joins of a provided port begin.
use Rattle.std.specs.Prelude.{◌≡◌, ℕ, ◌++◌, Option, codes, option_copied}
use Rattle.plan_definitions.specs.Common.{Description, Flat, interface_of, port_name}
use Rattle.bus_semantics.specs.Spelling.{Letters}
use Rattle.plan_text.specs.declared.joins.Beginning.{Beginning}
use Rattle.plan_text.specs.Lines.{owned_text}

abbrev pub beginning : Description → Flat → Option ℕ × ℕ → Letters
beginning d f p = codes "join " ++ owned_text f p.0 (port_name d f p.0 p.1 ++ codes ".")

-- it is the beginning at its port, with the port's interface
abbrev pub Begins : Description → Flat → Beginning → Type 0
Begins d f b = (b.text.items ≡ beginning d f b.place) × (option_copied b.kind ≡ interface_of d f b.place.0 b.place.1)
