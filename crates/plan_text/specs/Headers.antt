-- The header of a component, as far as it names calls (SWS_RTE: 'Contract Phase Header').
use Rattle.std.specs.Prelude.{◌≡◌, List, [], ◌++◌, bytes_eq, codes, Option, Some, None}
use Rattle.std.specs.List.{find, flat_map}
use Rattle.plan_definitions.specs.Common.{TypeTable, Component, Description}
use Rattle.plan_text.specs.declared.component.HeaderMade.{HeaderMade}
use Rattle.plan_text.specs.declared.component.HeaderMade.TheVariants as answer
use Rattle.plan_text.specs.Targets.{Letters, Target, name_of}
use Rattle.plan_text.specs.Listing.{first_clash, listed}

-- what there is of a header: its text, or why there is none
pub data Header : Type 0 where
  made : (text : Letters) → Header
  no_component : Header
  clash : (name : Letters) → Header

-- the line with the name of the header, and that of a call
abbrev pub title : (name : Letters) → Letters
title name = codes "/* Rte_" ++ name ++ codes ".h */\n"

abbrev pub line : Target → Letters
line t = name_of t ++ codes "\n"

abbrev pub header_text : (name : Letters) → List Target → Letters
header_text name ts = title name ++ flat_map line ts

-- the component of this name; a composition is none
abbrev pub component_named : Description → Letters → Option Component
component_named d name = find (λ c. bytes_eq c.short_name name) d.components

-- the header of these calls, unless two of them have one name
abbrev pub header_with : (name : Letters) → List Target → Option Letters → Header
header_with name ts None = made (header_text name ts)
header_with name ts (Some n) = clash n

abbrev pub header_for : TypeTable → (name : Letters) → Option Component → Header
header_for types name None = no_component
header_for types name (Some c) = header_with name (listed types c) (first_clash [] (listed types c))

-- the header of the component of this name
abbrev pub header_of : Description → (name : Letters) → Header
header_of d name = header_for d.types name (component_named d name)

-- what a call answers that makes this header: for want of memory nothing
abbrev pub Makes : Header → HeaderMade → Type 0
Makes h (answer.Made text) = h ≡ made text.items
Makes h answer.NoComponent = h ≡ no_component
Makes h (answer.Clash name) = h ≡ clash name
Makes h answer.Memory = Unit {0}
