-- What is refused of the ports that connectors join, and of what is joined with what.
use Rattle.std.specs.Prelude.{ℕ, List, ◌++◌, codes, Option, Some, None, option_map}
use Rattle.std.specs.Fmt.{decimal}
use Rattle.std.specs.Option.{option_or}
use Rattle.description_types.specs.declared.description.Description.{Description}
use Rattle.description_types.specs.declared.flat.Flat.{Flat}
use Rattle.plan_definitions.specs.declared.join_rule.JoinRule as items
use Rattle.plan_definitions.specs.declared.join_rule.JoinRule.TheVariants.{Services, Groups}
use Rattle.plan_definitions.specs.Connectors.{incompatible, root_client}
use Rattle.plan_definitions.specs.JoinedItems.{first_broken}
use Rattle.plan_definitions.specs.Names.{end_text}

-- The places in a description: JSON pointers.
abbrev pub in_composition : (composition : ℕ) → (list : List ℕ) → (position : ℕ) → List ℕ
in_composition composition list position = ((codes "/compositions/" ++ decimal composition) ++ list) ++ decimal position

-- the first connector whose ports are not compatible
abbrev pub of_connectors : Description → Option (ℕ × List ℕ)
of_connectors d = option_map (λ x. (12, in_composition x.0 (codes "/connectors/") x.1)) (incompatible d)

-- the first R-port of the root with a ClientServerInterface
abbrev pub of_root_ports : Description → Option (ℕ × List ℕ)
of_root_ports d = option_map (λ k. (13, in_composition d.root (codes "/ports/") k)) (root_client d)

-- the first required item that breaks a rule on items
abbrev pub number_of : items.JoinRule → ℕ
number_of Services = 14
number_of Groups = 15

abbrev pub of_items : items.JoinRule → Description → Flat → Option (ℕ × List ℕ)
of_items rule d f = option_map (λ e. (number_of rule, end_text d f e)) (first_broken rule d f)

-- the refusal: the least rule of these that is broken, with its first place
abbrev pub port_refusal : Description → Option (ℕ × List ℕ)
port_refusal d = option_or (of_connectors d) (of_root_ports d)

abbrev pub item_refusal : Description → Flat → Option (ℕ × List ℕ)
item_refusal d f = option_or (of_items Services d f) (of_items Groups d f)

abbrev pub refusal : Description → Flat → Option (ℕ × List ℕ)
refusal d f = option_or (port_refusal d) (item_refusal d f)
