-- What is refused of components.
use Rattle.std.specs.Prelude.{ℕ, List, Option, Some, None, option_map}
use Rattle.std.specs.Option.{option_or}
use Rattle.description_types.specs.declared.interface.TypeTable.{TypeTable}
use Rattle.description_types.specs.declared.component.Component.{Component}
use Rattle.description_types.specs.declared.description.Description.{Description}
use Rattle.plan_definitions.specs.declared.component_rule.ComponentRule as rules
use Rattle.plan_definitions.specs.declared.component_rule.ComponentRule.TheVariants as rule
use Rattle.plan_definitions.specs.declared.spot.Spot.{Spot}
use Rattle.plan_definitions.specs.Accesses.{misfit}
use Rattle.plan_definitions.specs.Calls.{mixed}
use Rattle.plan_definitions.specs.Coherent.{incoherent}
use Rattle.plan_definitions.specs.Events.{misplaced, wrongly_disabled}
use Rattle.plan_definitions.specs.Firsts.{first_of}
use Rattle.plan_definitions.specs.Invocations.{wrongly_served}
use Rattle.plan_definitions.specs.Programs.{refused_program}
use Rattle.plan_definitions.specs.Spots.{spot_text, program_text}

-- the number of a rule, and the first place in a component that breaks it
abbrev pub number_of : rules.ComponentRule → ℕ
number_of rule.Accesses = 16
number_of rule.EventKinds = 21
number_of rule.Invocations = 22
number_of rule.Calls = 23
number_of rule.Disablings = 24
number_of rule.CoherentLists = 31

abbrev pub broken_in : rules.ComponentRule → TypeTable → Component → Option Spot
broken_in rule.Accesses types c = misfit types c
broken_in rule.EventKinds types c = misplaced types c
broken_in rule.Invocations types c = wrongly_served types c
broken_in rule.Calls types c = mixed c
broken_in rule.Disablings types c = wrongly_disabled types c
broken_in rule.CoherentLists types c = incoherent types c

-- the first component that breaks the rule, in the order of the document, with the place in it
abbrev pub first_broken : rules.ComponentRule → Description → Option (ℕ × Spot)
first_broken r d = first_of (λ n c. option_map (λ place. (n, place)) (broken_in r d.types c)) 0 d.components

-- each rule with its first place
abbrev pub of_rule : rules.ComponentRule → Description → Option (ℕ × List ℕ)
of_rule r d = option_map (λ x. (number_of r, spot_text x.0 x.1)) (first_broken r d)

abbrev pub of_program : ℕ → Description → Option (ℕ × List ℕ)
of_program r d = option_map (λ x. (r, program_text x.0 x.1.0 x.1.1)) (refused_program (Some r) d)

-- the least rule of programs that is broken, with its first place
abbrev pub of_programs : Description → Option (ℕ × List ℕ)
of_programs d = option_or (of_program 17 d) (option_or (of_program 18 d) (option_or (of_program 19 d) (of_program 20 d)))

-- that of events
abbrev pub of_events : Description → Option (ℕ × List ℕ)
of_events d = option_or (of_rule rule.EventKinds d) (option_or (of_rule rule.Invocations d) (option_or (of_rule rule.Calls d) (of_rule rule.Disablings d)))

-- the refusal: the least rule of these but the last that is broken, with its first place
abbrev pub refusal : Description → Option (ℕ × List ℕ)
refusal d = option_or (of_rule rule.Accesses d) (option_or (of_programs d) (of_events d))
