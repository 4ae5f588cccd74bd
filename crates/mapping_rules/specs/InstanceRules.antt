-- The rules on what each instance has, and the first that breaks one.
use Rattle.std.specs.Prelude.{ℕ, List, Option, option_map}
use Rattle.plan_definitions.specs.Common.{Component, Description, Flat, event_text, runnable_text, badly_mapped_in, not_direct_in, spread_in}
use Rattle.mapping_rules.specs.declared.instances.InstanceRule.{InstanceRule}
use Rattle.mapping_rules.specs.declared.instances.InstanceRule.TheVariants.{MappedOnce, OneTask, Direct}
use Rattle.plan_definitions.specs.MappingRules.{in_instances}

abbrev pub broken_in : InstanceRule → Description → Flat → ℕ → Component → Option (ℕ × ℕ)
broken_in MappedOnce = badly_mapped_in
broken_in OneTask = spread_in
broken_in Direct = not_direct_in

abbrev pub first_broken : InstanceRule → Description → Flat → Option (ℕ × ℕ)
first_broken rule d f = in_instances (broken_in rule d f) d f

-- the number of a rule, the text of a place, and the refusal by the rule
abbrev pub number_of : InstanceRule → ℕ
number_of MappedOnce = 26
number_of OneTask = 27
number_of Direct = 28

abbrev pub part_text : InstanceRule → Description → Flat → ℕ × ℕ → List ℕ
part_text MappedOnce = event_text
part_text OneTask = runnable_text
part_text Direct = event_text

abbrev pub of_rule : InstanceRule → Description → Flat → Option (ℕ × List ℕ)
of_rule rule d f = option_map (λ p. (number_of rule, part_text rule d f p)) (first_broken rule d f)
