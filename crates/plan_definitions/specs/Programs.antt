-- What is refused of programs (the rules of `runnable_lang`).
use Rattle.std.specs.Prelude.{ℕ, List, Bool, true, ◌==◌, Option, Some, None, option_map, option_and_then, if◌then◌else◌}
use Rattle.bus_semantics.specs.Common.{arc_value, refusal, program_tree}
use Rattle.description_types.specs.declared.interface.TypeTable.{TypeTable}
use Rattle.description_types.specs.declared.component.Component.{Component}
use Rattle.description_types.specs.declared.component.Runnable.{Runnable}
use Rattle.description_types.specs.declared.description.Description.{Description}
use Rattle.plan_definitions.specs.Firsts.{first_of}
use Rattle.plan_definitions.specs.Signatures.{signature}

-- the least rule that a runnable's program breaks, of 17 to 20, with the path to the first statement that breaks it
abbrev pub program_refusal : TypeTable → Component → Runnable → Option (ℕ × List ℕ)
program_refusal types c r = refusal (signature types c r.accesses) (program_tree (arc_value r.program))

-- a rule, or any
abbrev pub is_wanted : Option ℕ → ℕ → Bool
is_wanted None rule = true
is_wanted (Some wanted) rule = rule == wanted

abbrev pub path_of : Option ℕ → ℕ × List ℕ → Option (List ℕ)
path_of wanted x = if is_wanted wanted x.0 then Some x.1 else None

-- the first runnable of a component whose program breaks the rule first of all, with the path
abbrev pub refused_in : Option ℕ → TypeTable → Component → Option (ℕ × List ℕ)
refused_in wanted types c = first_of (λ m r. option_map (λ path. (m, path)) (option_and_then (path_of wanted) (program_refusal types c r))) 0 c.behavior.runnables

-- the first such component, with its runnable and the path
abbrev pub refused_program : Option ℕ → Description → Option (ℕ × (ℕ × List ℕ))
refused_program wanted d = first_of (λ n c. option_map (λ x. (n, x)) (refused_in wanted d.types c)) 0 d.components
