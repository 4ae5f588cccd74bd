-- Where no program breaks any rule, none breaks one of them.
use Rattle.std.proofs.Common.{◌≡◌, ℕ, List, Option, Some, None, refl, ap, option_map, option_and_then}
use Rattle.std.specs.Option.{option_or}
use Rattle.plan_definitions.specs.Common.{TypeTable, Component, Description, path_of, program_refusal, refused_in, refused_program, of_program, of_programs, program_text}
use Rattle.component_rules.proofs.Firsts.{none_where}
use Rattle.plan_definitions.proofs.Firsts.{map_none}

one_passes : (m r : ℕ) (refused : Option (ℕ × List ℕ)) → option_map {U = ℕ × List ℕ} (λ path. (m, path)) (option_and_then (path_of None) refused) ≡ None
    → option_map {U = ℕ × List ℕ} (λ path. (m, path)) (option_and_then (path_of (Some r)) refused) ≡ None
one_passes m r None none = refl
one_passes m r (Some x) none = cc

all_in : (r : ℕ) (types : TypeTable) (c : Component) → refused_in None types c ≡ None → refused_in (Some r) types c ≡ None
all_in r types c = none_where (λ m x. option_map {U = ℕ × List ℕ} (λ path. (m, path)) (option_and_then (path_of None) (program_refusal types c x))) (λ m x. option_map {U = ℕ × List ℕ} (λ path. (m, path)) (option_and_then (path_of (Some r)) (program_refusal types c x)))
    (λ m x. one_passes m r (program_refusal types c x)) 0 c.behavior.runnables

all_of : (r : ℕ) (d : Description) → refused_program None d ≡ None → refused_program (Some r) d ≡ None
all_of r d = none_where (λ n c. option_map {U = ℕ × (ℕ × List ℕ)} (λ x. (n, x)) (refused_in None d.types c)) (λ n c. option_map {U = ℕ × (ℕ × List ℕ)} (λ x. (n, x)) (refused_in (Some r) d.types c))
    (λ n c none. ap (option_map {U = ℕ × (ℕ × List ℕ)} (λ x. (n, x))) (all_in r d.types c (map_none {Y = ℕ × (ℕ × List ℕ)} (λ x. (n, x)) (refused_in None d.types c) none))) 0 d.components

rule_kept : (r : ℕ) (d : Description) → refused_program None d ≡ None → of_program r d ≡ None
rule_kept r d none = ap (option_map (λ x. (r, program_text x.0 x.1.0 x.1.1))) (all_of r d none)

pub programs_pass : (d : Description) → refused_program None d ≡ None → of_programs d ≡ None
programs_pass d none = λ j. option_or (rule_kept 17 d none j) (option_or (rule_kept 18 d none j) (option_or (rule_kept 19 d none j) (rule_kept 20 d none j)))
