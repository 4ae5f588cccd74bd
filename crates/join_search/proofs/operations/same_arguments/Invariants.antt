use Rattle.std.proofs.Common.{◌≡◌, drop, zip}
use Rattle.std.specs.List.{list_all}
use Rattle.plan_definitions.specs.Interfaces.{same_argument}
use Rattle.join_search.proofs.operations.same_arguments.Given as goal

abbrev pub invariant-loop-i : goal.invariant-loop-i
invariant-loop-i l = list_all (λ x. same_argument l.types x.0 x.1) (zip l.provided l.required) ≡ list_all (λ x. same_argument l.types x.0 x.1) (zip (drop l.i l.provided) (drop l.i l.required))
