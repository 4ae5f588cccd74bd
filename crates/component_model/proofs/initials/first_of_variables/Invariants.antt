use Rattle.std.proofs.Common.{◌≡◌, drop}
use Rattle.description_types.specs.Lists.{from, first, unless}
use Rattle.component_model.specs.declared.initials.Initial.TheVariants.{OfVariable}
use Rattle.description_types.specs.Initials.{keeps}
use Rattle.component_model.specs.Initials.{broken_of_variables}
use Rattle.component_model.proofs.initials.first_of_variables.Given as goal

abbrev pub invariant-loop-number : goal.invariant-loop-number
invariant-loop-number l =
    first (from l.number (λ k v. unless (keeps l.types.data_types v.of_type v.init_value) (OfVariable l.component k)) (drop l.number l.variables)) ≡ first (broken_of_variables l.types l.component l.variables)
