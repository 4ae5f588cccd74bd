use Rattle.std.proofs.Common.{◌≡◌, drop}
use Rattle.description_types.specs.Lists.{from, first, unless}
use Rattle.component_model.specs.declared.initials.Initial.TheVariants.{OfPort}
use Rattle.description_types.specs.Initials.{keeps_element}
use Rattle.component_model.specs.Initials.{broken_of_port}
use Rattle.component_model.proofs.initials.first_of_port.Given as goal

abbrev pub invariant-loop-number : goal.invariant-loop-number
invariant-loop-number l =
    first (from l.number (λ k s. unless (keeps_element l.types l.port.interface s) (OfPort l.owner l.position k)) (drop l.number l.port.com_specs)) ≡ first (broken_of_port l.types l.owner l.position l.port)
