use Rattle.std.proofs.Common.{◌≡◌, drop}
use Rattle.description_types.specs.Lists.{from, first}
use Rattle.component_model.specs.Initials.{broken_of_composition}
use Rattle.component_model.proofs.initials.first_of_compositions.Given as goal

abbrev pub invariant-loop-position : goal.invariant-loop-position
invariant-loop-position l =
    first (from l.position (broken_of_composition l.types) (drop l.position l.compositions)) ≡ first (from 0 (broken_of_composition l.types) l.compositions)
