use Rattle.std.proofs.Common.{◌≡◌, drop, map}
use Rattle.description_types.specs.Lists.{from, first}
use Rattle.component_model.specs.Initials.{broken_of_component}
use Rattle.component_model.specs.Programs.{component_tree}
use Rattle.component_model.proofs.initials.first_of_components.Given as goal

abbrev pub invariant-loop-position : goal.invariant-loop-position
invariant-loop-position l =
    first (from l.position (broken_of_component l.types) (map component_tree (drop l.position l.components))) ≡ first (from 0 (broken_of_component l.types) (map component_tree l.components))
