use Rattle.std.proofs.Common.{◌≡◌, ◌++◌, drop}
use Rattle.plan_definitions.specs.Spots.{path_text}
use Rattle.component_rules.proofs.places.put_path.Given as goal

abbrev pub invariant-loop-position : goal.invariant-loop-position
invariant-loop-position l = l.initial.text.items ++ path_text l.path ≡ l.text.items ++ path_text (drop l.position-index l.path)
