use Rattle.std.proofs.Common.{◌≡◌, ◌++◌, codes}
use Rattle.std.specs.List.{flat_map}
use Rattle.indexmap.specs.IndexMap.{keys}
use Rattle.plan_text.proofs.text.add_lines.Given as goal

abbrev pub invariant-loop-name : goal.invariant-loop-name
invariant-loop-name l = l.text.items ++ flat_map (λ name. name.items ++ codes "\n") l.name-iterator ≡ l.fn.text.items ++ flat_map (λ name. name.items ++ codes "\n") (keys l.calls)
