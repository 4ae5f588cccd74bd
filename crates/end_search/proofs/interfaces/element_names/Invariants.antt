use Rattle.std.proofs.Common.{◌≡◌, take}
use Rattle.description_types.specs.Items.{element_names}
use Rattle.end_search.specs.Tables.{names_of}
use Rattle.end_search.proofs.interfaces.element_names.Given as goal

abbrev pub invariant-loop-element : goal.invariant-loop-element
invariant-loop-element l = names_of l.names.items ≡ element_names (take l.element-index l.elements)
