use Rattle.std.proofs.Common.{◌≡◌, take, false}
use Rattle.composition_tables.specs.declared.tree.PortEnd.{PortEnd}
use Rattle.description_types.specs.Growing.{AnyOf}
use Rattle.end_search.specs.Wishes.{end_from, Sought}
use Rattle.end_search.proofs.seek.note_all_moved.Given as goal

abbrev pub invariant-loop-end : goal.invariant-loop-end
invariant-loop-end l = Sought (AnyOf (λ (y x : PortEnd). x ≡ end_from l.first y) (take l.end-index l.ends)) l.fn.found.keys l.found.keys false
