use Rattle.std.proofs.Common.{take, false}
use Rattle.description_types.specs.declared.description.PrototypeType.TheVariants.{Component}
use Rattle.description_types.specs.Growing.{AnyOf}
use Rattle.end_search.specs.Wishes.{IsEnd, Sought}
use Rattle.end_search.proofs.seek.note_ports.Given as goal

abbrev pub invariant-loop-port : goal.invariant-loop-port
invariant-loop-port l = Sought (AnyOf (IsEnd l.tree.d.now l.wish.wanted 0 (Component l.component) l.first) (take l.port-index l.ports)) l.fn.found.keys l.found.keys false
