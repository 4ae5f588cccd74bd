use Rattle.std.proofs.Common.{◌≡◌, map, take}
use Rattle.end_search.specs.declared.interfaces.Listed.{Listed}
use Rattle.description_types.specs.declared.interface.Interface.{Interface}
use Rattle.end_search.proofs.matches.interfaces_of.Given as goal

abbrev pub invariant-loop-interface : goal.invariant-loop-interface
invariant-loop-interface l = map (λ (x : Listed). x.kind.now) l.list.items ≡ map (λ (x : Interface). x.kind) (take l.interface-index l.interface-items)
