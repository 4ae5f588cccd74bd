use Rattle.std.proofs.Common.{◌≡◌, ℕ, List, map, take}
use Rattle.end_search.specs.Sharing.{keys_of}
use Rattle.end_search.specs.Tables.{names_of}
use Rattle.end_search.proofs.interfaces.tagged.Given as goal

abbrev pub invariant-loop-name : goal.invariant-loop-name
invariant-loop-name l = keys_of l.keys.items ≡ map (λ (name : List ℕ). (l.tag, name)) (names_of (take l.name-index l.names))
