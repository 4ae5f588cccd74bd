use Rattle.std.proofs.Common.{◌≡◌, ℕ, take, Some, nat_eq, if◌then◌else◌}
use Rattle.std.specs.Prelude.{◌==◌}
use Rattle.std.specs.List.{list_any}
use Rattle.indexmap.specs.IndexMap.{get}
use Rattle.implicit_buffers.proofs.fetchings.note_list.Given as goal

abbrev pub invariant-loop-elem : goal.invariant-loop-elem
invariant-loop-elem l = (x : ℕ) → get nat_eq l.lists x ≡ (if list_any (λ y. y == x) (take l.elem-index l.elements) then Some l.list else get nat_eq l.fn.lists x)
