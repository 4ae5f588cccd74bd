use Rattle.std.proofs.Common.{◌≡◌, take}
use Rattle.std.specs.Prelude.{flat_map}
use Rattle.task_machine.specs.Spots.{store_of}
use Rattle.task_machine.specs.Store.{written_in, words_or_none}
use Rattle.task_machine.proofs.store.Store.published_together.Given as goal

abbrev pub invariant-loop-slot : goal.invariant-loop-slot
invariant-loop-slot l = l.words.items ≡ take 16 (flat_map (λ slot. words_or_none (written_in slot (store_of l.self))) (take l.slot-index l.slots))
