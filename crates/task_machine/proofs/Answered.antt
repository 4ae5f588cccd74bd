-- One answer more.
use Rattle.std.proofs.Common.{◌≡◌, List, [], ◌∷◌, ◌++◌, refl}
use Rattle.bus_semantics.specs.declared.entries.Deed.{Deed}
use Rattle.task_machine.specs.Instructions.{Instruction}
use Rattle.task_machine.specs.Machine.{Spot, answered, after}

pub after_more : (code : List Instruction) (answers : List Deed) (d : Deed) (at : Spot) → after code (answers ++ d ∷ []) at ≡ answered code d (after code answers at)
after_more code [] d at = refl
after_more code (e ∷ answers) d at = after_more code answers d (answered code e at)
