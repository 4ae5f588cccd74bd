-- The slots of a coherent list's elements, in the list's order.
use Rattle.std.specs.Prelude.{ℕ, ℤ, List, [], ◌∷◌, take, drop, flat_map, Bool, is_some}
use Rattle.bus_semantics.specs.Common.{list_any, mask_of}
use Rattle.task_machine.specs.declared.instr.SlotPart.{SlotPart}
use Rattle.task_machine.specs.Store.{Store, with_fetched, written_in, words_or_none}

abbrev pub has_written : Store → (slot : ℕ) → Bool
has_written m slot = is_some (written_in slot m)

abbrev pub any_written : (slots : List ℕ) → Store → Bool
any_written slots m = list_any (has_written m) slots

-- marks of the slots into which something was written; a list has at most 16
abbrev pub marks_of : (slots : List ℕ) → Store → ℕ
marks_of slots m = mask_of (has_written m) (take 16 slots)

-- what was written into them, one after the other; a value has at most 16 words
abbrev pub words_written : (slots : List ℕ) → Store → List ℤ
words_written slots m = take 16 (flat_map (λ slot. words_or_none (written_in slot m)) slots)

-- each slot takes its words from the left
abbrev pub with_parts : List SlotPart → List ℤ → Store → Store
with_parts [] words m = m
with_parts (part ∷ parts) words m = with_parts parts (drop part.words words) (with_fetched part.slot (take part.words words) m)
