-- Items that have the sizes of their types: numbers of 32 bits, codes that are bytes, words of 64 bits.
use Rattle.std.specs.Prelude.{Bool, true, ◌&&◌}
use Rattle.bus_semantics.specs.declared.entries.Entry.{Entry}
use Rattle.bus_semantics.specs.declared.entries.Stamped.{Stamped}
use Rattle.bus_semantics.specs.Common.{is_sized, is_sized_actor, Item, made, run_begins, run_closes}

abbrev pub is_sized_entry : Entry → Bool
is_sized_entry e = is_sized_actor e.actor && is_sized e.deed

abbrev pub is_sized_stamped : Stamped → Bool
is_sized_stamped s = is_sized_entry s.entry

abbrev pub is_sized_item : Item → Bool
is_sized_item (made e) = is_sized_entry e
is_sized_item run_begins = true
is_sized_item (run_closes word) = true
