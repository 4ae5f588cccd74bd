use Rattle.std.proofs.Common.{◌≡◌, take}
use Rattle.bus_semantics.specs.Spelling.{mask_text}
use Rattle.trace_text.specs.Appending.{Appends}
use Rattle.trace_text.proofs.Marks.{behind}
use Rattle.trace_text.proofs.lists.write_marks.Given as goal

abbrev pub invariant-loop : goal.invariant-loop
invariant-loop l = record {
  text : Appends l.initial.out l.out (mask_text l.written (take l.counter l.elems));
  marks : l.marks ≡ behind l.counter l.written;
}
