use Rattle.std.proofs.Common.{◌≤◌, ◌*◌, length, take}
use Rattle.bus_semantics.specs.Spelling.{more_words}
use Rattle.trace_text.specs.Appending.{Appends}
use Rattle.trace_text.proofs.fields.write_more_words.Given as goal

abbrev pub invariant-loop-word : goal.invariant-loop-word
invariant-loop-word l = record {
  text : Appends l.initial.out l.out (more_words (take l.word-index l.words));
  short : length (more_words (take l.word-index l.words)) ≤ 21 * l.word-index;
}
