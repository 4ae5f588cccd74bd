use Rattle.std.proofs.Common.{◌≡◌, ◌+◌, ◌*◌, ◌≤◌, drop}
use Rattle.bus_semantics.specs.Common.{marked, words_of_all, plan_of}
use Rattle.trace_reading.proofs.list_owners.words_of_marked.Given as goal

-- with those of the elements to come the words are those of all; each mark stands for at most 255 words
abbrev pub invariant-loop-elem : goal.invariant-loop-elem
invariant-loop-elem l = record {
  whole : l.words + words_of_all (plan_of l.p) (marked l.marks (drop l.elem-index l.elems)) ≡ words_of_all (plan_of l.p) (marked l.written l.elems);
  few : l.words + 255 * l.marks ≤ 255 * l.written;
}
