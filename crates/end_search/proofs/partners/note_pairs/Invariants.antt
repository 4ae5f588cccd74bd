use Rattle.std.proofs.Common.{ℕ, take}
use Rattle.description_types.specs.Members.{Among}
use Rattle.end_search.proofs.partners.note_pairs.Given as goal

abbrev pub invariant-loop-other : goal.invariant-loop-other
invariant-loop-other l = record {
  stays : (k : ℕ × ℕ) → Among k l.fn.pairs.keys → Among k l.pairs.keys;
  has : (j : ℕ) → Among j (take l.other-index l.others) → Among (l.interface, j) l.pairs.keys;
}
