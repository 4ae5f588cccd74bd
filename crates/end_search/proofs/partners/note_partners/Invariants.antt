use Rattle.std.proofs.Common.{ℕ, List, Bor, take}
use Rattle.indexmap.specs.IndexMap.{get}
use Rattle.description_types.specs.Members.{Among}
use Rattle.end_search.specs.Sharing.{same_item}
use Rattle.composition_tables.specs.Multi.{under}
use Rattle.end_search.proofs.partners.note_partners.Given as goal

abbrev pub invariant-loop-place : goal.invariant-loop-place
invariant-loop-place l = record {
  stays : (k : ℕ × ℕ) → Among k l.fn.pairs.keys → Among k l.pairs.keys;
  has : (q : ℕ × Bor (List ℕ)) (j : ℕ) → Among q (take l.place l.keys) → Among j (under (get same_item l.index q)) → Among (l.interface, j) l.pairs.keys;
}
