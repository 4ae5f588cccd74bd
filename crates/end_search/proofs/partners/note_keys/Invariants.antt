use Rattle.std.proofs.Common.{ℕ, List, Bor, take}
use Rattle.indexmap.specs.IndexMap.{get}
use Rattle.description_types.specs.Members.{Among}
use Rattle.end_search.specs.Sharing.{keys_of, same_item}
use Rattle.composition_tables.specs.Multi.{under}
use Rattle.end_search.proofs.partners.note_keys.Given as goal

abbrev pub invariant-loop-place : goal.invariant-loop-place
invariant-loop-place l = record {
  stays : (q : ℕ × Bor (List ℕ)) (i : ℕ) → Among i (under (get same_item l.fn.index q)) → Among i (under (get same_item l.index q));
  has : (q : ℕ × Bor (List ℕ)) → Among (q.0, q.1.now) (keys_of (take l.place l.keys)) → Among l.interface (under (get same_item l.index q));
}
