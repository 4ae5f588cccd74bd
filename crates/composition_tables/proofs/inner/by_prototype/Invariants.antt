use Rattle.std.proofs.Common.{ℕ, ◌↔◌, nat_eq, take}
use Rattle.indexmap.specs.IndexMap.{get}
use Rattle.description_types.specs.Members.{Among}
use Rattle.composition_tables.specs.Multi.{under}
use Rattle.composition_tables.proofs.inner.by_prototype.Given as goal

abbrev pub invariant-loop-pair : goal.invariant-loop-pair
invariant-loop-pair l = record {
  listed : (q p : ℕ) → Among (q, p) (take l.pair-index l.pairs) → Among q l.prototypes.keys;
  ports : (q p : ℕ) → Among p (under (get nat_eq l.ports q)) ↔ Among (q, p) (take l.pair-index l.pairs);
}
