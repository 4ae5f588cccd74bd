use Rattle.std.proofs.Common.{ℕ, ◌↔◌, ◌⊎◌, take}
use Rattle.description_types.specs.Members.{Among}
use Rattle.composition_tables.specs.Inner.{port_of}
use Rattle.composition_tables.proofs.inner.note_all.Given as goal

abbrev pub invariant-loop-inner : goal.invariant-loop-inner
invariant-loop-inner l = (k : ℕ × ℕ) → Among k l.found.keys ↔ (Among k l.fn.found.keys ⊎ Among (port_of k) (take l.inner-index l.inners))
