use Rattle.std.proofs.Common.{◌≡◌, ◌++◌, map, length}
use Rattle.std.specs.Vec.{vec_capacity}
use Rattle.std.specs.Vec.Iter.{into_iter_items, into_iter_len}
use Rattle.cross_core_table.specs.Common.{made_of, round_at, TakenIn, items_of}
use Rattle.cross_core_table.proofs.closing.take_in_all.Given as goal

-- of the seats so far the first has taken in the others
abbrev pub invariant-loop-seat : goal.invariant-loop-seat
invariant-loop-seat l = record {
  all : l.yielded ++ into_iter_items l.seat-iterator ≡ into_iter_items l.initial.seat-iterator;
  left : into_iter_len l.seat-iterator ≡ length (into_iter_items l.seat-iterator);
  taken : TakenIn (round_at l.top.table_id l.top.key l.cores) l.yielded l.first;
  kept : items_of l.parts.items ≡ map made_of l.yielded;
  space : vec_capacity l.parts ≡ vec_capacity l.initial.parts;
}
