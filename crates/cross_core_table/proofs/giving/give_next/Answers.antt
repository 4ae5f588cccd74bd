use Rattle.std.proofs.Common.{◌∙◌, ap, refl, arith, List, ℕ}
use Rattle.object_kinds.proofs.Lists.{at_index}
use Rattle.port_objects.specs.declared.object.Object.{Object}
use Rattle.cross_core_table.specs.Common.{CoreSeat, giving}
use Rattle.cross_core_table.proofs.Seating.{splits}
use Rattle.cross_core_table.proofs.Opens.{given_next}
use Rattle.cross_core_table.proofs.giving.give_next.Goals as goal

pub split_seat-place-requires : goal.split_seat-place-requires
split_seat-place-requires c =
    let q = c.requires.seats.each 0 c.index_mut.result.now (at_index c.args.seats.now.items c.args.seats.now.items 0 c.index_mut.result.now refl c.index_mut.ensures.value (let some-core = c.requires.core.0 in omega (arith, c.requires.seats.count))) in
    let some-core = c.requires.core.0 in
    let few = c.requires.core.1 in
    (q.at.table, c.requires.words, splits c.args.top.now.key _ c.index_mut.result.now.place.me.0 q.at.idle.opening (omega (arith, q.given)) (omega (arith, q.given)))

pub returns-clause-seats : goal.returns-clause-seats
returns-clause-seats c =
    let s : CoreSeat = c.index_mut.result.now in
    let at = at_index c.args.seats.now.items c.args.seats.now.items 0 s refl c.index_mut.ensures.value (let some-core = c.requires.core.0 in omega (arith, c.requires.seats.count)) in
    let q = c.requires.seats.each 0 s at in
    let split = c.split_seat-place.ensures in
    let a : CoreSeat = record { place = c.split_seat-place.new.seat; made = s.made; core = s.core } in
    let x : CoreSeat = record { place = c.split_seat-place.result; made = c.args.made; core = c.args.core } in
    given_next c.args.top.now.table_id c.args.top.now.key c.args.core c.args.seats.now.items c.push_reserved.new.self.items s a x c.requires.core.0 at c.requires.seats
    split.0 (split.2 ∙ ap (λ (l : List (ℕ × Object)). (giving s.place.me.0, l)) q.at.idle.slots) refl refl
    (split.3 ∙ q.at.table) split.4 refl c.requires.made.0 c.requires.made.1 c.push_reserved.ensures.items
