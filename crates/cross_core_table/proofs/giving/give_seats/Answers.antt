use Rattle.std.proofs.Common.{◌≡◌, ◌<◌, arith, refl, subst, ◌∙◌, ℕ}
use Rattle.cross_core_table.specs.Opened.{AreGiven}
use Rattle.cross_core_table.proofs.Opens.{room_taken, rooms_left, given_first}
use Rattle.cross_core_table.proofs.giving.give_seats.Goals as goal

pub loop-core-init : goal.loop-core-init
loop-core-init c =
    let some-core = c.requires.cores.0 in
    let taken = room_taken _ _ _ _ c.in-Some.made c.in-Some.ensures.items c.requires.rooms in
    record {
      given = given_first c.args.top.now.table_id c.args.top.now.key c.args.seats.now.items c.push_reserved.new.self.items (record { place = c.args.first; made = c.in-Some.made; core = 0 }) c.requires.table c.requires.seat refl taken.0 taken.1
          c.requires.seats.0 c.push_reserved.ensures.items;
      rooms = rooms_left c.args.cores _ _ _ _ c.in-Some.made c.in-Some.ensures.items (omega arith) c.requires.rooms;
      space = refl;
      kept = refl;
    }

pub give_next-requires-clause-made : goal.give_next-requires-clause-made
give_next-requires-clause-made c = room_taken _ _ _ _ c.in-Some-pop.made c.in-Some-pop.ensures.items c.loop-core.invariant.rooms

pub loop-core-preserved : goal.loop-core-preserved
loop-core-preserved c =
    let below : c.loop-core.core < c.args.cores = omega (arith, c.loop-core-test.true, c.loop-core.auto.core-end) in
    record {
      given = subst (λ (n : ℕ). AreGiven c.args.top.now.table_id c.args.top.now.key n c.give_next.new.seats.items) (omega arith) c.give_next.ensures.seats;
      rooms = rooms_left _ _ _ _ _ c.in-Some-pop.made c.in-Some-pop.ensures.items (omega (arith, below)) c.loop-core.invariant.rooms;
      space = c.give_next.ensures.space ∙ c.loop-core.invariant.space;
      kept = c.in-Some-pop.ensures.capacity ∙ c.loop-core.invariant.kept;
    }

pub returns-clause-seats : goal.returns-clause-seats
returns-clause-seats c =
    let all : c.loop-core.core ≡ c.args.cores = omega (arith, c.loop-core-test.false, c.loop-core.auto.core-end, c.loop-core.auto.core, c.requires.cores.0) in
    subst (λ (n : ℕ). AreGiven c.args.top.now.table_id c.args.top.now.key n c.loop-core.seats.items) all c.loop-core.invariant.given
