use Rattle.latches.proofs.Places.{found_at}
use Rattle.core_runtime.proofs.resting.rest_first.Goals as goal

pub rest_seat-requires : goal.rest_seat-requires
rest_seat-requires c =
    let seat = c.in-Some.seat.now in
    record { there = c.requires.there 0 seat (found_at c.args.seats.now 0 seat c.in-Some.ensures.lookup.3.0 c.in-Some.ensures.lookup.1) }

pub returns-in-Some-clause-watched : goal.returns-in-Some-clause-watched
returns-in-Some-clause-watched c = λ p t objects cores over watched.
    let seat = c.in-Some.seat.now in
    c.rest_seat.ensures.watched p t objects cores (over 0 seat (found_at c.args.seats.now 0 seat c.in-Some.ensures.lookup.3.0 c.in-Some.ensures.lookup.1)) watched
