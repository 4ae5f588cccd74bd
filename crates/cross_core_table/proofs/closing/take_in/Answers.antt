use Rattle.std.proofs.Common.{subst, Option}
use Rattle.cross_core_table.specs.Common.{Place, round_at, TakenIn}
use Rattle.cross_core_table.proofs.Takings.{first_taken, next_taken, joins_taken}
use Rattle.cross_core_table.proofs.closing.take_in.Goals as goal

pub join_seat-requires : goal.join_seat-requires
join_seat-requires c =
    let r = round_at c.args.top.now.table_id c.args.top.now.key c.args.cores in
    let t = c.requires.taken in
    let j = joins_taken r t.0 c.args.seat c.in-Some.first (subst (λ (x : Option Place). TakenIn r t.0 x) c.in-Some.is t.1) t.2 t.3 in
    (j.0, j.1, j.2, c.requires.words, j.3)

pub returns-in-None-clause-taken : goal.returns-in-None-clause-taken
returns-in-None-clause-taken c done t q =
    let r = round_at c.args.top.now.table_id c.args.top.now.key c.args.cores in
    first_taken r done c.args.seat (subst (λ (x : Option Place). TakenIn r done x) c.in-None.is t) q

pub returns-in-Some-clause-taken : goal.returns-in-Some-clause-taken
returns-in-Some-clause-taken c done t q =
    let r = round_at c.args.top.now.table_id c.args.top.now.key c.args.cores in
    next_taken r done c.args.seat c.in-Some.first c.join_seat.new.seat (subst (λ (x : Option Place). TakenIn r done x) c.in-Some.is t) c.join_seat.ensures.0 c.join_seat.ensures.2
