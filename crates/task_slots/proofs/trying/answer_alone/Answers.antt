use Rattle.std.proofs.Common.{◌≡◌, ◌∙◌, ap, Some}
use Rattle.bus_semantics.specs.Wanted.{wanted_of}
use Rattle.port_objects.specs.Benches.{stamped_alone, written_last}
use Rattle.task_slots.proofs.Tries.{free_touches, alone_entry, alone_made, alone_start, alone_looked}
use Rattle.task_slots.proofs.trying.answer_alone.Goals as goal

pub stamp_into-requires-clause-alone : goal.stamp_into-requires-clause-alone
stamp_into-requires-clause-alone g c =
    free_touches (g.B.Bench.plan c.args.bench.now) c.args.who.now (wanted_of c.args.wish.now) c.requires.alone c.in-Some.deed c.in-Some.ensures.0 c.in-Some.ensures.1

pub returns-in-Some-clause-written : goal.returns-in-Some-clause-written
returns-in-Some-clause-written g c = (stamped_alone c.stamp_into.ensures.stamped.stamp (record { actor = c.args.who.now; deed = c.in-Some.deed }), c.stamp_into.ensures.stamped.written)

pub returns-in-Some-clause-entry : goal.returns-in-Some-clause-entry
returns-in-Some-clause-entry g c =
    let into = c.stamp_into.ensures.stamped in
    let last : written_last c.stamp_into.new.made.items ≡ Some (stamped_alone into.stamp (record { actor = c.args.who.now; deed = c.in-Some.deed })) = ap written_last into.written ∙ c.last_entries_are_last.ensures c.args.made.now.items _ in
    alone_entry (g.B.Bench.plan c.args.bench.now) c.args.who.now (wanted_of c.args.wish.now) c.requires.alone c.stamp_into.new.made.items into.stamp c.in-Some.deed last c.in-Some.ensures.0 c.in-Some.ensures.1

pub returns-in-Some-clause-looked : goal.returns-in-Some-clause-looked
returns-in-Some-clause-looked g c =
    let into = c.stamp_into.ensures.stamped in
    let last : written_last c.stamp_into.new.made.items ≡ Some (stamped_alone into.stamp (record { actor = c.args.who.now; deed = c.in-Some.deed })) = ap written_last into.written ∙ c.last_entries_are_last.ensures c.args.made.now.items _ in
    alone_made (g.B.Bench.plan c.args.bench.now) c.args.who.now (wanted_of c.args.wish.now) c.requires.alone c.stamp_into.new.made.items into.stamp c.in-Some.deed last c.in-Some.ensures.0 c.in-Some.ensures.1 _ _ into.stamped

pub returns-in-None-clause-looked : goal.returns-in-None-clause-looked
returns-in-None-clause-looked g c =
    let p = g.B.Bench.plan c.args.bench.now in
    let w = wanted_of c.args.wish.now in
    alone_looked p c.args.who.now w c.requires.alone (g.B.Bench.told c.args.bench.now) (alone_start p c.args.who.now w c.requires.alone c.requires.tried.free c.in-None.ensures)
