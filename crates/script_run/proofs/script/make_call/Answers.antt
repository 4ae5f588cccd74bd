use Rattle.std.proofs.Common.{ap}
use Rattle.bus_semantics.specs.Common.{plan_of, wanted_of}
use Rattle.script_run.proofs.Sessions as by
use Rattle.script_run.proofs.script.make_call.Goals as goal

pub returns-clause-calls : goal.returns-clause-calls
returns-clause-calls g c =
    let told = g.K.Sink.told in
    let made = c.environment-entry.ensures in
    by.call_made c.args.w c.args.n.now c.environment-entry.new.self c.environment-entry.result (wanted_of c.args.wish.now) c.put_entry-put.result
    (told c.args.out.now) (told c.put_entry-put.new.out) (plan_of c.plan.result.now)
    made.actor (made.wish 0) made.plan made.mapping made.lawful (ap plan_of c.plan.ensures.plan) c.put_entry-put.ensures.sized c.put_entry-put.ensures.told
