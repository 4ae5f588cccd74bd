use Rattle.bus_semantics.specs.Wanted.{wanted_of}
use Rattle.script_run.proofs.Sessions as by
use Rattle.script_run.proofs.script.put_call.Goals as goal

pub returns-clause-carries : goal.returns-clause-carries
returns-clause-carries g c =
    let told = g.K.Sink.told in
    rw c.came_of.ensures
    (by.call_carries c.args.w c.args.n.now c.make_call-made.new.n c.make_call-made.result.0 (wanted_of c.args.wish.now) c.make_call-made.result.1
    (told c.args.out.now) (told c.make_call-made.new.out) c.make_call-made.ensures.calls)
