use Rattle.rte_text.specs.declared.sink.Put.TheVariants.{Done, Failed}
use Rattle.pair_run.proofs.Lines.{call_answers}
use Rattle.pair_run.proofs.pair.call_one.Goals as goal

pub returns-in-Done-clause-carries : goal.returns-in-Done-clause-carries
returns-in-Done-clause-carries g c = λ two.
    let told = g.K.Sink.told in
    call_answers c.lines_of_one-w.result c.args.wish.now c.make_call.result.0 c.make_call.result.1 Done c.args.one.now c.make_call.new.n two (told c.args.out.now) (told c.make_call.new.out)
    c.lines_of_one-w.ensures c.requires.fits c.requires.limits c.make_call.ensures.calls c.in-Done.is

pub returns-in-Failed-clause-carries : goal.returns-in-Failed-clause-carries
returns-in-Failed-clause-carries g c = λ two.
    let told = g.K.Sink.told in
    call_answers c.lines_of_one-w.result c.args.wish.now c.make_call.result.0 c.make_call.result.1 Failed c.args.one.now c.make_call.new.n two (told c.args.out.now) (told c.make_call.new.out)
    c.lines_of_one-w.ensures c.requires.fits c.requires.limits c.make_call.ensures.calls c.in-Failed.is
