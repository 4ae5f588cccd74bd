use Rattle.std.proofs.Common.{sym, subst}
use Rattle.bus_semantics.specs.declared.script.Line.{Line}
use Rattle.pair_run.specs.Common.{Makes, CarryBoth}
use Rattle.pair_run.proofs.pair.put_line.Goals as goal

pub returns-in-Tick-clause-carries : goal.returns-in-Tick-clause-carries
returns-in-Tick-clause-carries g c =
    let told = g.K.Sink.told in
    subst (λ (l : Line). CarryBoth (Makes c.args.unframer.now.links l) c.tick_both.result c.args.one.now c.tick_both.new.one c.args.two.now c.tick_both.new.two (told c.args.out.now) (told c.tick_both.new.out))
    (sym c.in-Tick.is) c.tick_both.ensures.carries

pub returns-in-Run-clause-carries : goal.returns-in-Run-clause-carries
returns-in-Run-clause-carries g c =
    let told = g.K.Sink.told in
    subst (λ (l : Line). CarryBoth (Makes c.args.unframer.now.links l) c.run_both.result c.args.one.now c.run_both.new.one c.args.two.now c.run_both.new.two (told c.args.out.now) (told c.run_both.new.out))
    (sym c.in-Run.is) c.run_both.ensures.carries

pub returns-in-Call-clause-carries : goal.returns-in-Call-clause-carries
returns-in-Call-clause-carries g c =
    let told = g.K.Sink.told in
    subst (λ (l : Line). CarryBoth (Makes c.args.unframer.now.links l) c.call_one.result c.args.one.now c.call_one.new.one c.args.two.now c.args.two.now (told c.args.out.now) (told c.call_one.new.out))
    (sym c.in-Call.is) (c.call_one.ensures.carries c.args.two.now)
