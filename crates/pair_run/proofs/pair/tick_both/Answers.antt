use Rattle.std.proofs.Common.{[], refl, sym, ◌∙◌, subst}
use Rattle.bus_semantics.specs.declared.script.Line.TheVariants as script_line
use Rattle.pair_run.specs.Common.{PairRun, Makes, SinkFaultsAfter, CarryBoth}
use Rattle.pair_run.proofs.Faults.{no_link_came, sink_came}
use Rattle.pair_run.proofs.Lines.{ticks_both, ticks_cut}
use Rattle.pair_run.proofs.pair.tick_both.Goals as goal

pub returns-in-Finished-clause-carries : goal.returns-in-Finished-clause-carries
returns-in-Finished-clause-carries g c =
    let told = g.K.Sink.told in
    subst (λ (r : PairRun). CarryBoth (Makes [] (script_line.Tick c.args.count)) r c.args.one.now c.put_ticks.new.n c.args.two.now c.put_ticks-in-Finished.new.n (told c.args.out.now) (told c.put_ticks-in-Finished.new.out))
    (sym c.came_of-in-Finished.ensures)
    (ticks_both c.lines_of_one-first.result c.lines_of_two-second.result c.put_ticks.result c.put_ticks-in-Finished.result c.args.count c.args.one.now c.put_ticks.new.n c.args.two.now c.put_ticks-in-Finished.new.n
    (told c.args.out.now) (told c.put_ticks.new.out) (told c.put_ticks-in-Finished.new.out) c.lines_of_one-first.ensures c.lines_of_two-second.ensures
    (sym c.came_of.ensures ∙ c.in-Finished.is) c.put_ticks.ensures.carries c.put_ticks-in-Finished.ensures.carries)

pub returns-in_default : goal.returns-in_default
returns-in_default g c =
    let told = g.K.Sink.told in
    let faults = g.K.Sink.faults in
    record {
      plan_one = c.put_ticks.ensures.plan;
      plan_two = refl;
      carries = subst (λ (r : PairRun). CarryBoth (Makes [] (script_line.Tick c.args.count)) r c.args.one.now c.put_ticks.new.n c.args.two.now c.args.two.now (told c.args.out.now) (told c.put_ticks.new.out))
          (sym c.came_of.ensures)
          (ticks_cut c.lines_of_one-first.result c.put_ticks.result c.args.count c.args.one.now c.put_ticks.new.n c.args.two.now (told c.args.out.now) (told c.put_ticks.new.out)
          c.lines_of_one-first.ensures (λ e. c.in_default.not-Finished (c.came_of.ensures ∙ e)) c.put_ticks.ensures.carries);
      sink = subst (λ (r : PairRun). SinkFaultsAfter r (faults c.args.out.now) (faults c.put_ticks.new.out)) (sym c.came_of.ensures)
          (sink_came c.put_ticks.result (faults c.args.out.now) (faults c.put_ticks.new.out) c.put_ticks.ensures.faults);
      no_link = λ e. no_link_came c.put_ticks.result (sym c.came_of.ensures ∙ e);
    }
