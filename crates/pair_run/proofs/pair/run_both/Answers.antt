use Rattle.std.proofs.Common.{refl, sym, ◌∙◌, subst}
use Rattle.bus_semantics.specs.declared.script.Line.TheVariants as script_line
use Rattle.pair_run.specs.Common.{PairRun, Did, Makes, one, SinkFaultsAfter, CarryBoth}
use Rattle.pair_run.proofs.Faults.{after_same, link_same, no_link_came, sink_came, sink_then}
use Rattle.pair_run.proofs.Lines.{crossing_cut, run_cut, run_did, runs_both}
use Rattle.pair_run.proofs.Stood.{stand_on}
use Rattle.pair_run.proofs.pair.run_both.Goals as goal

pub returns-in_default : goal.returns-in_default
returns-in_default g c =
    let told = g.K.Sink.told in
    let faults = g.K.Sink.faults in
    let way = g.L.Link.way in
    let links = c.args.unframer.now.links in
    record {
      plan_one = c.put_run.ensures.plan;
      plan_two = refl;
      after = after_same c.came_of.result (way c.args.way.now) c.args.unframer.now c.requires.way;
      sound_link = λ never e. no_link_came c.put_run.result (sym c.came_of.ensures ∙ e);
      never_fails = refl;
      carries = subst (λ (r : PairRun). CarryBoth (Makes links script_line.Run) r c.args.one.now c.put_run.new.n c.args.two.now c.args.two.now (told c.args.out.now) (told c.put_run.new.out))
          (sym c.came_of.ensures)
          (run_cut c.lines_of_one-first.result links c.put_run.result c.args.one.now c.put_run.new.n c.args.two.now (told c.args.out.now) (told c.put_run.new.out)
          c.lines_of_one-first.ensures (λ e. c.in_default.not-Finished (c.came_of.ensures ∙ e)) c.put_run.ensures.carries);
      sink = subst (λ (r : PairRun). SinkFaultsAfter r (faults c.args.out.now) (faults c.put_run.new.out)) (sym c.came_of.ensures)
          (sink_came c.put_run.result (faults c.args.out.now) (faults c.put_run.new.out) c.put_run.ensures.faults);
      link = link_same c.came_of.result (g.L.Link.faults c.args.way.now) (λ e. no_link_came c.put_run.result (sym c.came_of.ensures ∙ e));
    }

pub cross-requires-clause-stand : goal.cross-requires-clause-stand
cross-requires-clause-stand g c =
    let told = g.K.Sink.told in
    stand_on (Did one script_line.Run) c.args.one.now c.put_run.new.n c.args.two.now c.args.two.now (told c.args.out.now) (told c.put_run.new.out) c.requires.stand
    (run_did c.lines_of_one-first.result c.put_run.result c.args.one.now c.put_run.new.n c.args.two.now (told c.args.out.now) (told c.put_run.new.out)
    c.lines_of_one-first.ensures (sym c.came_of.ensures ∙ c.in-Finished.is) c.put_run.ensures.carries)

pub returns-in_default-cross : goal.returns-in_default-cross
returns-in_default-cross g c =
    let told = g.K.Sink.told in
    let faults = g.K.Sink.faults in
    let links = c.args.unframer.now.links in
    let ran = subst (λ (r : PairRun). SinkFaultsAfter r (faults c.args.out.now) (faults c.put_run.new.out)) (sym c.came_of.ensures ∙ c.in-Finished.is)
    (sink_came c.put_run.result (faults c.args.out.now) (faults c.put_run.new.out) c.put_run.ensures.faults) in
    record {
      plan_one = c.cross.ensures.plan_one ∙ c.put_run.ensures.plan;
      plan_two = c.cross.ensures.plan_two;
      after = c.cross.ensures.after;
      sound_link = c.cross.ensures.sound_link;
      never_fails = c.cross.ensures.never_fails;
      carries = crossing_cut links c.cross.result c.args.one.now c.put_run.new.n c.cross.new.one c.args.two.now c.cross.new.two (told c.args.out.now) (told c.put_run.new.out) (told c.cross.new.out)
          c.in_default-cross.not-Finished
          (run_did c.lines_of_one-first.result c.put_run.result c.args.one.now c.put_run.new.n c.args.two.now (told c.args.out.now) (told c.put_run.new.out)
          c.lines_of_one-first.ensures (sym c.came_of.ensures ∙ c.in-Finished.is) c.put_run.ensures.carries)
          c.cross.ensures.carries;
      sink = sink_then c.cross.result (faults c.args.out.now) (faults c.put_run.new.out) (faults c.cross.new.out) ran c.cross.ensures.sink;
      link = c.cross.ensures.link;
    }

pub returns-clause-carries : goal.returns-clause-carries
returns-clause-carries g c =
    let told = g.K.Sink.told in
    let links = c.args.unframer.now.links in
    subst (λ (r : PairRun). CarryBoth (Makes links script_line.Run) r c.args.one.now c.cross.new.one c.args.two.now c.put_run-2.new.n (told c.args.out.now) (told c.put_run-2.new.out))
    (sym c.came_of-2.ensures)
    (runs_both c.lines_of_two-second.result links c.put_run-2.result c.args.one.now c.put_run.new.n c.cross.new.one c.args.two.now c.cross.new.two c.put_run-2.new.n
    (told c.args.out.now) (told c.put_run.new.out) (told c.cross.new.out) (told c.put_run-2.new.out) c.lines_of_two-second.ensures
    (run_did c.lines_of_one-first.result c.put_run.result c.args.one.now c.put_run.new.n c.args.two.now (told c.args.out.now) (told c.put_run.new.out)
    c.lines_of_one-first.ensures (sym c.came_of.ensures ∙ c.in-Finished.is) c.put_run.ensures.carries)
    c.in-Finished-cross.ensures.carries c.put_run-2.ensures.carries)
