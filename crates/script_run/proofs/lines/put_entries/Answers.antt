use Rattle.std.proofs.Common.{◌∙◌}
use Rattle.bus_semantics.specs.Plan.{plan_of}
use Rattle.script_run.proofs.EntryTexts.{texts_cut, texts_more}
use Rattle.script_run.proofs.lines.put_entries.Goals as goal

pub returns-in-Failed-clause-told : goal.returns-in-Failed-clause-told
returns-in-Failed-clause-told g c =
    texts_cut c.args.w (plan_of c.args.p.now) c.args.entries.now c.loop-stamped.stamped-index c.stamped-item.result (g.K.Sink.told c.args.out.now)
    c.loop-stamped-test.true c.stamped-item.is c.loop-stamped.invariant.told c.in-Failed.ensures.told

pub loop-stamped-preserved : goal.loop-stamped-preserved
loop-stamped-preserved g c = let told = g.K.Sink.told in record {
  told = texts_more c.args.w (plan_of c.args.p.now) c.args.entries.now c.loop-stamped.stamped-index c.stamped-item.result
      (told c.args.out.now) (told c.loop-stamped.out) (told c.put_entry.new.out)
      c.loop-stamped-test.true c.stamped-item.is c.loop-stamped.invariant.told c.in-Done.ensures.told;
  faults = c.in-Done.ensures.faults ∙ c.loop-stamped.invariant.faults;
}
