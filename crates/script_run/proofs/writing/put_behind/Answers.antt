use Rattle.rte_text.specs.Told.{prefix_first, told_after}
use Rattle.script_run.proofs.writing.put_behind.Goals as goal

pub returns-in-Done-clause-told : goal.returns-in-Done-clause-told
returns-in-Done-clause-told g c =
    let told = g.K.Sink.told in
    told_after c.put-in-Done.result (told c.args.out.now) (told c.put-2.new.self) (told c.put-in-Done.new.self) c.args.prefix.now c.args.line.now c.in-Done.ensures.told c.put-in-Done.ensures.told

pub returns-in-Failed-clause-told : goal.returns-in-Failed-clause-told
returns-in-Failed-clause-told g c = prefix_first c.args.line.now c.in-Failed.ensures.told
