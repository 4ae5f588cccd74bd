use Rattle.std.proofs.Common.{[], inl, inr, refl}
use Rattle.bus_semantics.specs.Plan.{plan_of}
use Rattle.rte_program.proofs.Ran as by
use Rattle.rte_program.proofs.run.run_node.Goals as goal

pub run_script-requires-clause-fits : goal.run_script-requires-clause-fits
run_script-requires-clause-fits g c κs within =
    c.scripts_are_carriable.ensures (plan_of c.args.node.now.plan) c.requires.scripted.0 c.args.script.now.lines c.requires.scripted.1

pub returns-in-Finished : goal.returns-in-Finished
returns-in-Finished g c = inl (
  refl,
  c.in-Finished.ensures.faults,
  by.ran c.runs_from_nothing_are_runs.ensures (plan_of c.args.node.now.plan) c.args.node.now.mapping c.args.script.now.lines c.run_script.new.n
      (g.K.Sink.told c.args.out.now) (g.K.Sink.told c.run_script.new.out) (c.in-Finished.ensures.finished refl [] c.requires.lawful),
)

pub returns-in-Failed : goal.returns-in-Failed
returns-in-Failed g c = inr (inl (
  refl,
  c.in-Failed.ensures.faults,
  by.began c.runs_from_nothing_are_runs.ensures (plan_of c.args.node.now.plan) c.args.node.now.mapping c.args.script.now.lines
      (g.K.Sink.told c.args.out.now) (g.K.Sink.told c.run_script.new.out) (c.in-Failed.ensures.cut (λ e. absurd cc) [] c.requires.lawful),
))

pub returns-in-Memory : goal.returns-in-Memory
returns-in-Memory g c = inr (inr (
  refl,
  c.in-Memory.ensures.faults,
  inr (by.began c.runs_from_nothing_are_runs.ensures (plan_of c.args.node.now.plan) c.args.node.now.mapping c.args.script.now.lines
      (g.K.Sink.told c.args.out.now) (g.K.Sink.told c.run_script.new.out) (c.in-Memory.ensures.cut (λ e. absurd cc) [] c.requires.lawful)),
))
