use Rattle.std.proofs.Common.{subst, sym}
use Rattle.bus_semantics.specs.declared.plan.BusPlan.{BusPlan}
use Rattle.bus_semantics.specs.declared.script.Mapping.{Mapping}
use Rattle.bus_semantics.specs.Plan.{plan_of}
use Rattle.script_reading.specs.Reading.{IsScript}
use Rattle.rte_program.specs.Running.{IsRun}
use Rattle.rte_program.proofs.run.run_prepared.Goals as goal

pub run_node-status-requires-clause-scripted : goal.run_node-status-requires-clause-scripted
run_node-status-requires-clause-scripted g c κs within =
    let script = c.requires.ready.1 in
    (script, subst (λ (p : BusPlan). IsScript (plan_of p) script c.args.prepared.script.lines) (sym c.in-Ok.ensures.plan) c.requires.ready.2.scripted)

pub returns-in-Ok : goal.returns-in-Ok
returns-in-Ok g c =
    let lines = c.args.prepared.script.lines in
    let answer = c.run_node-status.result in
    let before = g.K.Sink.told c.args.out.now in
    let after = g.K.Sink.told c.run_node-status.new.out in
    let f = g.K.Sink.faults c.args.out.now in
    let h = g.K.Sink.faults c.run_node-status.new.out in
    subst (λ (p : BusPlan). IsRun (plan_of p) c.args.prepared.found.mapping lines answer before after f h) c.in-Ok.ensures.plan
    (subst (λ (m : Mapping). IsRun (plan_of c.in-Ok.node.plan) m lines answer before after f h) c.in-Ok.ensures.mapping c.run_node-status.ensures)
