use Rattle.std.proofs.Common.{◌≤◌, subst, sym}
use Rattle.bus_semantics.specs.declared.plan.BusPlan.{BusPlan}
use Rattle.bus_semantics.specs.declared.script.Mapping.{Mapping}
use Rattle.bus_semantics.specs.Plan.{plan_of}
use Rattle.feed_queue.specs.Reading.{AreFeeds}
use Rattle.rte_program.specs.Running.{IsLiveRun}
use Rattle.rte_program.proofs.live.serve_prepared.Goals as goal

pub serve_node-status-requires-clause-cores : goal.serve_node-status-requires-clause-cores
serve_node-status-requires-clause-cores g c κs within = subst (λ (m : Mapping). m.cores ≤ 7) (sym c.in-Ok.ensures.mapping) c.requires.ready.2.few_cores

pub serve_node-status-requires-clause-fed : goal.serve_node-status-requires-clause-fed
serve_node-status-requires-clause-fed g c κs within =
    let stimuli = c.requires.ready.1 in
    (stimuli, subst (λ (p : BusPlan). AreFeeds (plan_of p) stimuli c.args.prepared.feeds) (sym c.in-Ok.ensures.plan) c.requires.ready.2.fed)

pub returns-in-Ok : goal.returns-in-Ok
returns-in-Ok g c =
    let feeds = c.args.prepared.feeds in
    let answer = c.serve_node-status.result in
    let before = g.K.Sink.told c.args.out.now in
    let after = g.K.Sink.told c.serve_node-status.new.out in
    let f = g.K.Sink.faults c.args.out.now in
    let h = g.K.Sink.faults c.serve_node-status.new.out in
    subst (λ (p : BusPlan). IsLiveRun (plan_of p) c.args.prepared.found.mapping feeds answer before after f h) c.in-Ok.ensures.plan
    (subst (λ (m : Mapping). IsLiveRun (plan_of c.in-Ok.node.plan) m feeds answer before after f h) c.in-Ok.ensures.mapping c.serve_node-status.ensures)
