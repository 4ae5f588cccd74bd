use Rattle.std.proofs.Common.{◌<◌, List, length, subst, sym}
use Rattle.bus_semantics.specs.declared.plan.BusPlan.{BusPlan}
use Rattle.bus_semantics.specs.declared.script.Mapping.{Mapping}
use Rattle.bus_semantics.specs.Plan.{plan_of}
use Rattle.script_reading.specs.Reading.{IsScriptBy}
use Rattle.signal_link.specs.declared.link_elem.LinkElem.{LinkElem}
use Rattle.commands.specs.PairCommand.{pair_saying}
use Rattle.rte_program.specs.Running.{IsLinkedRun}
use Rattle.rte_program.proofs.pair.run_linked.Goals as goal

pub run_nodes-requires-clause-some : goal.run_nodes-requires-clause-some
run_nodes-requires-clause-some g c κs within = subst (λ (ls : List LinkElem). 0 < length ls) (sym c.requires.links) c.requires.ready.3.linked

pub run_nodes-requires-clause-scripted : goal.run_nodes-requires-clause-scripted
run_nodes-requires-clause-scripted g c κs within =
    let script = c.requires.ready.2 in
    let lines = c.args.prepared.linked.script.lines in (
      script,
      subst (λ (p : BusPlan). IsScriptBy (pair_saying (plan_of p) (plan_of c.in-Ok.nodes.two.plan)) script lines) (sym c.in-Ok.ensures.plan_one)
          (subst (λ (q : BusPlan). IsScriptBy (pair_saying (plan_of c.args.prepared.nodes.one.plan) (plan_of q)) script lines) (sym c.in-Ok.ensures.plan_two) c.requires.ready.3.scripted),
    )

pub returns-in-Ok-clause-run : goal.returns-in-Ok-clause-run
returns-in-Ok-clause-run g c =
    let lines = c.args.prepared.linked.script.lines in
    let answer = c.run_nodes.result in
    let before = g.K.Sink.told c.args.out.now in
    let after = g.K.Sink.told c.run_nodes.new.out in
    let f = g.K.Sink.faults c.args.out.now in
    let h = g.K.Sink.faults c.run_nodes.new.out in
    let x = c.in-Ok.nodes in
    let y = c.args.prepared.nodes in
    subst (λ (p : BusPlan). IsLinkedRun (plan_of p) y.one.mapping (plan_of y.two.plan) y.two.mapping lines answer before after f h) c.in-Ok.ensures.plan_one
    (subst (λ (m : Mapping). IsLinkedRun (plan_of x.one.plan) m (plan_of y.two.plan) y.two.mapping lines answer before after f h) c.in-Ok.ensures.mapping_one
    (subst (λ (q : BusPlan). IsLinkedRun (plan_of x.one.plan) x.one.mapping (plan_of q) y.two.mapping lines answer before after f h) c.in-Ok.ensures.plan_two
    (subst (λ (n : Mapping). IsLinkedRun (plan_of x.one.plan) x.one.mapping (plan_of x.two.plan) n lines answer before after f h) c.in-Ok.ensures.mapping_two c.run_nodes.ensures.run)))
