use Rattle.std.proofs.Common.{All, List, subst, sym}
use Rattle.bus_semantics.specs.Plan.{plan_of}
use Rattle.signal_link.specs.declared.link_elem.LinkElem.{LinkElem}
use Rattle.pair_run.specs.Common.{links_of, IsPairLine}
use Rattle.rte_program.proofs.Paired as by
use Rattle.rte_program.proofs.pair.run_nodes.Goals as goal

pub run_pair-run-requires-clause-script : goal.run_pair-run-requires-clause-script
run_pair-run-requires-clause-script g c κs within =
    let p = plan_of c.args.nodes.one.plan in
    let links = links_of p (plan_of c.args.nodes.two.plan) in
    subst (λ (ls : List LinkElem). All (IsPairLine p ls) c.args.linked.script.lines) (sym c.requires.links)
    (c.pair_scripts_are_pair_lines.ensures p links c.requires.scripted.0 c.args.linked.script.lines c.requires.scripted.1)

pub returns-clause-run : goal.returns-clause-run
returns-clause-run g c =
    by.linked (plan_of c.args.nodes.one.plan) c.args.nodes.one.mapping (plan_of c.args.nodes.two.plan) c.args.nodes.two.mapping c.args.linked.links.items c.requires.links c.args.linked.script.lines
    (g.K.Sink.told c.args.out.now) (g.K.Sink.told c.run_pair-run.new.out) c.run_pair-run.result c.run_pair-run.new.one c.run_pair-run.new.two (g.K.Sink.faults c.args.out.now) (g.K.Sink.faults c.run_pair-run.new.out)
    c.run_pair-run.ensures.finished c.run_pair-run.ensures.cut c.run_pair-run.ensures.sink
