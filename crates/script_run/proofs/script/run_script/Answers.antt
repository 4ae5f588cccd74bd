use Rattle.std.proofs.Common.{List, subst}
use Rattle.rte_text.specs.Sinks.{AppendsWhereTold}
use Rattle.bus_semantics.specs.declared.script.Line.{Line}
use Rattle.bus_semantics.specs.Common.{plan_of, IsSound, orders_of_script}
use Rattle.script_run.specs.Standing.{Carries, outside}
use Rattle.script_run.proofs.Sessions as by
use Rattle.script_run.proofs.script.run_script.Goals as goal

pub returns-in-Done-clause-finished : goal.returns-in-Done-clause-finished
returns-in-Done-clause-finished g c = λ is h lawful.
    let told = g.K.Sink.told in
    let ran = subst (λ (ls : List Line). Carries c.plain-w.result c.put_lines.result (orders_of_script ls) outside outside c.args.n.now c.put_lines.new.n (told c.put.new.self) (told c.put_lines.new.out))
    c.items.ensures c.put_lines.ensures.carries in
    by.prints c.args.v c.plain-w.result (plan_of c.args.n.now.plan) c.args.n.now.mapping h c.args.s.now.lines c.put_lines.new.n (told c.args.out.now) (told c.put.new.self) (told c.put_lines.new.out)
    c.plain-w.ensures.version c.plain-w.ensures.prefix (subst (AppendsWhereTold (told c.args.out.now) (told c.put.new.self)) c.header.ensures c.in-Done.ensures.told)
    (by.ends c.plain-w.result c.put_lines.result c.args.s.now.lines c.args.n.now c.put_lines.new.n (told c.put.new.self) (told c.put_lines.new.out) ran c.no_history_stalls.ensures.quiet
    (subst (λ (q : _). IsSound (plan_of q) c.args.n.now.mapping) c.plan-plan.ensures.plan c.plan-plan.ensures.sound) is h lawful)

pub returns-in-Done-clause-cut : goal.returns-in-Done-clause-cut
returns-in-Done-clause-cut g c = λ is h lawful.
    let told = g.K.Sink.told in
    let ran = subst (λ (ls : List Line). Carries c.plain-w.result c.put_lines.result (orders_of_script ls) outside outside c.args.n.now c.put_lines.new.n (told c.put.new.self) (told c.put_lines.new.out))
    c.items.ensures c.put_lines.ensures.carries in
    by.prints_first c.args.v c.plain-w.result (plan_of c.args.n.now.plan) c.args.n.now.mapping h c.args.s.now.lines (told c.args.out.now) (told c.put.new.self) (told c.put_lines.new.out)
    c.plain-w.ensures.version c.plain-w.ensures.prefix (subst (AppendsWhereTold (told c.args.out.now) (told c.put.new.self)) c.header.ensures c.in-Done.ensures.told)
    (by.is_cut c.plain-w.result c.put_lines.result c.args.s.now.lines c.args.n.now c.put_lines.new.n (told c.put.new.self) (told c.put_lines.new.out) ran is h lawful)
