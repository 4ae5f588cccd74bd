use Rattle.std.proofs.Common.{◌++◌, List, ℕ, subst}
use Rattle.std.specs.Prelude.{codes}
use Rattle.rte_text.specs.Sinks.{AppendsPrefixWhereTold, AppendsWhereTold}
use Rattle.rte_text.specs.Told.{prefix_after, prefix_first, told_after}
use Rattle.bus_semantics.specs.Plan.{plan_of}
use Rattle.live_node.specs.Printing.{served_lines}
use Rattle.live_node.proofs.Texts as by
use Rattle.live_node.proofs.printing.put_served.Goals as goal

pub returns-in-Failed-clause-told : goal.returns-in-Failed-clause-told
returns-in-Failed-clause-told g c = prefix_first (served_lines (plan_of c.args.n.now.plan) c.args.order.now c.args.n.now.entries ++ codes "stopped\n") c.in-Failed.ensures.told

pub returns-in-Done-put_served_lines-clause-told : goal.returns-in-Done-put_served_lines-clause-told
returns-in-Done-put_served_lines-clause-told g c =
    let told = g.K.Sink.told in
    let lines = served_lines (plan_of c.args.n.now.plan) c.args.order.now c.args.n.now.entries in
    let put = subst (λ (t : List ℕ). AppendsWhereTold (told c.put.new.self) (told c.put_served_lines.new.out) t)
    (by.same_lines c.plan.result.now c.args.n.now.plan c.args.order.now c.entries.result.now c.args.n.now.entries c.plan.ensures.plan c.entries.ensures) c.in-Done-put_served_lines.ensures.told in
    told_after c.put-in-Done-put_served_lines.result (told c.args.out.now) (told c.put.new.self) (told c.put-in-Done-put_served_lines.new.self) (codes "rte-live 1\n") (lines ++ codes "stopped\n") c.in-Done.ensures.told
    (told_after c.put-in-Done-put_served_lines.result (told c.put.new.self) (told c.put_served_lines.new.out) (told c.put-in-Done-put_served_lines.new.self) lines (codes "stopped\n") put c.put-in-Done-put_served_lines.ensures.told)

pub returns-in-Failed-put_served_lines-clause-told : goal.returns-in-Failed-put_served_lines-clause-told
returns-in-Failed-put_served_lines-clause-told g c =
    let told = g.K.Sink.told in
    let lines = served_lines (plan_of c.args.n.now.plan) c.args.order.now c.args.n.now.entries in
    let cut = subst (λ (t : List ℕ). AppendsPrefixWhereTold (told c.put.new.self) (told c.put_served_lines.new.out) t)
    (by.same_lines c.plan.result.now c.args.n.now.plan c.args.order.now c.entries.result.now c.args.n.now.entries c.plan.ensures.plan c.entries.ensures) c.in-Failed-put_served_lines.ensures.told in
    prefix_after (told c.args.out.now) (codes "rte-live 1\n") c.in-Done.ensures.told (prefix_first (codes "stopped\n") cut)
