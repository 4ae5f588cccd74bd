use Rattle.std.proofs.Common.{List, ℕ, refl, subst}
use Rattle.rte_text.specs.Sinks.{AppendsPrefixWhereTold, AppendsWhereTold}
use Rattle.bus_semantics.specs.Plan.{plan_of}
use Rattle.core_lanes.specs.After.{after}
use Rattle.feed_queue.specs.Passes.{order_of}
use Rattle.live_node.specs.Printing.{served_text}
use Rattle.live_node.proofs.Texts as by
use Rattle.live_node.proofs.printing.put_live.Goals as goal

pub returns-in-Done-clause-finished : goal.returns-in-Done-clause-finished
returns-in-Done-clause-finished g c = λ is h lawful.
    let told = g.K.Sink.told in
    let n = c.args.report.node in
    let put = subst (λ (o : List ℕ). AppendsWhereTold (told c.args.out.now) (told c.put_served.new.out) (served_text (plan_of n.plan) o n.entries)) c.order.ensures c.in-Done.ensures.told in
    by.ran c.plain.result c.plain.ensures.version c.plain.ensures.prefix (plan_of n.plan) n.mapping h (order_of c.args.report.pump) n.entries (told c.args.out.now) (told c.put_served.new.out) (told c.run_line-run.new.out) put
    c.run_line-run.new.n lawful.legal (c.in-Done.ensures.sized refl) (c.run_line-run.ensures.finished is (after n.entries h) lawful)

pub returns-in-Done-clause-cut : goal.returns-in-Done-clause-cut
returns-in-Done-clause-cut g c = λ is h lawful.
    let told = g.K.Sink.told in
    let n = c.args.report.node in
    let put = subst (λ (o : List ℕ). AppendsWhereTold (told c.args.out.now) (told c.put_served.new.out) (served_text (plan_of n.plan) o n.entries)) c.order.ensures c.in-Done.ensures.told in
    by.began c.plain.result c.plain.ensures.version c.plain.ensures.prefix (plan_of n.plan) n.mapping h (order_of c.args.report.pump) n.entries (told c.args.out.now) (told c.put_served.new.out) (told c.run_line-run.new.out) put
    (c.run_line-run.ensures.cut is (after n.entries h) lawful)

pub returns-in-Failed-clause-cut : goal.returns-in-Failed-clause-cut
returns-in-Failed-clause-cut g c = λ is h lawful.
    let told = g.K.Sink.told in
    let n = c.args.report.node in
    by.not_begun (plan_of n.plan) n.mapping h (order_of c.args.report.pump) n.entries (told c.args.out.now) (told c.put_served.new.out)
    (subst (λ (o : List ℕ). AppendsPrefixWhereTold (told c.args.out.now) (told c.put_served.new.out) (served_text (plan_of n.plan) o n.entries)) c.order.ensures c.in-Failed.ensures.told)
