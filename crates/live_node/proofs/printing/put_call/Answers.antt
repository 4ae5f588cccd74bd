use Rattle.std.proofs.Common.{List, ℕ, subst}
use Rattle.rte_text.specs.Sinks.{ToldAfter}
use Rattle.rte_text.specs.Told.{prefix_first, told_after}
use Rattle.bus_semantics.specs.declared.version.Version.TheVariants.{Two}
use Rattle.bus_semantics.specs.Common.{plan_of, entry_text}
use Rattle.live_node.specs.Printing.{feed_mark}
use Rattle.live_node.proofs.Texts.{plain_entry}
use Rattle.live_node.proofs.printing.put_call.Goals as goal

pub returns-in-Done-clause-told : goal.returns-in-Done-clause-told
returns-in-Done-clause-told g c =
    let told = g.K.Sink.told in
    let p = plan_of c.args.p.now in
    let e = c.args.call.now in
    let w = c.plain.result in
    told_after c.put_entry.result (told c.args.out.now) (told c.put_mark.new.out) (told c.put_entry.new.out) (feed_mark c.args.order.now) (entry_text Two p e) c.in-Done.ensures.told
    (subst (λ (t : List ℕ). ToldAfter c.put_entry.result (told c.put_mark.new.out) (told c.put_entry.new.out) t) (plain_entry w p e c.plain.ensures.version c.plain.ensures.prefix) c.put_entry.ensures.told)

pub returns-in-Failed-clause-told : goal.returns-in-Failed-clause-told
returns-in-Failed-clause-told g c = prefix_first (entry_text Two (plan_of c.args.p.now) c.args.call.now) c.in-Failed.ensures.told
