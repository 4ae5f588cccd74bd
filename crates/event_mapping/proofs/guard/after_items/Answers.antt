use Rattle.std.proofs.Common.{◌-◌, ◌∙◌, ap, map, slice_get, sum_by, None}
use Rattle.std.specs.Option.{unwrap_or}
use Rattle.event_mapping.specs.Guard.{at_most, items_in, items_of_instance, items_of_ports}
use Rattle.plan_definitions.specs.Sites.{root_ports}
use Rattle.event_mapping.proofs.Spending.{instances_spent, two_spent}
use Rattle.event_mapping.proofs.guard.after_items.Goals as goal

pub returns : goal.returns
returns c = two_spent c.args.most (sum_by (items_of_instance c.args.d.now) c.args.f.now.instances) (items_of_ports c.args.d.now.types None (root_ports c.args.d.now)) c.after_instances-inner.result c.after_ports-left.result
    (instances_spent c.args.d.now c.args.most (items_in c.args.d.now.types) c.as_slice.result.now
    (c.as_slice.ensures.value ∙ c.in_ok-counts.ensures ∙ ap (map (at_most c.args.most (items_in c.args.d.now.types))) c.items.ensures)
    c.args.f.now.instances c.after_instances-inner.result
    (c.after_instances-inner.ensures ∙ ap (λ xs. c.args.most - sum_by (λ x. unwrap_or (slice_get c.as_slice.result.now x.component) 0) xs) c.items-2.ensures))
    (c.after_ports-left.ensures ∙ ap (λ ps. c.after_instances-inner.result - items_of_ports c.args.d.now.types None ps) c.root_ports.ensures)
