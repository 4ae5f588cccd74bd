use Rattle.std.proofs.Common.{◌-◌, ◌∙◌}
use Rattle.std.specs.List.{sum_by}
use Rattle.plan_definitions.specs.Common.{elem_seen, received, requested}
use Rattle.event_mapping.proofs.Spending.{three_spent}
use Rattle.event_mapping.proofs.Summing.{sum_seen}
use Rattle.event_mapping.proofs.size.after_queues.Goals as goal

pub returns : goal.returns
returns c = three_spent 65537 _ _ _ _ _ _
    (c.after_received-received.ensures ∙ (λ i. 65537 - ((λ i. sum_by (λ e. received (elem_seen e)) (c.items.ensures i)) ∙ sum_seen elem_seen received c.args.pieces.now.items.elements) i))
    (c.after_requested-requested.ensures ∙ (λ i. c.after_received-received.result - sum_by requested (c.items-2.ensures i)))
    (c.after_switches.ensures ∙ (λ i. c.after_requested-requested.result - sum_by (λ m. m.queue) (c.items-3.ensures i)))
