use Rattle.std.proofs.Common.{[], sym, ◌∙◌, ap, subst}
use Rattle.bus_semantics.specs.Plan.{plan_of}
use Rattle.data_objects.specs.Kept as groups
use Rattle.data_objects.specs.Layout.{IsUnqueuedGroup}
use Rattle.queue_objects.specs.Kept as queues
use Rattle.queue_objects.specs.Layout.{IsQueuedGroup}
use Rattle.port_objects.specs.Common.{of_group, of_queues, Keeps}
use Rattle.port_objects.proofs.OneGroup.{group_below, queues_open, queues_planned, group_opens, group_planned}
use Rattle.port_objects.proofs.making.make_group.Goals as goal

pub has_queues-requires-clause-within : goal.has_queues-requires-clause-within
has_queues-requires-clause-within c = group_below (plan_of c.args.p.now) c.args.bundle c.group_at-group.result c.requires.one c.group_at-group.ensures c.requires.sound.bundles

pub returns-in_ok-queued-clause-kept : goal.returns-in_ok-queued-clause-kept
returns-in_ok-queued-clause-kept c =
    let p = plan_of c.args.p.now in
    queues_open p c.args.bundle c.group_at-group.result c.requires.one c.group_at-group.ensures c.in_ok-queued.queued.kept c.in_ok-queued.ensures.kept (sym c.if-has_queues.true ∙ c.has_queues.ensures)

pub returns-in_ok-queued-clause-planned : goal.returns-in_ok-queued-clause-planned
returns-in_ok-queued-clause-planned c =
    let p = plan_of c.args.p.now in
    queues_planned p c.args.bundle c.group_at-group.result c.requires.one c.group_at-group.ensures c.in_ok-queued.queued.kept c.in_ok-queued.ensures.planned

pub returns-in_ok-queued-clause-standing : goal.returns-in_ok-queued-clause-standing
returns-in_ok-queued-clause-standing c =
    let p = plan_of c.args.p.now in
    let is = c.group_at-group.ensures in
    record {
      past = tt;
      keeps = subst (λ k. Keeps p c.args.bundle (of_queues k) []) (sym (c.in_ok-queued.ensures.kept ∙ ap (queues.opening p) is))
          (c.first_queues_stand_for_nothing.ensures p c.args.bundle c.requires.one.alone (subst (IsQueuedGroup p) is c.in_ok-queued.ensures.planned.is_group));
    }

pub returns-in_ok-new-clause-kept : goal.returns-in_ok-new-clause-kept
returns-in_ok-new-clause-kept c =
    let p = plan_of c.args.p.now in
    group_opens p c.args.bundle c.group_at-group.result c.requires.one c.group_at-group.ensures c.in_ok-new.field-0.kept c.in_ok-new.ensures.kept (sym c.if-has_queues.false ∙ c.has_queues.ensures)

pub returns-in_ok-new-clause-planned : goal.returns-in_ok-new-clause-planned
returns-in_ok-new-clause-planned c =
    let p = plan_of c.args.p.now in
    group_planned p c.args.bundle c.group_at-group.result c.requires.one c.group_at-group.ensures c.in_ok-new.field-0.kept c.in_ok-new.ensures.planned

pub returns-in_ok-new-clause-standing : goal.returns-in_ok-new-clause-standing
returns-in_ok-new-clause-standing c =
    let p = plan_of c.args.p.now in
    let is = c.group_at-group.ensures in
    record {
      past = tt;
      keeps = subst (λ k. Keeps p c.args.bundle (of_group k) []) (sym (c.in_ok-new.ensures.kept ∙ ap (groups.opening p) is))
          (c.first_group_stands_for_nothing.ensures.object p c.args.bundle c.requires.one.alone (subst (IsUnqueuedGroup p) is c.in_ok-new.ensures.planned.is_group));
    }
