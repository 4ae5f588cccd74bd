use Rattle.std.proofs.Common.{sym, subst, List, None}
use Rattle.bus_semantics.specs.Plan.{plan_of}
use Rattle.core_turn.specs.Cores.{CoreState}
use Rattle.core_runtime.specs.Watching.{IsWatch, HaveSameTasks}
use Rattle.core_runtime.proofs.node.Node.from_parts.Goals as goal

pub wake_all-requires : goal.wake_all-requires
wake_all-requires c =
    let parts = c.requires.parts in (
      plan_of c.args.p.plan,
      c.args.p.tasks,
      parts.past,
      parts.before,
      parts.watched,
      subst (λ (now : List CoreState). HaveSameTasks parts.before now) (sym c.as_slice.ensures.value) parts.tasks,
    )

pub invariant_of-result : goal.invariant_of-result
invariant_of-result c =
    let parts = c.requires.parts in
    let p = plan_of c.args.p.plan in
    let t = c.args.p.tasks in
    let objects = c.args.p.objects.items in
    let tasks_now = subst (λ (now : List CoreState). HaveSameTasks parts.before now) (sym c.as_slice.ensures.value) parts.tasks in (
      parts.node,
      subst (λ (now : List CoreState). IsWatch p t objects None now c.wake_all.new.self) c.as_slice.ensures.value (c.wake_all.ensures p t parts.past objects parts.before parts.watched tasks_now),
    )
