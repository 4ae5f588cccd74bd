use Rattle.std.proofs.Common.{◌+◌, ◌==◌, sym, subst, take, map}
use Rattle.std.proofs.lemmas.Bool.{eq-eqb, ne_eqb}
use Rattle.std.specs.Prelude.{filter}
use Rattle.bus_semantics.specs.declared.script.Task.{Task}
use Rattle.task_slots.specs.Slots.{of_task}
use Rattle.core_turn.specs.Made.{AreNew}
use Rattle.core_turn.proofs.Made.{taken_on, left_out}
use Rattle.core_turn.proofs.making.slots_of_tasks.Goals as goal
use Rattle.core_turn.proofs.making.slots_of_tasks.Goals.{then-task-number+in_ok-slot+in_ok-push, else-task-number}

pub loop-task-preserved : goal.loop-task-preserved
loop-task-preserved c =
    elim c.if-task-number.branch [
      | then-task-number+in_ok-slot+in_ok-push w ↦
          subst (λ (v : _). AreNew c.args.t.now (map (λ (x : Task). of_task x.events) (filter (λ (x : Task). x.core == c.args.number) (take (c.loop-task.task-index + 1) c.items-task-items.result.now))) v.items) (sym w.slots-is)
          (subst (AreNew c.args.t.now (map (λ (x : Task). of_task x.events) (filter (λ (x : Task). x.core == c.args.number) (take (c.loop-task.task-index + 1) c.items-task-items.result.now)))) (sym w.in_ok-push.ensures.items)
          (taken_on c.args.t.now c.args.number c.items-task-items.result.now c.loop-task.slots.items c.loop-task.task-index c.task-item.result c.loop-task-test.true c.task-item.is _
          (eq-eqb _ _ w.if-task-number.true) c.loop-task.invariant w.in_ok-slot.ensures))
      | else-task-number w ↦
          subst (λ (v : _). AreNew c.args.t.now (map (λ (x : Task). of_task x.events) (filter (λ (x : Task). x.core == c.args.number) (take (c.loop-task.task-index + 1) c.items-task-items.result.now))) v.items) (sym w.slots-is)
          (left_out c.args.t.now c.args.number c.items-task-items.result.now c.loop-task.slots.items c.loop-task.task-index c.task-item.result c.loop-task-test.true c.task-item.is
          (ne_eqb _ _ w.if-task-number.false) c.loop-task.invariant)
    ]
