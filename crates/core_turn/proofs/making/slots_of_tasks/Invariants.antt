use Rattle.std.proofs.Common.{take, map, ◌==◌}
use Rattle.std.specs.Prelude.{filter}
use Rattle.bus_semantics.specs.declared.script.Task.{Task}
use Rattle.task_slots.specs.Slots.{of_task}
use Rattle.core_turn.specs.Made.{AreNew}
use Rattle.core_turn.proofs.making.slots_of_tasks.Given as goal

abbrev pub invariant-loop-task : goal.invariant-loop-task
invariant-loop-task l = AreNew l.t (map (λ (x : Task). of_task x.events) (filter (λ (x : Task). x.core == l.number) (take l.task-index l.task-items))) l.slots.items
