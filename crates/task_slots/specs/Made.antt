-- New slots of tasks, in which nothing runs.
use Rattle.std.specs.Prelude.{◌≡◌, ℕ, List}
use Rattle.task_machine.specs.declared.instr.TaskSet.{TaskSet}
use Rattle.task_machine.specs.Frames.{IsMadeFor}
use Rattle.task_slots.specs.declared.slot.TaskSlot.{TaskSlot}
use Rattle.task_slots.specs.declared.slot.Activity.TheVariants.{Free}

-- a slot of a task with these events
pub record IsNew (t : TaskSet) (events : List ℕ) (s : TaskSlot) : Type 0 where
  pub listed : s.events.items ≡ events
  pub free : s.activity ≡ Free
  pub made : IsMadeFor t s.frame
  pub made_inner : IsMadeFor t s.inner
