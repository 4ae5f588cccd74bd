-- The names that proofs and the crates above cite, passed on from one place. Declares nothing.
pub use Rattle.task_slots.specs.Direct.{call_at, call_in}
pub use Rattle.task_slots.specs.Look.{Contended, Look, Made, Nothing, look_of}
pub use Rattle.task_slots.specs.Looking.{AllHeld, EntryOf, IsAlone, IsEntryOf, IsFree, IsStartBy, IsTried, Looked, ObjectsLooked, StartBy, event_for, looks_at}
pub use Rattle.task_slots.specs.Ready.{IsActive, IsAsking, IsBegun, IsCalled, IsRunning, IsServing, is_answered, may_be_mapped}
pub use Rattle.task_slots.specs.Slots.{is_key_of, looks_of, tries_of, waits}
pub use Rattle.task_slots.specs.Standing.{StandsFor, TaskStands}
pub use Rattle.task_slots.specs.Stepping.{Fed, IsApart, SlotLooked, noting_of}
pub use Rattle.task_slots.specs.Waiting.{EventsHeld, event_looks, sum_below}
pub use Rattle.task_slots.specs.declared.slot.Activity.{Activity}
pub use Rattle.task_slots.specs.declared.slot.Activity.TheVariants.{Calls, Free, Runs, Serves}
pub use Rattle.task_slots.specs.declared.slot.Call.{Call}
