-- The texts of parts of a plan: lines, one after the other.
use Rattle.std.specs.Prelude.{ℕ, List, [], ◌++◌, if◌then◌else◌}
use Rattle.bus_semantics.specs.Common.{flat_map, Letters}
use Rattle.plan_definitions.specs.Common.{Description, MappedEvent, Task, Flat, from}
use Rattle.bus_semantics.specs.declared.plan.BusPlan.{BusPlan}
use Rattle.bus_semantics.specs.declared.plan.EventPlan.{EventPlan}
use Rattle.plan_text.specs.Lines.{direct_line, event_line, invokes_directly, mapped_in, task_line}

-- a task, and then these mapped events
abbrev pub task_text : Task → List MappedEvent → Letters
task_text t events = task_line t ++ flat_map (event_line t) events

abbrev pub task_at : Description → ℕ → Task → Letters
task_at d n t = task_text t (mapped_in d n)

abbrev pub tasks_text : Description → Letters
tasks_text d = from 0 (task_at d) d.mapping.tasks

-- the line of an event, if it is one of a direct server
abbrev pub direct_text : Flat → BusPlan → EventPlan → Letters
direct_text f p e = if invokes_directly p e.kind then direct_line f p e else []
