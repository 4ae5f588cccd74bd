-- The lines of a plan, which are this project's own: a line for each instance, each join, each mode machine, each task with its mapped
-- events, and each event of a direct server.
use Rattle.std.specs.Prelude.{ℕ, List, [], ◌∷◌, ◌++◌, map, filter, Bool, false, is_none, nat_eq, codes, decimal, slice_get, Option, Some, None}
use Rattle.std.specs.List.{concat}
use Rattle.bus_semantics.specs.Common.{option_map_or, instance_of, plan_of, queue_of, Letters, spaced}
use Rattle.plan_definitions.specs.Common.{Description, MappedEvent, Task, End, Flat, Instance, Join, from, item_text, by_position}
use Rattle.bus_semantics.specs.declared.plan.BusPlan.{BusPlan}
use Rattle.bus_semantics.specs.declared.plan.EventKind.{EventKind}
use Rattle.bus_semantics.specs.declared.plan.EventKind.TheVariants.{Invoked}
use Rattle.bus_semantics.specs.declared.plan.EventPlan.{EventPlan}
use Rattle.bus_semantics.specs.declared.plan.MachinePlan.{MachinePlan}

-- ---- names

-- the path of an instance, and `env` for the environment
abbrev pub owner_text : Flat → Option ℕ → Letters
owner_text f None = codes "env"
owner_text f (Some i) = option_map_or (λ x. x.path) (slice_get f.instances i) []

-- INSTANCE.NAME, and env.NAME
abbrev pub owned_text : Flat → Option ℕ → Letters → Letters
owned_text f owner name = owner_text f owner ++ codes "." ++ name

-- an item of a port: INSTANCE.PORT.ITEM, and env.PORT.ITEM
abbrev pub end_text : Description → Flat → End → Letters
end_text d f e = owned_text f e.instance (item_text d f e.instance e.port e.element)

abbrev pub component_text : Description → ℕ → Letters
component_text d c = option_map_or (λ x. x.short_name) (slice_get d.components c) []

-- ---- one line each

abbrev pub instance_line : Description → Instance → Letters
instance_line d x = codes "instance " ++ x.path ++ spaced (component_text d x.component) ++ codes "\n"

abbrev pub join_line : Description → Flat → Join → Letters
join_line d f j = codes "join " ++ end_text d f j.provided ++ spaced (end_text d f j.required) ++ codes "\n"

abbrev pub machine_line : Flat → MachinePlan → Letters
machine_line f m = codes "machine " ++ owned_text f m.instance m.name ++ codes "\n"

abbrev pub task_line : Task → Letters
task_line t = codes "task " ++ t.short_name ++ codes " core " ++ decimal t.core ++ codes "\n"

abbrev pub event_line : Task → MappedEvent → Letters
event_line t x = codes "event " ++ x.instance ++ codes "." ++ x.event ++ spaced t.short_name ++ spaced (decimal x.position) ++ codes "\n"

abbrev pub direct_line : Flat → BusPlan → EventPlan → Letters
direct_line f p e = codes "direct " ++ owned_text f (instance_of (plan_of p) e.runnable) e.name ++ codes "\n"

-- ---- all of them

-- the mapped events of a task, in the order of their positions
abbrev pub mapped_in : Description → ℕ → List MappedEvent
mapped_in d t = by_position (filter (λ x. nat_eq t x.task) d.mapping.events)

-- a task, and then its mapped events
abbrev pub task_lines : Description → ℕ → Task → List Letters
task_lines d n t = task_line t ∷ map (event_line t) (mapped_in d n)

-- a direct server has no queue, since its OperationInvokedEvent is mapped to no task
abbrev pub invokes_directly : BusPlan → EventKind → Bool
invokes_directly p (Invoked s) = is_none (queue_of (plan_of p) s)
invokes_directly p _ = false

abbrev pub direct_events : BusPlan → List EventPlan
direct_events p = filter (λ e. invokes_directly p e.kind) p.events

abbrev pub plan_lines : Description → Flat → BusPlan → List Letters
plan_lines d f p = map (instance_line d) f.instances ++ map (join_line d f) f.joins ++ map (machine_line f) p.machines
    ++ from 0 (task_lines d) d.mapping.tasks ++ map (direct_line f p) (direct_events p)

-- the text of a plan: its lines, one after the other
abbrev pub plan_text : Description → Flat → BusPlan → Letters
plan_text d f p = concat (plan_lines d f p)
