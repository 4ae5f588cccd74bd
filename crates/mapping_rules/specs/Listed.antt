-- What is listed of the mapping, to be looked up.
use Rattle.std.specs.Prelude.{ℕ, List, [], ◌∷◌, map, is_none, Option, if◌then◌else◌}
use Rattle.std.specs.Option.{option_map_or}
use Rattle.plan_definitions.specs.Common.{Component, Event, EventKind, OperationInvoked, Description, MappedEvent, End, Flat, Join, from, named_by, tasks_of_event}

-- a mapped event that names one, with its task
abbrev pub task_of : Description → Flat → MappedEvent → List ((ℕ × ℕ) × ℕ)
task_of d f x = option_map_or (λ e. (e, x.task) ∷ []) (named_by d f x) []

-- the runnable that an event of an instance starts, with each task of the event
abbrev pub tasks_at : Description → Flat → ℕ → ℕ → Event → List (ℕ × ℕ)
tasks_at d f i m e = map (λ t. (e.runnable, t)) (tasks_of_event d f (i, m))

-- the operation by which an event is invoked, with its position
abbrev pub invoked_at : ℕ → EventKind → List ((ℕ × ℕ) × ℕ)
invoked_at m (OperationInvoked port operation) = ((port, operation), m) ∷ []
invoked_at m _ = []

abbrev pub invoked_in : Component → List ((ℕ × ℕ) × ℕ)
invoked_in c = from 0 (λ m e. invoked_at m e.kind) c.behavior.events

-- an end as a key; a required end with the provided one; an end that the environment is joined to
abbrev pub triple : End → Option ℕ × ℕ × ℕ
triple e = (e.instance, e.port, e.element)

abbrev pub provided_for : Join → (Option ℕ × ℕ × ℕ) × End
provided_for j = (triple j.required, j.provided)

abbrev pub outside_at : Join → List (Option ℕ × ℕ × ℕ)
outside_at j = if is_none j.required.instance then triple j.provided ∷ [] else []
