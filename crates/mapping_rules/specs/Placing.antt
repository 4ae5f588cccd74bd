-- Mapped events with their positions and numbers.
use Rattle.std.specs.Prelude.{ℕ, List, [], ◌∷◌, nat_eq, Option, option_map}
use Rattle.bus_semantics.specs.Common.{flat_map, option_map_or}
use Rattle.plan_definitions.specs.Common.{Description, MappedEvent, Flat, pair_number, events_of, named_by, in_order}
use Rattle.description_types.specs.declared.description.Task as declared_task
use Rattle.bus_semantics.specs.declared.script.Task.{Task}
use Rattle.mapping_rules.specs.Groups.{values_at}

-- the position in the task, and the number of the event, if it names one
abbrev pub placed_at : Description → Flat → MappedEvent → ℕ × Option ℕ
placed_at d f x = (x.position, option_map (pair_number (events_of d f)) (named_by d f x))

abbrev pub task_entry : Description → Flat → MappedEvent → ℕ × (ℕ × Option ℕ)
task_entry d f x = (x.task, placed_at d f x)

abbrev pub numbers_of : ℕ × Option ℕ → List ℕ
numbers_of p = option_map_or (λ n. n ∷ []) p.1 []

abbrev pub in_task : List (ℕ × Option ℕ) → List ℕ
in_task placed = flat_map numbers_of (in_order (λ p. p.0) placed)

-- a task with the events that have an entry for it
abbrev pub task_with : List (ℕ × (ℕ × Option ℕ)) → ℕ → declared_task.Task → Task
task_with entries t task = record { name = task.short_name; core = task.core; events = in_task (values_at (nat_eq t) entries) }
