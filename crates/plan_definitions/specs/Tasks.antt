-- The mapping: tasks on cores, each with its events by position (SWS_RTE: RteEventToTaskMapping).
use Rattle.std.specs.Prelude.{ℕ, List, [], ◌∷◌, map, filter, Bool, nat_eq}
use Rattle.bus_semantics.specs.Common.{flat_map, option_map_or}
use Rattle.description_types.specs.declared.description.Description.{Description}
use Rattle.description_types.specs.declared.description.MappedEvent.{MappedEvent}
use Rattle.description_types.specs.declared.description.Task as declared_task
use Rattle.description_types.specs.declared.flat.Flat.{Flat}
use Rattle.bus_semantics.specs.declared.script.Mapping.{Mapping}
use Rattle.bus_semantics.specs.declared.script.Task.{Task}
use Rattle.plan_definitions.specs.Lists.{from}
use Rattle.plan_definitions.specs.Parts.{events_of}
use Rattle.plan_definitions.specs.Keys.{pair_number}
use Rattle.plan_definitions.specs.Mapped.{is_mapped, named_by}
use Rattle.plan_definitions.specs.Sorting.{in_order}

-- in the order of their positions, which are distinct in one task
abbrev pub by_position : List MappedEvent → List MappedEvent
by_position xs = in_order (λ x. x.position) xs

abbrev pub number_of : Description → Flat → MappedEvent → List ℕ
number_of d f x = option_map_or (λ e. pair_number (events_of d f) e ∷ []) (named_by d f x) []

abbrev pub events_in : Description → Flat → ℕ → List ℕ
events_in d f t = flat_map (number_of d f) (by_position (filter (λ x. nat_eq t x.task) d.mapping.events))

abbrev pub task_at : Description → Flat → ℕ → declared_task.Task → Task
task_at d f t task = record { name = task.short_name; core = task.core; events = events_in d f t }

abbrev pub mapping_of : Description → Flat → Mapping
mapping_of d f = record {
  cores = d.mapping.cores;
  tasks = from 0 (λ t (task : declared_task.Task). task_at d f t task ∷ []) d.mapping.tasks;
}

-- which of the numbered events are mapped
abbrev pub are_mapped : Description → Flat → List Bool
are_mapped d f = map (is_mapped d f) (events_of d f)
