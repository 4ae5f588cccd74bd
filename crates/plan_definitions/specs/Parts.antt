-- What instances have besides the items of their ports: runnables, events and areas, each by its instance and its position in
-- the component.
use Rattle.std.specs.Prelude.{ℕ, List, [], map, length, slice_get, Option, option_and_then}
use Rattle.std.specs.Option.{option_map_or}
use Rattle.description_types.specs.declared.component.Component.{Component}
use Rattle.description_types.specs.declared.description.Description.{Description}
use Rattle.description_types.specs.declared.flat.Flat.{Flat}
use Rattle.description_types.specs.declared.flat.Instance.{Instance}
use Rattle.plan_definitions.specs.declared.part.Part.{Part}
use Rattle.plan_definitions.specs.declared.part.Part.TheVariants.{Runnables, Events, Areas}
use Rattle.plan_definitions.specs.Lists.{from, positions}

-- the component of an instance
abbrev pub component_of : Description → Flat → ℕ → Option Component
component_of d f i = option_and_then (λ x. slice_get d.components x.component) (slice_get f.instances i)

-- what each instance has, in order
abbrev pub of_instances : {X : Type 0} → (ℕ → Component → List X) → Description → Flat → List X
of_instances g d f = from 0 (λ i x. option_map_or (g i) (slice_get d.components x.component) []) f.instances

abbrev pub numbered : ℕ → ℕ → List (ℕ × ℕ)
numbered i count = map (λ n. (i, n)) (positions 0 count)

-- how many of these a component has, and an instance of it
abbrev pub counted : Part → Component → ℕ
counted Runnables c = length c.behavior.runnables
counted Events c = length c.behavior.events
counted Areas c = length c.behavior.exclusive_areas

abbrev pub counted_at : Part → Description → Instance → ℕ
counted_at part d x = option_map_or (counted part) (slice_get d.components x.component) 0

abbrev pub parts_of : Part → Description → Flat → List (ℕ × ℕ)
parts_of part d f = from 0 (λ i x. numbered i (counted_at part d x)) f.instances

abbrev pub runnables_of : Description → Flat → List (ℕ × ℕ)
runnables_of = parts_of Runnables

abbrev pub events_of : Description → Flat → List (ℕ × ℕ)
events_of = parts_of Events

abbrev pub areas_of : Description → Flat → List (ℕ × ℕ)
areas_of = parts_of Areas
