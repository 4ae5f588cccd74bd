-- The coherent access lists of instances, and the bundles that these make of groups. Both are this project's own.
use Rattle.std.specs.Prelude.{ℕ, List, [], ◌∷◌, map, length, slice_get, Bool, true, false, Option, Some, option_and_then}
use Rattle.bus_semantics.specs.Common.{flat_map, option_map_or, leaders_by}
use Rattle.description_types.specs.declared.component.ItemPair.{ItemPair}
use Rattle.description_types.specs.declared.component.Port.{Port}
use Rattle.description_types.specs.declared.component.PortKind.{PortKind}
use Rattle.description_types.specs.declared.component.PortKind.TheVariants.{Provided, Required}
use Rattle.description_types.specs.declared.component.Runnable.{Runnable}
use Rattle.description_types.specs.declared.description.Description.{Description}
use Rattle.description_types.specs.declared.flat.Flat.{Flat}
use Rattle.bus_semantics.specs.declared.plan.CoherentList.{CoherentList}
use Rattle.plan_definitions.specs.Elements.{Elem, elements, leaders}
use Rattle.plan_definitions.specs.ElementGroups.{all_members, group_number, groups}
use Rattle.plan_definitions.specs.Lists.{from}
use Rattle.plan_definitions.specs.Parts.{component_of, runnables_of}
use Rattle.plan_definitions.specs.Ports.{port_of}
use Rattle.plan_definitions.specs.Things.{element_number}

-- ---- lists, by instance, by runnable and in declared order

-- a runnable of an instance, by its position in the component
abbrev pub runnable_at : Description → Flat → ℕ × ℕ → Option Runnable
runnable_at d f x = option_and_then (λ c. slice_get c.behavior.runnables x.1) (component_of d f x.0)

abbrev pub is_required : PortKind → Bool
is_required Provided = false
is_required Required = true

-- a list is of reads if its first item is of an R-port
abbrev pub reads : Description → Flat → (i : ℕ) → List ItemPair → Bool
reads d f i [] = false
reads d f i (x ∷ more) = option_map_or (λ (port : Port). is_required port.kind) (port_of d f (Some i) x.port) false

abbrev pub element_at : Description → Flat → (i : ℕ) → ItemPair → ℕ
element_at d f i x = element_number d f i (Some x.port) x.item

abbrev pub list_of : Description → Flat → (number : ℕ) → (i : ℕ) → List ItemPair → CoherentList
list_of d f n i pairs = record { runnable = n; elems = map (element_at d f i) pairs; reads = reads d f i pairs }

abbrev pub lists_at : Description → Flat → (number : ℕ) → ℕ × ℕ → List CoherentList
lists_at d f n x = option_map_or (λ (r : Runnable). map (list_of d f n x.0) r.coherent) (runnable_at d f x) []

abbrev pub lists : Description → Flat → List CoherentList
lists d f = from 0 (lists_at d f) (runnables_of d f)

-- the numbers of the lists of each runnable
abbrev pub list_numbers : Description → Flat → List (List ℕ)
list_numbers d f = all_members (length (runnables_of d f)) (map (λ (c : CoherentList). c.runnable) (lists d f))

-- ---- bundles: groups that lists connect; any other group is a bundle by itself

-- the groups of the elements of a list
abbrev pub group_at : List Elem → ℕ → List ℕ
group_at es x = option_map_or (λ (e : Elem). e.group ∷ []) (slice_get es x) []

abbrev pub groups_listed : List Elem → CoherentList → List ℕ
groups_listed es c = flat_map (group_at es) c.elems

-- the least group in the bundle of each group
abbrev pub bundle_leaders : Description → Flat → List ℕ
bundle_leaders d f = leaders_by (length (groups (leaders d f))) (map (groups_listed (elements d f)) (lists d f))

abbrev pub homes : Description → Flat → List ℕ
homes d f = map (group_number (bundle_leaders d f)) (bundle_leaders d f)

abbrev pub bundles : Description → Flat → List (List ℕ)
bundles d f = groups (bundle_leaders d f)
