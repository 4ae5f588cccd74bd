-- What a small value is read as is a description: its programs lie somewhere.
use Rattle.std.proofs.Common.{◌≡◌, ◌^◌, ◌≤◌, List, [], ◌∷◌, map, codes, slice_get, unwrap_or, refl, ap, ◌∙◌, arith}
use Rattle.serde_json.specs.Data.{Data, null}
use Rattle.serde_json.specs.Find.{get}
use Rattle.bus_semantics.specs.Common.{Program, program_tree}
use Rattle.plan_definitions.specs.Common.{Component, Runnable, Description}
use Rattle.declared_names.specs.declared.in_component.ComponentNames.{ComponentNames}
use Rattle.declared_names.specs.declared.scopes.InterfaceNames.{InterfaceNames}
use Rattle.declared_names.specs.declared.scopes.Scope.{Scope}
use Rattle.declared_names.specs.Components.{component_names}
use Rattle.declared_names.specs.Names.{Names, position_in}
use Rattle.declared_names.specs.Scopes.{scope_of}
use Rattle.declared_names.specs.Sizes.{sizes, IsSmall}
use Rattle.declared_names.specs.Values.{items_at, text_at}
use Rattle.declared_names.proofs.Sizes.{at_small, value_small}
use Rattle.component_model.specs.Descriptions.{DescriptionTree, description_of, reading}
use Rattle.component_model.specs.Programs.{ComponentTree, RunnableTree, behavior_in, component_reading, component_tree, first_names, invoked_events, runnable_names, runnable_reading, runnable_tree}
use Rattle.outcome_laws.proofs.Programs.{program_for}
use Rattle.outcome_laws.proofs.Short.{program_short}
use Rattle.outcome_laws.proofs.Values.{arc_of}

-- each item of a list of small values
module _ {X Y : Type 0} (view : X → Y) (read : Data → Y) (each : (d : Data) → IsSmall d → (x : X) × (view x ≡ read d)) where
  all_of : (ds : List Data) → sizes ds ≤ 2 ^ 22 → (xs : List X) × (map view xs ≡ map read ds)
  all_of [] small = ([], refl)
  all_of (d ∷ ds) small =
      let one : IsSmall d = record { few = omega (arith, small) } in
      let rest : sizes ds ≤ 2 ^ 22 = omega (arith, small) in
      ((each d one).0 ∷ (all_of ds rest).0, λ i. (each d one).1 i ∷ (all_of ds rest).1 i)

nothing_small : IsSmall null
nothing_small = record { few = omega arith }

with_program : (t : RunnableTree) → (p : Program) × (program_tree p ≡ t.program) → (r : Runnable) × (runnable_tree r ≡ t)
with_program t (p, is) = let (a, holds) = arc_of p in (
  record { short_name = t.short_name; can_be_invoked_concurrently = t.can_be_invoked_concurrently; accesses = t.accesses; coherent = t.coherent; program = a },
  λ i. record t { program = (ap program_tree holds ∙ is) i },
)

module _ (interfaces : InterfaceNames) (names : ComponentNames) (events : List Data) (servers : Names) where
  runnable_for : (d : Data) → IsSmall d → (r : Runnable) × (runnable_tree r ≡ runnable_reading interfaces names events servers d)
  runnable_for d small = with_program (runnable_reading interfaces names events servers d)
      (program_for (runnable_reading interfaces names events servers d).program
      (program_short interfaces names (first_names interfaces names (slice_get events (position_in servers (text_at (codes "shortName") d)))) (unwrap_or (get (codes "program") d) null)
      (value_small (codes "program") d null (unwrap_or (get (codes "program") d) null) refl small nothing_small)))

  runnables_for : (b : Data) → IsSmall b → (rs : List Runnable) × (map runnable_tree rs ≡ map (runnable_reading interfaces names events servers) (items_at (codes "runnables") b))
  runnables_for b small = all_of runnable_tree (runnable_reading interfaces names events servers) runnable_for (items_at (codes "runnables") b) (at_small (codes "runnables") b (items_at (codes "runnables") b) refl small).few

with_runnables : (t : ComponentTree) → (rs : List Runnable) × (map runnable_tree rs ≡ t.behavior.runnables) → (c : Component) × (component_tree c ≡ t)
with_runnables t (rs, are) = (
  record { short_name = t.short_name; ports = t.ports; behavior = record { exclusive_areas = t.behavior.exclusive_areas; variables = t.behavior.variables; runnables = rs; events = t.behavior.events } },
  λ i. record t { behavior = record { exclusive_areas = t.behavior.exclusive_areas; variables = t.behavior.variables; runnables = are i; events = t.behavior.events } },
)

component_for : (scope : Scope) (d : Data) → IsSmall d → (c : Component) × (component_tree c ≡ component_reading scope d)
component_for scope d small = with_runnables (component_reading scope d)
    (runnables_for scope.interfaces (component_names scope.interfaces d (behavior_in d)) (invoked_events (behavior_in d)) (runnable_names (invoked_events (behavior_in d))) (behavior_in d)
    (value_small (codes "behavior") d null (behavior_in d) refl small nothing_small))

with_components : (t : DescriptionTree) → (cs : List Component) × (map component_tree cs ≡ t.components) → (d : Description) × (description_of d ≡ t)
with_components t (cs, are) = (record { types = t.types; components = cs; compositions = t.compositions; root = t.root; mapping = t.mapping }, λ i. record t { components = are i })

pub description_for : (value : Data) → IsSmall value → (d : Description) × (description_of d ≡ reading value)
description_for value small = with_components (reading value)
    (all_of component_tree (component_reading (scope_of value)) (component_for (scope_of value)) (items_at (codes "components") value) (at_small (codes "components") value (items_at (codes "components") value) refl small).few)
