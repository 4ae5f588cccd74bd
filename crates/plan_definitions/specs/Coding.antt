-- What the code of a runnable stands for: its component's runnable, whose program and signature all instances have.
use Rattle.std.specs.Prelude.{◌≡◌, ℕ, List, Option, Some, None, option_map, slice_get}
use Rattle.bus_semantics.specs.Common.{arc_value, option_map_or, program_tree, Coded, coded_of}
use Rattle.bus_semantics.specs.declared.plan.RunnablePlan.{RunnablePlan}
use Rattle.description_types.specs.declared.component.Component.{Component}
use Rattle.description_types.specs.declared.component.Runnable.{Runnable}
use Rattle.description_types.specs.declared.description.Description.{Description}
use Rattle.plan_definitions.specs.Signatures.{signature}

abbrev pub coded_in : Description → Component → Runnable → Coded
coded_in d c r = (program_tree (arc_value r.program), signature d.types c r.accesses)

-- that of the runnable at a place of the component at a place
abbrev pub coded_at : Description → ℕ × ℕ → Option Coded
coded_at d k = option_map_or (λ (c : Component). option_map (coded_in d c) (slice_get c.behavior.runnables k.1)) (slice_get d.components k.0) None

abbrev pub IsCoded : Description → RunnablePlan → Type 0
IsCoded d r = coded_at d r.code ≡ Some (coded_of r)

abbrev pub AreCoded : Description → List RunnablePlan → Type 0
AreCoded d rs = (i : ℕ) (r : RunnablePlan) → slice_get rs i ≡ Some r → IsCoded d r
