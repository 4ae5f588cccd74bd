-- What has a name in a plan: within an instance (or the environment), of points within a runnable (or the environment), and of one kind.
use Rattle.std.specs.Prelude.{◌≡◌, ℕ, Bool, ◌&&◌, bytes_eq, Option, Some, position, slice_get}
use Rattle.bus_semantics.specs.Common.{same_number, Plan, Runnable, instance_of, Letters}
use Rattle.bus_semantics.specs.declared.plan.ElemPlan.{ElemPlan}
use Rattle.bus_semantics.specs.declared.plan.PointPlan.{PointPlan}
use Rattle.bus_semantics.specs.declared.plan.AreaPlan.{AreaPlan}
use Rattle.bus_semantics.specs.declared.plan.MachinePlan.{MachinePlan}
use Rattle.bus_semantics.specs.declared.plan.ModePortPlan.{ModePortPlan}
use Rattle.bus_semantics.specs.declared.plan.EventPlan.{EventPlan}

abbrev pub is_elem : (home : Option ℕ) → Letters → ElemPlan → Bool
is_elem home name e = same_number e.instance home && bytes_eq e.name name

abbrev pub is_point : (caller : Option ℕ) → Letters → PointPlan → Bool
is_point caller name t = same_number t.runnable caller && bytes_eq t.name name

abbrev pub is_area : (home : Option ℕ) → Letters → AreaPlan → Bool
is_area home name a = same_number (Some a.instance) home && bytes_eq a.name name

abbrev pub is_machine : (home : Option ℕ) → Letters → MachinePlan → Bool
is_machine home name n = same_number n.instance home && bytes_eq n.name name

abbrev pub is_mode_port : (home : Option ℕ) → Letters → ModePortPlan → Bool
is_mode_port home name t = same_number t.instance home && bytes_eq t.name name

abbrev pub is_event : Plan → (home : Option ℕ) → Letters → EventPlan → Bool
is_event p home name v = same_number (instance_of p v.runnable) home && bytes_eq v.name name

abbrev pub is_runnable : (home : Option ℕ) → Letters → Runnable → Bool
is_runnable home name r = same_number (Some r.instance) home && bytes_eq r.name name

abbrev pub is_text : Letters → Letters → Bool
is_text name t = bytes_eq t name

-- a name finds what it names
abbrev pub FindsElems : Plan → Type 0
FindsElems p = (x : ℕ) (e : ElemPlan) → slice_get p.elements x ≡ Some e → position (is_elem e.instance e.name) p.elements ≡ Some x

abbrev pub FindsPoints : Plan → Type 0
FindsPoints p = (q : ℕ) (t : PointPlan) → slice_get p.points q ≡ Some t → position (is_point t.runnable t.name) p.points ≡ Some q

abbrev pub FindsAreas : Plan → Type 0
FindsAreas p = (x : ℕ) (a : AreaPlan) → slice_get p.areas x ≡ Some a → position (is_area (Some a.instance) a.name) p.areas ≡ Some x

abbrev pub FindsMachines : Plan → Type 0
FindsMachines p = (m : ℕ) (n : MachinePlan) → slice_get p.machines m ≡ Some n → position (is_machine n.instance n.name) p.machines ≡ Some m

abbrev pub FindsModePorts : Plan → Type 0
FindsModePorts p = (x : ℕ) (t : ModePortPlan) → slice_get p.mode_ports x ≡ Some t → position (is_mode_port t.instance t.name) p.mode_ports ≡ Some x

abbrev pub FindsEvents : Plan → Type 0
FindsEvents p = (e : ℕ) (v : EventPlan) → slice_get p.events e ≡ Some v → position (is_event p (instance_of p v.runnable) v.name) p.events ≡ Some e

abbrev pub FindsInstances : Plan → Type 0
FindsInstances p = (i : ℕ) (t : Letters) → slice_get p.names i ≡ Some t → position (is_text t) p.names ≡ Some i

abbrev pub FindsModes : Plan → Type 0
FindsModes p = (m : ℕ) (n : MachinePlan) → slice_get p.machines m ≡ Some n → (mode : ℕ) (t : Letters) → slice_get n.modes mode ≡ Some t → position (is_text t) n.modes ≡ Some mode

abbrev pub FindsRunnables : Plan → Type 0
FindsRunnables p = (x : ℕ) (r : Runnable) → slice_get p.runnables x ≡ Some r → position (is_runnable (Some r.instance) r.name) p.runnables ≡ Some x
