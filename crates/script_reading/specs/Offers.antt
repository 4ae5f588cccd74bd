-- What the environment has in a plan: the things of the root's outer ports, by the forms that name them (SWS_RTE: Rte_Write, Rte_Send,
-- Rte_Read, Rte_Receive, Rte_Call, Rte_Result, Rte_Switch, Rte_Mode, made from outside).
use Rattle.std.specs.Prelude.{ℕ, zero, suc, ℤ, List, [], ◌∷◌, length, Bool, true, false, not, ◌&&◌, ◌==◌, is_none, bytes_eq, if◌then◌else◌, Option, Some, None}
use Rattle.bus_semantics.specs.Common.{list_all, slice_get, Limits, is_queued, is_unqueued, Plan, look, is_within, Letters}
use Rattle.bus_semantics.specs.declared.plan.ElemPlan.{ElemPlan}
use Rattle.bus_semantics.specs.declared.plan.PointPlan.{PointPlan}
use Rattle.bus_semantics.specs.declared.plan.MachinePlan.{MachinePlan}
use Rattle.bus_semantics.specs.declared.plan.ModePortPlan.{ModePortPlan}
use Rattle.script_reading.specs.declared.forms.Form.{Form}
use Rattle.script_reading.specs.declared.forms.Form.TheVariants.{Write, Send, Read, Receive, Ask, TakeResult, Switch, SeeMode}
use Rattle.line_fields.specs.Numbers.{are_held}

-- ---- names

-- which elements a form is for: those with a queue or those without one, which the environment provides or which it requires
abbrev pub is_for : Form → ElemPlan → Bool
is_for Write e = is_unqueued e && e.provided
is_for Send e = is_queued e && e.provided
is_for Read e = is_unqueued e && not e.provided
is_for Receive e = is_queued e && not e.provided
is_for _ e = false

-- a name that is there to be used, if it is so
abbrev pub named_if : Bool → Letters → Option Letters
named_if b name = if b then Some name else None

abbrev pub elem_offered : Form → ElemPlan → Option Letters
elem_offered f e = named_if (is_none e.instance && is_for f e) e.name

abbrev pub point_offered : PointPlan → Option Letters
point_offered t = named_if (is_none t.runnable) t.name

abbrev pub machine_offered : MachinePlan → Option Letters
machine_offered n = named_if (is_none n.instance) n.name

abbrev pub mode_port_offered : ModePortPlan → Option Letters
mode_port_offered t = named_if (is_none t.instance) t.name

-- the name, PORT.ELEMENT or PORT.OPERATION, of the environment's thing of this number, if the form is for it. Operations are called at
-- points; modes are switched at machines, and seen at required mode elements that have one
abbrev pub offered : Form → Plan → ℕ → Option Letters
offered Write p x = look p.elements x (elem_offered Write) None
offered Send p x = look p.elements x (elem_offered Send) None
offered Read p x = look p.elements x (elem_offered Read) None
offered Receive p x = look p.elements x (elem_offered Receive) None
offered Ask p x = look p.points x point_offered None
offered TakeResult p x = look p.points x point_offered None
offered Switch p x = look p.machines x machine_offered None
offered SeeMode p x = look p.mode_ports x mode_port_offered None

-- how many things the plan has where the form looks
abbrev pub how_many : Form → Plan → ℕ
how_many Ask p = length p.points
how_many TakeResult p = length p.points
how_many Switch p = length p.machines
how_many SeeMode p = length p.mode_ports
how_many _ p = length p.elements

-- the first of so many numbers, from this one on, of which it holds
abbrev pub first_from : (ℕ → Bool) → (left : ℕ) → (at : ℕ) → Option ℕ
first_from test zero at = None
first_from test (suc left) at = if test at then Some at else first_from test left (suc at)

abbrev pub goes_by : Letters → Option Letters → Bool
goes_by name None = false
goes_by name (Some t) = bytes_eq t name

-- the number of the first thing that goes by the name
abbrev pub number_of : Form → Plan → Letters → Option ℕ
number_of f p name = first_from (λ x. goes_by name (offered f p x)) (how_many f p) 0

-- ---- values and modes

-- as many words as the element has, each within its limits
abbrev pub elem_takes : ElemPlan → List ℤ → Bool
elem_takes e ws = (length ws == e.words) && list_all (is_within e.limits) ws

-- as many words as there are limits, each within its own
abbrev pub are_within : List Limits → List ℤ → Bool
are_within [] [] = true
are_within (l ∷ limits) (x ∷ ws) = is_within l x && are_within limits ws
are_within _ _ = false

-- a value of these words may be given to the thing of this number: to an element, or as the `in` arguments of an operation
abbrev pub takes : Form → Plan → ℕ → List ℤ → Bool
takes Write p x ws = are_held ws && look p.elements x (λ (e : ElemPlan). elem_takes e ws) false
takes Send p x ws = are_held ws && look p.elements x (λ (e : ElemPlan). elem_takes e ws) false
takes Ask p x ws = are_held ws && look p.points x (λ (t : PointPlan). are_within t.ins ws) false
takes _ p x ws = false

-- the number of the first mode that has the name
abbrev pub mode_in : List Letters → Letters → Option ℕ
mode_in modes name = first_from (λ k. goes_by name (slice_get modes k)) (length modes) 0

abbrev pub mode_of : Plan → (machine : ℕ) → Letters → Option ℕ
mode_of p m name = look p.machines m (λ (n : MachinePlan). mode_in n.modes name) None
