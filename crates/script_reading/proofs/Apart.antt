-- In a sound plan no two things of the environment that one form is for have one name, and no two modes of a machine.
use Rattle.std.proofs.Common.{◌≡◌, ℕ, ◌<◌, true, ◌&&◌, List, map, length, is_none, unwrap_or, Option, Some, None, refl, sym, ap, ◌∙◌}
use Rattle.bus_semantics.specs.Common.{list_all, slice_get, and_parts, Plan, look, Named, caller_rank, named_once, names_distinct, rank, Letters}
use Rattle.bus_semantics.specs.declared.plan.ElemPlan.{ElemPlan}
use Rattle.bus_semantics.specs.declared.plan.PointPlan.{PointPlan}
use Rattle.bus_semantics.specs.declared.plan.MachinePlan.{MachinePlan}
use Rattle.bus_semantics.specs.declared.plan.ModePortPlan.{ModePortPlan}
use Rattle.script_reading.specs.Common.{Form, elem_offered, is_for, machine_offered, mode_port_offered, point_offered}
use Rattle.line_fields.proofs.Distinct.{labels_apart}
use Rattle.script_reading.proofs.Asking.{if_named}
use Rattle.script_reading.proofs.Naming.{looked_up}

no_home_is : (o : Option ℕ) → is_none o ≡ true → o ≡ None
no_home_is None h = refl
no_home_is (Some i) h = absurd (cc)

same_label : (p : Plan) (i j : Option ℕ) (t u : Letters) → is_none i ≡ true → is_none j ≡ true → t ≡ u → (let a : Named = (rank p i, t) in a) ≡ (rank p j, u)
same_label p i j t u h k e = ap (λ o. (rank p o, t)) (no_home_is i h ∙ sym (no_home_is j k)) ∙ ap (λ n. (rank p j, n)) e

-- ---- things of the environment

-- the names of a sound plan are distinct
pub record AreDistinct (p : Plan) : Type 0 where
  pub elements : named_once (map (λ (e : ElemPlan). (rank p e.instance, e.name)) p.elements) ≡ true
  pub points : named_once (map (λ (t : PointPlan). (caller_rank p t, t.name)) p.points) ≡ true
  pub machines : named_once (map (λ (n : MachinePlan). (rank p n.instance, n.name)) p.machines) ≡ true
  pub modes : list_all (λ (n : MachinePlan). named_once (map (λ t. (0, t)) n.modes)) p.machines ≡ true
  pub mode_ports : named_once (map (λ (t : ModePortPlan). (rank p t.instance, t.name)) p.mode_ports) ≡ true

pub are_distinct : (p : Plan) → names_distinct p ≡ true → AreDistinct p
are_distinct p h =
    let a = and_parts _ _ h in
    let elements = and_parts _ _ a.1 in
    let points = and_parts _ _ elements.1 in
    let servers = and_parts _ _ points.1 in
    let areas = and_parts _ _ servers.1 in
    let machines = and_parts _ _ areas.1 in
    let modes = and_parts _ _ machines.1 in
    let mode_ports = and_parts _ _ modes.1 in
    record { elements = elements.0; points = points.0; machines = machines.0; modes = modes.0; mode_ports = mode_ports.0 }

pub elem_apart : (p : Plan) (d : AreDistinct p) (f : Form) (x : ℕ) (v : ElemPlan) → slice_get p.elements x ≡ Some v → is_none v.instance ≡ true
    → (y : ℕ) → y < x → look p.elements y (elem_offered f) None ≡ Some v.name → ⊥
elem_apart p d f x v there home y less h =
    let l = looked_up p.elements y (elem_offered f) v.name h in
    let n = if_named (is_none l.item.instance && is_for f l.item) l.item.name v.name l.gives in
    labels_apart (λ (e : ElemPlan). (rank p e.instance, e.name)) p.elements d.elements y x less l.item v l.at_is there
    (same_label p l.item.instance v.instance l.item.name v.name (and_parts (is_none l.item.instance) (is_for f l.item) n.0).0 home n.1)

same_caller : (p : Plan) (t u : PointPlan) → is_none t.runnable ≡ true → is_none u.runnable ≡ true → t.name ≡ u.name → (let a : Named = (caller_rank p t, t.name) in a) ≡ (caller_rank p u, u.name)
same_caller p t u h k e = ap (λ o. (unwrap_or o (length p.runnables), t.name)) (no_home_is t.runnable h ∙ sym (no_home_is u.runnable k)) ∙ ap (λ n. (caller_rank p u, n)) e

pub point_apart : (p : Plan) (d : AreDistinct p) (x : ℕ) (v : PointPlan) → slice_get p.points x ≡ Some v → is_none v.runnable ≡ true
    → (y : ℕ) → y < x → look p.points y point_offered None ≡ Some v.name → ⊥
point_apart p d x v there home y less h =
    let l = looked_up p.points y point_offered v.name h in
    let n = if_named (is_none l.item.runnable) l.item.name v.name l.gives in
    labels_apart (λ (t : PointPlan). (caller_rank p t, t.name)) p.points d.points y x less l.item v l.at_is there
    (same_caller p l.item v n.0 home n.1)

pub machine_apart : (p : Plan) (d : AreDistinct p) (x : ℕ) (v : MachinePlan) → slice_get p.machines x ≡ Some v → is_none v.instance ≡ true
    → (y : ℕ) → y < x → look p.machines y machine_offered None ≡ Some v.name → ⊥
machine_apart p d x v there home y less h =
    let l = looked_up p.machines y machine_offered v.name h in
    let n = if_named (is_none l.item.instance) l.item.name v.name l.gives in
    labels_apart (λ (e : MachinePlan). (rank p e.instance, e.name)) p.machines d.machines y x less l.item v l.at_is there
    (same_label p l.item.instance v.instance l.item.name v.name n.0 home n.1)

pub mode_port_apart : (p : Plan) (d : AreDistinct p) (x : ℕ) (v : ModePortPlan) → slice_get p.mode_ports x ≡ Some v → is_none v.instance ≡ true
    → (y : ℕ) → y < x → look p.mode_ports y mode_port_offered None ≡ Some v.name → ⊥
mode_port_apart p d x v there home y less h =
    let l = looked_up p.mode_ports y mode_port_offered v.name h in
    let n = if_named (is_none l.item.instance) l.item.name v.name l.gives in
    labels_apart (λ (e : ModePortPlan). (rank p e.instance, e.name)) p.mode_ports d.mode_ports y x less l.item v l.at_is there
    (same_label p l.item.instance v.instance l.item.name v.name n.0 home n.1)

pub modes_apart : (modes : List Letters) → named_once (map (λ t. (0, t)) modes) ≡ true → (y x : ℕ) → y < x → (t : Letters) → slice_get modes y ≡ Some t → slice_get modes x ≡ Some t → ⊥
modes_apart modes once y x less t e f = labels_apart (λ (t : Letters). (0, t)) modes once y x less t t e f refl
