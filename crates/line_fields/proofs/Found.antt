-- In a plan in which names are distinct, as in a sound one, a name finds what it names.
use Rattle.std.proofs.Common.{◌≡◌, ℕ, zero, suc, ◌+◌, ◌<◌, Bool, true, false, not, ◌&&◌, cond, List, [], ◌∷◌, map, length, nat_lt, bytes_eq, unwrap_or, Option, Some, None, refl, sym, ap}
use Rattle.std.proofs.Common.{◌∙◌, subst, arith}
use Rattle.bus_semantics.specs.Common.{list_all, position, position_or_len, slice_get, length-map, and_parts, and_from, eq-eqb, eqb-true, lt-ltb, bytes_eq-Decides, same_number, Plan}
use Rattle.bus_semantics.specs.Common.{Runnable, instance_of, IsSound, Named, caller_rank, named_once, names_distinct, names_fit, rank, Letters}
use Rattle.bus_semantics.specs.declared.plan.ElemPlan.{ElemPlan}
use Rattle.bus_semantics.specs.declared.plan.PointPlan.{PointPlan}
use Rattle.bus_semantics.specs.declared.plan.AreaPlan.{AreaPlan}
use Rattle.bus_semantics.specs.declared.plan.MachinePlan.{MachinePlan}
use Rattle.bus_semantics.specs.declared.plan.ModePortPlan.{ModePortPlan}
use Rattle.bus_semantics.specs.declared.plan.EventPlan.{EventPlan}
use Rattle.bus_semantics.specs.declared.script.Mapping.{Mapping}
use Rattle.line_fields.specs.Named.{FindsAreas, FindsElems, FindsEvents, FindsInstances, FindsMachines, FindsModePorts, FindsModes, FindsPoints, FindsRunnables}
use Rattle.line_fields.proofs.Distinct.{all_at, labels_apart}

-- ---- the first of which something holds

position_is : {X : Type 0} (f : X → Bool) (xs : List X) (x : ℕ) (v : X) → slice_get xs x ≡ Some v → f v ≡ true → ((y : ℕ) (u : X) → y < x → slice_get xs y ≡ Some u → f u ≡ false)
    → (position_or_len f xs ≡ x) × (x < length xs)
position_is {X} f [] x v e h none = absurd (cc)
position_is {X} f (y ∷ ys) zero v e h none =
    let same : y ≡ v = cc in
    let yes : f y ≡ true = subst (λ z. f z ≡ true) (sym same) h in
    (ap (λ b. cond (not b) (1 + position_or_len f ys) 0) yes, omega arith)
position_is {X} f (y ∷ ys) (suc x) v e h none =
    let no : f y ≡ false = none 0 y (omega arith) refl in
    let rest = position_is {X = X} f ys x v e h (λ k u less there. none (suc k) u (omega arith) there) in
    let next : 1 + position_or_len f ys ≡ suc x = omega (arith, rest.0) in
    (ap (λ b. cond (not b) (1 + position_or_len f ys) 0) no ∙ next, omega (arith, rest.1))

-- of things with labels, each once, the one of which it holds
found : {X : Type 0} (label : X → Named) (f : X → Bool) (xs : List X) → named_once (map label xs) ≡ true → (x : ℕ) (v : X) → slice_get xs x ≡ Some v → f v ≡ true
    → ((u : X) → f u ≡ true → label u ≡ label v) → position f xs ≡ Some x
found {X} label f xs once x v there h same =
    let at = position_is {X = X} f xs x v there h none in
    ap (λ n. cond (nat_lt n (length xs)) (Some n) None) at.0 ∙ ap (λ b. cond b (Some x) None) (lt-ltb x (length xs) at.1)
  where
    none : (y : ℕ) (u : X) → y < x → slice_get xs y ≡ Some u → f u ≡ false
    none y u less here = step (f u) refl
      where
        step : (b : Bool) → f u ≡ b → f u ≡ false
        step true is = absurd (labels_apart {X = X} label xs once y x less u v here there (same u is))
        step false is = is

-- ---- lists of pictures

prefix-map : {X Y : Type 0} (f : Y → Bool) (g : X → Y) (xs : List X) → position_or_len f (map g xs) ≡ position_or_len (λ x. f (g x)) xs
prefix-map f g [] = refl
prefix-map f g (x ∷ xs) = ap (λ n. cond (not (f (g x))) (1 + n) 0) (prefix-map f g xs)

-- the first picture of which it holds
pub position-map : {X Y : Type 0} (f : Y → Bool) (g : X → Y) (xs : List X) → position (λ x. f (g x)) xs ≡ position f (map g xs)
position-map f g xs =
    let n = position_or_len (λ x. f (g x)) xs in
    sym (ap (λ k. cond (nat_lt k (length (map g xs))) (Some k) None) (prefix-map f g xs) ∙ ap (λ l. cond (nat_lt n l) (Some n) None) (length-map xs g))

-- ---- things of a home

same_self : (o : Option ℕ) → same_number o o ≡ true
same_self None = refl
same_self (Some n) = eq-eqb n n refl

same_is : (a b : Option ℕ) → same_number a b ≡ true → a ≡ b
same_is None None h = refl
same_is None (Some b) h = absurd (cc)
same_is (Some a) None h = absurd (cc)
same_is (Some a) (Some b) h = ap (λ n. Some n) (eqb-true a b h)

paired : (g : Option ℕ → ℕ) (a b : Option ℕ) (t u : Letters) → a ≡ b → t ≡ u → (let n : Named = (g a, t) in n) ≡ (g b, u)
paired g a b t u e k = ap (λ o. (g o, t)) e ∙ ap (λ n. (g b, n)) k

thing_found : {X : Type 0} (g : Option ℕ → ℕ) (home : X → Option ℕ) (name : X → Letters) (xs : List X) → named_once (map (λ u. (g (home u), name u)) xs) ≡ true
    → (x : ℕ) (v : X) → slice_get xs x ≡ Some v → position (λ u. same_number (home u) (home v) && bytes_eq (name u) (name v)) xs ≡ Some x
thing_found {X} g home name xs once x v there =
    found {X = X} (λ u. (g (home u), name u)) (λ u. same_number (home u) (home v) && bytes_eq (name u) (name v)) xs once x v there
    (and_from (same_number (home v) (home v)) (bytes_eq (name v) (name v)) (same_self (home v)) ((bytes_eq-Decides (name v) (name v)).1 refl))
    same
  where
    same : (u : X) → (same_number (home u) (home v) && bytes_eq (name u) (name v)) ≡ true → (let n : Named = (g (home u), name u) in n) ≡ (g (home v), name v)
    same u h =
        let two = and_parts (same_number (home u) (home v)) (bytes_eq (name u) (name v)) h in
        paired g (home u) (home v) (name u) (name v) (same_is (home u) (home v) two.0) ((bytes_eq-Decides (name u) (name v)).0 two.1)

text_found : (ts : List Letters) → named_once (map (λ t. (0, t)) ts) ≡ true → (x : ℕ) (t : Letters) → slice_get ts x ≡ Some t → position (λ u. bytes_eq u t) ts ≡ Some x
text_found ts once x t there = found {X = Letters} (λ u. (0, u)) (λ u. bytes_eq u t) ts once x t there ((bytes_eq-Decides t t).1 refl) (λ u h. ap (λ n. (0, n)) ((bytes_eq-Decides u t).0 h))

-- ---- things of a plan in which names are distinct

record AreDistinct (p : Plan) : Type 0 where
  instances : named_once (map (λ t. (0, t)) p.names) ≡ true
  elements : named_once (map (λ (e : ElemPlan). (rank p e.instance, e.name)) p.elements) ≡ true
  points : named_once (map (λ (t : PointPlan). (caller_rank p t, t.name)) p.points) ≡ true
  areas : named_once (map (λ (a : AreaPlan). (a.instance, a.name)) p.areas) ≡ true
  machines : named_once (map (λ (n : MachinePlan). (rank p n.instance, n.name)) p.machines) ≡ true
  modes : list_all (λ (n : MachinePlan). named_once (map (λ t. (0, t)) n.modes)) p.machines ≡ true
  mode_ports : named_once (map (λ (t : ModePortPlan). (rank p t.instance, t.name)) p.mode_ports) ≡ true
  events : named_once (map (λ (v : EventPlan). (rank p (instance_of p v.runnable), v.name)) p.events) ≡ true
  runnables : named_once (map (λ (r : Runnable). (r.instance, r.name)) p.runnables) ≡ true

are_distinct : (p : Plan) → names_distinct p ≡ true → AreDistinct p
are_distinct p once =
    let a = and_parts _ _ once in
    let elements = and_parts _ _ a.1 in
    let points = and_parts _ _ elements.1 in
    let servers = and_parts _ _ points.1 in
    let areas = and_parts _ _ servers.1 in
    let machines = and_parts _ _ areas.1 in
    let modes = and_parts _ _ machines.1 in
    let mode_ports = and_parts _ _ modes.1 in
    let events = and_parts _ _ mode_ports.1 in
    record { instances = a.0; elements = elements.0; points = points.0; areas = areas.0; machines = machines.0; modes = modes.0; mode_ports = mode_ports.0; events = events.0; runnables = events.1 }

pub names_of_sound : (p : Plan) (m : Mapping) → IsSound p m → names_distinct p ≡ true
names_of_sound p m s = (and_parts (names_distinct p) _ (and_parts (names_fit p) _ s.names).1).0

pub finds_instances : (p : Plan) → names_distinct p ≡ true → FindsInstances p
finds_instances p once = text_found p.names (are_distinct p once).instances

pub finds_elems : (p : Plan) → names_distinct p ≡ true → FindsElems p
finds_elems p once = thing_found (rank p) (λ (e : ElemPlan). e.instance) (λ (e : ElemPlan). e.name) p.elements (are_distinct p once).elements

pub finds_points : (p : Plan) → names_distinct p ≡ true → FindsPoints p
finds_points p once = thing_found (λ o. unwrap_or o (length p.runnables)) (λ (t : PointPlan). t.runnable) (λ (t : PointPlan). t.name) p.points (are_distinct p once).points

pub finds_areas : (p : Plan) → names_distinct p ≡ true → FindsAreas p
finds_areas p once = thing_found (λ o. unwrap_or o 0) (λ (a : AreaPlan). Some a.instance) (λ (a : AreaPlan). a.name) p.areas (are_distinct p once).areas

pub finds_machines : (p : Plan) → names_distinct p ≡ true → FindsMachines p
finds_machines p once = thing_found (rank p) (λ (n : MachinePlan). n.instance) (λ (n : MachinePlan). n.name) p.machines (are_distinct p once).machines

pub finds_modes : (p : Plan) → names_distinct p ≡ true → FindsModes p
finds_modes p once i n there = text_found n.modes (all_at (λ (n : MachinePlan). named_once (map (λ t. (0, t)) n.modes)) p.machines i n (are_distinct p once).modes there)

pub finds_mode_ports : (p : Plan) → names_distinct p ≡ true → FindsModePorts p
finds_mode_ports p once = thing_found (rank p) (λ (t : ModePortPlan). t.instance) (λ (t : ModePortPlan). t.name) p.mode_ports (are_distinct p once).mode_ports

pub finds_events : (p : Plan) → names_distinct p ≡ true → FindsEvents p
finds_events p once = thing_found (rank p) (λ (v : EventPlan). instance_of p v.runnable) (λ (v : EventPlan). v.name) p.events (are_distinct p once).events

pub finds_runnables : (p : Plan) → names_distinct p ≡ true → FindsRunnables p
finds_runnables p once = thing_found (λ o. unwrap_or o 0) (λ (r : Runnable). Some r.instance) (λ (r : Runnable). r.name) p.runnables (are_distinct p once).runnables
