-- What an item names is found by its name.
use Rattle.std.proofs.Common.{◌≡◌, ℕ, ◌<◌, ◌≤◌, Bool, true, false, ◌&&◌, List, [], length, nat_lt, Option, Some, None, inl, inr, refl, sym, ap, ◌∙◌, arith}
use Rattle.bus_semantics.specs.Common.{position, slice_get, option_map_or, and_parts, ltb-true, same_number-Decides, same_number, area_fits, elem_fits, event_fits, mode_port_fits, own_point}
use Rattle.bus_semantics.specs.Common.{switch_fits, Plan, caller_of, instance_of, look, runnable_of_event, is_index, Letters, area_name, elem_name, event_name, machine_name, mode_port_name}
use Rattle.bus_semantics.specs.Common.{point_name}
use Rattle.std.proofs.lemmas.Option.{slice_get_cases}
use Rattle.bus_laws.specs.Common.{AreaPlan, ElemPlan, EventPlan, MachinePlan, ModePortPlan, PointPlan}
use Rattle.line_fields.specs.Named.{is_area, is_elem, is_event, is_machine, is_mode_port, is_point}
use Rattle.trace_reading.specs.Fields.{numbered}
use Rattle.trace_reading.specs.Finding.{area_at, elem_at, event_at, machine_at, mode_port_at, point_at}
use Rattle.trace_reading.proofs.Naming.{IsNamed}
use Rattle.trace_reading.proofs.Values.{numbered_back}

-- there is such a thing, and it is the home's
pub record IsThing {X : Type 0} (xs : List X) (home_of : X → Option ℕ) (x : ℕ) (home : Option ℕ) : Type 0 where
  pub thing : X
  pub there : slice_get xs x ≡ Some thing
  pub own : home_of thing ≡ home

-- its text finds it
pub record IsRead (from : Option ℕ) (t : Letters) (x : ℕ) : Type 0 where
  pub found : from ≡ Some x

pub same_home : (a b : Option ℕ) → same_number a b ≡ true → a ≡ b
same_home a b h = (same_number-Decides a b).0 h

looked : {X : Type 0} (xs : List X) (home_of : X → Option ℕ) (home : Option ℕ) (fit : X → Bool) → ((e : X) → fit e ≡ true → home_of e ≡ home) → (x : ℕ) → look xs x fit false ≡ true
    → IsThing xs home_of x home
looked {X} xs home_of home fit own x h = step (slice_get xs x) refl h
  where
    step : (o : Option X) → slice_get xs x ≡ o → option_map_or fit o false ≡ true → IsThing xs home_of x home
    step None is h = absurd (cc)
    step (Some e) is h = record { thing = e; there = is; own = own e h }

-- ---- by the kind of thing

thing_read : {X : Type 0} (xs : List X) (is : Option ℕ → Letters → X → Bool) (home_of : X → Option ℕ) (name : X → Letters)
    → ((x : ℕ) (e : X) → slice_get xs x ≡ Some e → position (is (home_of e) (name e)) xs ≡ Some x)
    → (x : ℕ) (home : Option ℕ) → is_index x ≡ true → IsThing xs home_of x home → IsRead (numbered (position (is home (look xs x name [])) xs)) (look xs x name []) x
thing_read xs is home_of name finds x home index t =
    let text : look xs x name [] ≡ name t.thing = ap (λ o. option_map_or name o []) t.there in
    record { found = ap (λ u. numbered (position (is home u) xs)) text ∙ ap (λ h. numbered (position (is h (name t.thing)) xs)) (sym t.own) ∙ ap numbered (finds x t.thing t.there) ∙ numbered_back x index }

-- what is within a list is there
pub within : {X : Type 0} (xs : List X) (x : ℕ) (P : Type 0) → nat_lt x (length xs) ≡ true → ((e : X) → slice_get xs x ≡ Some e → P) → P
within {X} xs x P h f = elim (slice_get_cases xs x).1 [
  | inl c ↦ f c.0 c.2
  | inr c ↦ (let less : x < length xs = ltb-true x (length xs) h in let past : length xs ≤ x = c.0 in absurd (omega arith))
]

module _ (p : Plan) (r : IsNamed p) where
  pub elem_read : (home : Option ℕ) (test : ElemPlan → Bool) (x : ℕ) → elem_fits p home test x ≡ true → is_index x ≡ true → IsRead (elem_at p home (elem_name p x)) (elem_name p x) x
  elem_read home test x fit index =
      thing_read p.elements is_elem (λ (e : ElemPlan). e.instance) (λ (e : ElemPlan). e.name) r.find_elems x home index
      (looked p.elements (λ (e : ElemPlan). e.instance) home (λ e. same_number e.instance home && test e) (λ e h. same_home e.instance home (and_parts (same_number e.instance home) (test e) h).0) x fit)

  pub area_read : (home : Option ℕ) (x : ℕ) → area_fits p home x ≡ true → is_index x ≡ true → IsRead (area_at p home (area_name p x)) (area_name p x) x
  area_read home x fit index =
      thing_read p.areas is_area (λ (a : AreaPlan). Some a.instance) (λ (a : AreaPlan). a.name) r.find_areas x home index
      (looked p.areas (λ (a : AreaPlan). Some a.instance) home (λ (a : AreaPlan). same_number (Some a.instance) home) (λ a h. same_home (Some a.instance) home h) x fit)

  pub machine_read : (home : Option ℕ) (m mode : ℕ) → switch_fits p home m mode ≡ true → is_index m ≡ true → IsRead (machine_at p home (machine_name p m)) (machine_name p m) m
  machine_read home m mode fit index =
      thing_read p.machines is_machine (λ (n : MachinePlan). n.instance) (λ (n : MachinePlan). n.name) r.find_machines m home index
      (looked p.machines (λ (n : MachinePlan). n.instance) home (λ (n : MachinePlan). same_number n.instance home && nat_lt mode (length n.modes))
      (λ n h. same_home n.instance home (and_parts (same_number n.instance home) (nat_lt mode (length n.modes)) h).0) m fit)

  pub mode_port_read : (home : Option ℕ) (x : ℕ) → mode_port_fits p home x ≡ true → is_index x ≡ true → IsRead (mode_port_at p home (mode_port_name p x)) (mode_port_name p x) x
  mode_port_read home x fit index =
      thing_read p.mode_ports is_mode_port (λ (t : ModePortPlan). t.instance) (λ (t : ModePortPlan). t.name) r.find_mode_ports x home index
      (looked p.mode_ports (λ (t : ModePortPlan). t.instance) home (λ (t : ModePortPlan). same_number t.instance home) (λ t h. same_home t.instance home h) x fit)

  pub point_read : (caller : Option ℕ) (q : ℕ) → own_point p caller q ≡ true → is_index q ≡ true → IsRead (point_at p caller (point_name p q)) (point_name p q) q
  point_read caller q fit index =
      let two = and_parts (nat_lt q (length p.points)) (same_number (caller_of p q) caller) fit in
      thing_read p.points is_point (λ (t : PointPlan). t.runnable) (λ (t : PointPlan). t.name) r.find_points q caller index
      (within p.points q (IsThing p.points (λ (t : PointPlan). t.runnable) q caller) two.0
      (λ t there. record { thing = t; there = there; own = sym (ap (λ o. option_map_or (λ (t : PointPlan). t.runnable) o None) there) ∙ same_home (caller_of p q) caller two.1 }))

  pub event_read : (home : Option ℕ) (e : ℕ) → event_fits p home e ≡ true → is_index e ≡ true → IsRead (event_at p home (event_name p e)) (event_name p e) e
  event_read home e fit index =
      let two = and_parts (nat_lt e (length p.events)) _ fit in
      thing_read p.events (is_event p) (λ (v : EventPlan). instance_of p v.runnable) (λ (v : EventPlan). v.name) r.find_events e home index
      (within p.events e (IsThing p.events (λ (v : EventPlan). instance_of p v.runnable) e home) two.0 (λ v there. record { thing = v; there = there; own = own v there (runnable_of_event p e) refl two.1 }))
    where
      runnable_home : Option ℕ → Option ℕ
      runnable_home None = None
      runnable_home (Some x) = instance_of p x

      own : (v : EventPlan) → slice_get p.events e ≡ Some v → (o : Option ℕ) → runnable_of_event p e ≡ o → same_number (runnable_home o) home ≡ true → instance_of p v.runnable ≡ home
      own v there o is h =
          let same : Some v.runnable ≡ o = sym (ap (λ u. option_map_or (λ (v : EventPlan). Some v.runnable) u None) there) ∙ is in
          ap runnable_home same ∙ same_home (runnable_home o) home h
