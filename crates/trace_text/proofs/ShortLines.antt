-- How long the lines of a plan with short names may be.
use Rattle.std.proofs.Common.{◌≡◌, ℕ, zero, suc, ◌/◌, ◌%◌, ◌≤◌, Bool, true, false, ◌&&◌, ◌==◌, cond, List, [], ◌∷◌, ◌++◌, length, codes, Option, Some, None, refl, ap, length-append, arith}
use Rattle.bus_semantics.specs.Common.{and_parts, list_all, Step, Value, elems_of, machine_itself, Plan, Runnable, look, machine_of_port, lists_sound, is_name, is_pair_name, is_path}
use Rattle.bus_semantics.specs.Common.{names_fit, is_variable, Letters, actor_text, area_name, caller_text, deed_text, elem_name, entry_text, event_name, from_text, instance_text, key_text}
use Rattle.bus_semantics.specs.Common.{machine_name, machine_text, mask_text, mode_port_name, mode_text, phase_text, point_name, point_text, runnable_text}
use Rattle.std.specs.Prelude.{nat_le}
use Rattle.rte_value.specs.declared.kinds.Step.TheVariants as step
use Rattle.bus_laws.specs.Common.{ElemPlan, PointPlan, AreaPlan, MachinePlan, ModePortPlan, EventPlan, Actor, Env, Machine, Act, Deed, Entry, Version, One, Two, ServerPlan}
use Rattle.bus_semantics.specs.declared.entries.Deed.TheVariants as deed
use Rattle.trace_text.specs.Short.{IsShort, IsShortFrom, IsShortMode, IsShortStep}
use Rattle.trace_text.proofs.Places.{elems_few}
use Rattle.trace_text.proofs.ShortNames.{look_short, name_short, pair_short, path_short}

-- ---- the tests that a sound plan's names pass

abbrev test_elem : ElemPlan → Bool
test_elem e = cond (is_variable e) (is_name e.name) (is_pair_name e.name)

abbrev test_point : PointPlan → Bool
test_point t = is_pair_name t.name

abbrev test_area : AreaPlan → Bool
test_area a = is_name a.name

abbrev test_machine : MachinePlan → Bool
test_machine n = is_pair_name n.name && list_all is_name n.modes

abbrev test_mode_port : ModePortPlan → Bool
test_mode_port t = is_pair_name t.name

abbrev test_event : EventPlan → Bool
test_event v = is_name v.name

abbrev test_runnable : Runnable → Bool
test_runnable r = is_name r.name

elem_short : (e : ElemPlan) → test_elem e ≡ true → length e.name ≤ 65
elem_short e h = by_kind (is_variable e) h
  where
    by_kind : (b : Bool) → cond b (is_name e.name) (is_pair_name e.name) ≡ true → length e.name ≤ 65
    by_kind true h = let short = name_short e.name h in omega arith
    by_kind false h = pair_short e.name h

record NamesPass (p : Plan) : Type 0 where
  paths : list_all is_path p.names ≡ true
  elements : list_all test_elem p.elements ≡ true
  points : list_all test_point p.points ≡ true
  areas : list_all test_area p.areas ≡ true
  machines : list_all test_machine p.machines ≡ true
  mode_ports : list_all test_mode_port p.mode_ports ≡ true
  events : list_all test_event p.events ≡ true
  runnables : list_all test_runnable p.runnables ≡ true

names_pass : (p : Plan) → names_fit p ≡ true → NamesPass p
names_pass p fit =
    let a = and_parts (nat_le (length p.names) 1024) _ fit in
    let b = and_parts (list_all is_path p.names) _ a.1 in
    let c = and_parts (list_all test_elem p.elements) _ b.1 in
    let d = and_parts (list_all test_point p.points) _ c.1 in
    let e = and_parts (list_all (λ (s : ServerPlan). is_pair_name s.name) p.servers) _ d.1 in
    let f = and_parts (list_all test_area p.areas) _ e.1 in
    let g = and_parts (list_all test_machine p.machines) _ f.1 in
    let h = and_parts (list_all test_mode_port p.mode_ports) _ g.1 in
    let i = and_parts (list_all test_event p.events) (list_all test_runnable p.runnables) h.1 in
    record { paths = b.0; elements = c.0; points = d.0; areas = f.0; machines = g.0; mode_ports = h.0; events = i.0; runnables = i.1 }

-- ---- what is written by these names

module _ (p : Plan) (names : NamesPass p) where
  instance_short : (i : Option ℕ) → length (instance_text p i) ≤ 263
  instance_short None = omega arith
  instance_short (Some i) = look_short is_path (λ (t : Letters). t) 263 path_short p.names names.paths i

  elem_name_short : (x : ℕ) → length (elem_name p x) ≤ 65
  elem_name_short x = look_short test_elem (λ (e : ElemPlan). e.name) 65 elem_short p.elements names.elements x

  point_name_short : (q : ℕ) → length (point_name p q) ≤ 65
  point_name_short q = look_short test_point (λ (t : PointPlan). t.name) 65 (λ t h. pair_short t.name h) p.points names.points q

  area_name_short : (x : ℕ) → length (area_name p x) ≤ 32
  area_name_short x = look_short test_area (λ (a : AreaPlan). a.name) 32 (λ a h. name_short a.name h) p.areas names.areas x

  machine_name_short : (n : ℕ) → length (machine_name p n) ≤ 65
  machine_name_short n = look_short test_machine (λ (k : MachinePlan). k.name) 65 (λ k h. pair_short k.name (and_parts _ _ h).0) p.machines names.machines n

  mode_port_name_short : (port : ℕ) → length (mode_port_name p port) ≤ 65
  mode_port_name_short port = look_short test_mode_port (λ (t : ModePortPlan). t.name) 65 (λ t h. pair_short t.name h) p.mode_ports names.mode_ports port

  event_name_short : (e : ℕ) → length (event_name p e) ≤ 32
  event_name_short e = look_short test_event (λ (v : EventPlan). v.name) 32 (λ v h. name_short v.name h) p.events names.events e

  runnable_short : (r : ℕ) → length (runnable_text p r) ≤ 296
  runnable_short r = look_short test_runnable (λ (v : Runnable). instance_text p (Some v.instance) ++ codes ":" ++ v.name) 296 short p.runnables names.runnables r
    where
      short : (v : Runnable) → is_name v.name ≡ true → length (instance_text p (Some v.instance) ++ codes ":" ++ v.name) ≤ 296
      short v h =
          let home = instance_short (Some v.instance) in
          let name = name_short v.name h in
          simp (length-append {A = ℕ}) (omega arith)

  caller_short : (r : Option ℕ) → length (caller_text p r) ≤ 296
  caller_short None = omega arith
  caller_short (Some r) = runnable_short r

  point_short : (q : ℕ) → length (point_text p q) ≤ 362
  point_short q = look_short test_point (λ (t : PointPlan). caller_text p t.runnable ++ codes "." ++ t.name) 362 short p.points names.points q
    where
      short : (t : PointPlan) → is_pair_name t.name ≡ true → length (caller_text p t.runnable ++ codes "." ++ t.name) ≤ 362
      short t h =
          let caller = caller_short t.runnable in
          let name = pair_short t.name h in
          simp (length-append {A = ℕ}) (omega arith)

  machine_short : (n : ℕ) → length (machine_text p n) ≤ 329
  machine_short n = look_short test_machine (λ (k : MachinePlan). instance_text p k.instance ++ codes "." ++ k.name) 329 short p.machines names.machines n
    where
      short : (k : MachinePlan) → test_machine k ≡ true → length (instance_text p k.instance ++ codes "." ++ k.name) ≤ 329
      short k h =
          let home = instance_short k.instance in
          let name = pair_short k.name (and_parts _ _ h).0 in
          simp (length-append {A = ℕ}) (omega arith)

  actor_short : (a : Actor) → length (actor_text p a) ≤ 659
  actor_short Env = omega arith
  actor_short (Machine n) = let short = machine_short n in omega arith
  actor_short (Act k) = key_short k.runnable k.point
    where
      key_short : (r : ℕ) (q : Option ℕ) → length (key_text p (record { runnable = r; point = q })) ≤ 659
      key_short r None = let runnable = runnable_short r in simp (length-append {A = ℕ}) (omega arith)
      key_short r (Some q) = let runnable = runnable_short r in let point = point_short q in simp (length-append {A = ℕ}) (omega arith)

  from_short : (point : Option ℕ) (v : Value) → IsShortFrom point v → length (from_text p point v) ≤ 704
  from_short None v h = omega arith
  from_short (Some q) v h = let point = point_short q in simp (length-append {A = ℕ}) (omega arith)

-- ---- modes

modes_short : (modes : List Letters) → list_all is_name modes ≡ true → (mode : ℕ) → length (look modes mode (λ (t : Letters). t) (codes "-")) ≤ 32
modes_short [] h mode = omega arith
modes_short (t ∷ ts) h zero = name_short t (and_parts (is_name t) (list_all is_name ts) h).0
modes_short (t ∷ ts) h (suc mode) = modes_short ts (and_parts (is_name t) (list_all is_name ts) h).1 mode

named_short : (ns : List MachinePlan) → list_all test_machine ns ≡ true → (m mode : ℕ) → length (look (look ns m (λ (n : MachinePlan). n.modes) []) mode (λ (t : Letters). t) (codes "-")) ≤ 32
named_short [] h m mode = omega arith
named_short (n ∷ ns) h zero mode = modes_short n.modes (and_parts (is_pair_name n.name) (list_all is_name n.modes) (and_parts (test_machine n) (list_all test_machine ns) h).0).1 mode
named_short (n ∷ ns) h (suc m) mode = named_short ns (and_parts (test_machine n) (list_all test_machine ns) h).1 m mode

mode_short : (v : Version) (p : Plan) → NamesPass p → (m : Option ℕ) (mode : ℕ) → IsShortMode v mode → length (mode_text v p m mode) ≤ 32
mode_short One p names m mode h = omega arith
mode_short Two p names None mode h = omega arith
mode_short Two p names (Some i) mode h = named_short p.machines names.machines i mode

phase_short : (v : Version) (p : Plan) → NamesPass p → (a : Actor) (s : Step) → IsShortStep v s → length (phase_text v p a s) ≤ 44
phase_short v p names a (step.Close mode) h = let name = mode_short v p names (machine_itself a) mode h in omega arith
phase_short v p names a step.Exit h = omega arith
phase_short v p names a step.Transition h = omega arith
phase_short v p names a step.Entry h = omega arith
phase_short v p names a step.Stable h = omega arith

-- ---- what is written of a list: a digit for each element

pub mask_length : (w : ℕ) (xs : List ℕ) → length (mask_text w xs) ≡ length xs
mask_length w [] = refl
mask_length w (x ∷ xs) = by_mark (w % 2 == 1) (mask_length (w / 2) xs)
  where
    by_mark : (b : Bool) → length (mask_text (w / 2) xs) ≡ length xs → length (cond b (codes "1") (codes "0") ++ mask_text (w / 2) xs) ≡ suc (length xs)
    by_mark true rest = ap suc rest
    by_mark false rest = ap suc rest

mask_short : (p : Plan) → lists_sound p ≡ true → (l written : ℕ) → length (mask_text written (elems_of p l)) ≤ 16
mask_short p lists l written = omega (arith, elems_few p lists l, mask_length written (elems_of p l))

-- ---- deeds and lines

deed_short : (v : Version) (p : Plan) → NamesPass p → lists_sound p ≡ true → (a : Actor) (d : Deed) → IsShort v p d → length (deed_text v p a d) ≤ 742
deed_short v p names lists a deed.Tick h = omega arith
deed_short v p names lists a (deed.Start event point value) h = let name = event_name_short p names event in let from = from_short p names point value h in simp (length-append {A = ℕ}) (omega arith)
deed_short v p names lists a (deed.Admit true) h = omega arith
deed_short v p names lists a (deed.Admit false) h = omega arith
deed_short v p names lists a (deed.Fetch x value) h = let name = elem_name_short p names x in simp (length-append {A = ℕ}) (omega arith)
deed_short v p names lists a (deed.Write x value) h = let name = elem_name_short p names x in simp (length-append {A = ℕ}) (omega arith)
deed_short v p names lists a (deed.Read x code value) h = let name = elem_name_short p names x in simp (length-append {A = ℕ}) (omega arith)
deed_short v p names lists a (deed.Invalidate x) h = let name = elem_name_short p names x in simp (length-append {A = ℕ}) (omega arith)
deed_short v p names lists a (deed.IsUpdated x true) h = let name = elem_name_short p names x in simp (length-append {A = ℕ}) (omega arith)
deed_short v p names lists a (deed.IsUpdated x false) h = let name = elem_name_short p names x in simp (length-append {A = ℕ}) (omega arith)
deed_short v p names lists a (deed.Send x value code) h = let name = elem_name_short p names x in simp (length-append {A = ℕ}) (omega arith)
deed_short v p names lists a (deed.Receive x code value) h = let name = elem_name_short p names x in simp (length-append {A = ℕ}) (omega arith)
deed_short v p names lists a (deed.Ask q value code) h = let name = point_name_short p names q in simp (length-append {A = ℕ}) (omega arith)
deed_short v p names lists a (deed.Answer q code value) h = let name = point_name_short p names q in simp (length-append {A = ℕ}) (omega arith)
deed_short v p names lists a (deed.TakeResult q code value) h = let name = point_name_short p names q in simp (length-append {A = ℕ}) (omega arith)
deed_short v p names lists a (deed.Return code value) h = simp (length-append {A = ℕ}) (omega arith)
deed_short v p names lists a (deed.Enter x) h = let name = area_name_short p names x in simp (length-append {A = ℕ}) (omega arith)
deed_short v p names lists a (deed.Leave x) h = let name = area_name_short p names x in simp (length-append {A = ℕ}) (omega arith)
deed_short v p names lists a (deed.Switch m mode code) h = let name = machine_name_short p names m in let text = mode_short v p names (Some m) mode h.0 in simp (length-append {A = ℕ}) (omega arith)
deed_short v p names lists a (deed.Mode port mode) h = let name = mode_port_name_short p names port in let text = mode_short v p names (machine_of_port p port) mode h in simp (length-append {A = ℕ}) (omega arith)
deed_short v p names lists a (deed.Phase s) h = let phase = phase_short v p names a s h in omega arith
deed_short v p names lists a (deed.Publish x value) h = let name = elem_name_short p names x in simp (length-append {A = ℕ}) (omega arith)
deed_short v p names lists a (deed.FetchAll l value) h = simp (length-append {A = ℕ}) (omega arith)
deed_short v p names lists a (deed.PublishAll l written value) h = let mask = mask_short p lists l written in simp (length-append {A = ℕ}) (omega arith)
deed_short v p names lists a deed.End h = omega arith

pub entry_short : (v : Version) (p : Plan) → names_fit p ≡ true → lists_sound p ≡ true → (e : Entry) → IsShort v p e.deed → length (entry_text v p e) ≤ 2048
entry_short v p fit lists e h =
    let names = names_pass p fit in
    let actor = actor_short p names e.actor in
    let done = deed_short v p names lists e.actor e.deed h in
    simp (length-append {A = ℕ}) (omega arith)
