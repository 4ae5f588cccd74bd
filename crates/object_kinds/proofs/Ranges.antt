-- In a sound plan what is named is there.
use Rattle.std.proofs.Common.{◌≡◌, ℕ, zero, suc, ◌<◌, Bool, true, false, ◌&&◌, ◌||◌, not, ◌==◌, refl, sym, ◌∙◌, ap, subst, arith, List, [], ◌∷◌, length, Option, Some, None}
use Rattle.std.specs.Prelude.{nat_lt, nat_le, option_map}
use Rattle.bus_semantics.specs.Common.{list_all, list_any, slice_get, option_map_or, and_parts, eqb-true, false≢true, ltb-true, same_Some, same_number, Plan, Runnable, look, every_from}
use Rattle.bus_semantics.specs.Common.{kind_of, group_of, server_of, machine_of_port, instance_of, elems_of, home_of, bundle_of, bundle_of_list, disabler_of, served_by, requires_machine}
use Rattle.bus_semantics.specs.Common.{kind_sound, disabling_sound, is_invoked, event_sound, server_served, serves_back, bundles_fit, IsSound}
use Rattle.bus_laws.specs.Common.{PointPlan, ServerPlan, ModePortPlan, EventPlan, EventKind, Init, Invoked, ModeSwitch, Ack, Moment, Disabling, Mapping, Actor, Env, Machine, Act}
use Rattle.object_kinds.proofs.Lists.{all_at, every_at}
use Rattle.object_kinds.proofs.Options.{clash, then_some}

-- ---- what is looked up

pub record Sought (X : Type 0) (xs : List X) (i : ℕ) (test : X → Bool) : Type 0 where
  pub item : X
  pub found : slice_get xs i ≡ Some item
  pub holds : test item ≡ true
  pub within : i < length xs

pub sought : {X : Type 0} (xs : List X) (i : ℕ) (test : X → Bool) → look xs i test false ≡ true → Sought X xs i test
sought [] i test e = absurd (false≢true e)
sought (x ∷ xs) zero test e = record { item = x; found = refl; holds = e; within = omega arith }
sought (x ∷ xs) (suc i) test e =
    let deeper = sought xs i test e in
    let less = deeper.within in
    record { item = deeper.item; found = deeper.found; holds = deeper.holds; within = omega arith }

pub record Looked (X Y : Type 0) (xs : List X) (i : ℕ) (f : X → Option Y) (y : Y) : Type 0 where
  pub item : X
  pub found : slice_get xs i ≡ Some item
  pub gives : f item ≡ Some y

pub given_at : {X Y : Type 0} (xs : List X) (i : ℕ) (f : X → Option Y) (y : Y) → look xs i f None ≡ Some y → Looked X Y xs i f y
given_at [] i f y e = absurd (cc e)
given_at (x ∷ xs) zero f y e = record { item = x; found = refl; gives = e }
given_at (x ∷ xs) (suc i) f y e = let deeper = given_at xs i f y e in record { item = deeper.item; found = deeper.found; gives = deeper.gives }

has_with : {X : Type 0} (test : X → Bool) (xs : List X) (i : ℕ) (x y : X) → list_all test xs ≡ true → slice_get xs i ≡ Some x → x ≡ y → test y ≡ true
has_with test xs i x y all there same = subst (λ z. test z ≡ true) same (all_at test xs i x all there)

-- ---- bundles

pub homes_within : (p : Plan) → bundles_fit p ≡ true → (g b : ℕ) → home_of p g ≡ Some b → b < length p.bundles
homes_within p fit g b is =
    let at = given_at p.homes g (λ (n : ℕ). Some n) b is in
    let same : at.item ≡ b = same_Some at.item b at.gives in
    let all : list_all (λ n. nat_lt n (length p.bundles)) p.homes ≡ true = (and_parts _ _ (and_parts _ _ fit).1).0 in
    subst (λ n. n < length p.bundles) same (ltb-true at.item (length p.bundles) (all_at (λ n. nat_lt n (length p.bundles)) p.homes g at.item all at.found))

-- ---- events

record KindAt (p : Plan) (e : ℕ) (k : EventKind) : Type 0 where
  event : EventPlan
  found : slice_get p.events e ≡ Some event
  kind : event.kind ≡ k

is_no_init : EventKind → Bool
is_no_init Init = false
is_no_init _ = true

module _ (p : Plan) (m : Mapping) (sound : IsSound p m) where
  event_at : (e : ℕ) (v : EventPlan) → slice_get p.events e ≡ Some v → event_sound p e v ≡ true
  event_at e v there = every_at (event_sound p) 0 p.events (and_parts (every_from 0 (event_sound p) p.events) (nat_le (length p.events) 16384) sound.events).0 e e v (omega arith) there

  pub kind_fits : (e : ℕ) (v : EventPlan) → slice_get p.events e ≡ Some v → kind_sound p e v.runnable (instance_of p v.runnable) v.kind ≡ true
  kind_fits e v there =
      let a = nat_lt v.runnable (length p.runnables) in
      let b = kind_sound p e v.runnable (instance_of p v.runnable) v.kind in
      let c = disabling_sound p (instance_of p v.runnable) v.kind v.disabled in
      let d = not (is_invoked v.kind) || every_from 0 (λ i (w : EventPlan). (i == e) || not (w.runnable == v.runnable)) p.events in
      (and_parts b (c && d) (and_parts a (b && (c && d)) (event_at e v there)).1).0

  disabling_fits : (e : ℕ) (v : EventPlan) → slice_get p.events e ≡ Some v → disabling_sound p (instance_of p v.runnable) v.kind v.disabled ≡ true
  disabling_fits e v there =
      let a = nat_lt v.runnable (length p.runnables) in
      let b = kind_sound p e v.runnable (instance_of p v.runnable) v.kind in
      let c = disabling_sound p (instance_of p v.runnable) v.kind v.disabled in
      let d = not (is_invoked v.kind) || every_from 0 (λ i (w : EventPlan). (i == e) || not (w.runnable == v.runnable)) p.events in
      (and_parts c d (and_parts b (c && d) (and_parts a (b && (c && d)) (event_at e v there)).1).1).0

  kind_at : (e : ℕ) (k : EventKind) → kind_of p e ≡ k → is_no_init k ≡ true → KindAt p e k
  unfolding is_no_init
  kind_at e k is other = by_event (slice_get p.events e) refl
    where
      by_event : (o : Option EventPlan) → slice_get p.events e ≡ o → KindAt p e k
      by_event None there = let gone : Init ≡ k = sym (ap (λ (o : Option EventPlan). option_map_or (λ (v : EventPlan). v.kind) o Init) there) ∙ is in
          clash (is_no_init k) other (ap is_no_init (sym gone))
      by_event (Some v) there = record { event = v; found = there; kind = sym (ap (λ (o : Option EventPlan). option_map_or (λ (w : EventPlan). w.kind) o Init) there) ∙ is }

  -- a machine that an instance requires is there
  machine_required : (home : Option ℕ) (n : ℕ) → requires_machine p home n ≡ true → n < length p.machines
  machine_required home n e = by_port p.mode_ports e sound.mode_ports
    where
      by_port : (ts : List ModePortPlan) → list_any (λ (t : ModePortPlan). same_number t.instance home && (t.machine == n)) ts ≡ true → list_all (λ (t : ModePortPlan). nat_lt t.machine (length p.machines)) ts ≡ true → n < length p.machines
      by_port [] any all = absurd (false≢true any)
      by_port (t ∷ ts) any all = by_test (same_number t.instance home && (t.machine == n)) refl (by_port ts) any
        where
          by_test : (b : Bool) → (same_number t.instance home && (t.machine == n)) ≡ b
              → (list_any (λ (u : ModePortPlan). same_number u.instance home && (u.machine == n)) ts ≡ true → list_all (λ (u : ModePortPlan). nat_lt u.machine (length p.machines)) ts ≡ true → n < length p.machines)
              → (b || list_any (λ (u : ModePortPlan). same_number u.instance home && (u.machine == n)) ts) ≡ true → n < length p.machines
          by_test true is deeper rest =
              let same : t.machine ≡ n = eqb-true t.machine n (and_parts (same_number t.instance home) (t.machine == n) is).1 in
              subst (λ k. k < length p.machines) same (ltb-true t.machine (length p.machines) (and_parts (nat_lt t.machine (length p.machines)) (list_all (λ (u : ModePortPlan). nat_lt u.machine (length p.machines)) ts) all).0)
          by_test false is deeper rest = deeper rest (and_parts (nat_lt t.machine (length p.machines)) (list_all (λ (u : ModePortPlan). nat_lt u.machine (length p.machines)) ts) all).1

  pub invoked_server : (e s : ℕ) → kind_of p e ≡ Invoked s → s < length p.servers
  unfolding is_no_init
  invoked_server e s is =
      let at = kind_at e (Invoked s) is refl in
      let v = at.event in
      (sought p.servers s (λ (w : ServerPlan). (w.event == e) && ((w.runnable == v.runnable) && same_number (Some w.instance) (instance_of p v.runnable)))
      (subst (λ k. kind_sound p e v.runnable (instance_of p v.runnable) k ≡ true) at.kind (kind_fits e v at.found))).within

  pub switching_machine : (e n : ℕ) (moment : Moment) → kind_of p e ≡ ModeSwitch n moment → n < length p.machines
  unfolding is_no_init
  switching_machine e n moment is =
      let at = kind_at e (ModeSwitch n moment) is refl in
      let v = at.event in
      machine_required (instance_of p v.runnable) n (and_parts (requires_machine p (instance_of p v.runnable) n) _ (subst (λ k. kind_sound p e v.runnable (instance_of p v.runnable) k ≡ true) at.kind (kind_fits e v at.found))).0

  pub acked_machine : (e n : ℕ) → kind_of p e ≡ Ack n → n < length p.machines
  unfolding is_no_init
  acked_machine e n is =
      let at = kind_at e (Ack n) is refl in
      let v = at.event in
      (sought p.machines n _ (subst (λ k. kind_sound p e v.runnable (instance_of p v.runnable) k ≡ true) at.kind (kind_fits e v at.found))).within

  pub disabling_machine : (e n : ℕ) → disabler_of p e ≡ Some n → n < length p.machines
  disabling_machine e n is = by_event (slice_get p.events e) refl
    where
      by_event : (o : Option EventPlan) → slice_get p.events e ≡ o → n < length p.machines
      by_event None there =
          let none : disabler_of p e ≡ None = ap (λ (o : Option EventPlan). option_map (λ (d : Disabling). d.machine) (option_map_or (λ (v : EventPlan). v.disabled) o None)) there in
          absurd (cc (sym none ∙ is))
      by_event (Some v) there = by_disabling v.disabled refl
        where
          by_disabling : (o : Option Disabling) → v.disabled ≡ o → n < length p.machines
          by_disabling None none =
              let gone : disabler_of p e ≡ None = ap (λ (o : Option EventPlan). option_map (λ (d : Disabling). d.machine) (option_map_or (λ (w : EventPlan). w.disabled) o None)) there ∙ ap (option_map (λ (d : Disabling). d.machine)) none in
              absurd (cc (sym gone ∙ is))
          by_disabling (Some d) some =
              let here : disabler_of p e ≡ Some d.machine = ap (λ (o : Option EventPlan). option_map (λ (d : Disabling). d.machine) (option_map_or (λ (w : EventPlan). w.disabled) o None)) there ∙ ap (option_map (λ (d : Disabling). d.machine)) some in
              let same : d.machine ≡ n = same_Some d.machine n (sym here ∙ is) in
              let fits : disabling_sound p (instance_of p v.runnable) v.kind (Some d) ≡ true = subst (λ o. disabling_sound p (instance_of p v.runnable) v.kind o ≡ true) some (disabling_fits e v there) in
              subst (λ k. k < length p.machines) same (machine_required (instance_of p v.runnable) d.machine (and_parts _ _ (and_parts _ _ fits).1).0)

  -- bundles

  pub home_within : (g b : ℕ) → home_of p g ≡ Some b → b < length p.bundles
  home_within = homes_within p sound.bundles

  pub bundle_within : (x b : ℕ) → bundle_of p x ≡ Some b → b < length p.bundles
  bundle_within x b is = let at = then_some (home_of p) (group_of p x) b is in home_within at.item b at.gives

  pub list_within : (l b : ℕ) → bundle_of_list p l ≡ Some b → b < length p.bundles
  list_within l b is = let at = then_some (bundle_of p) (slice_get (elems_of p l) 0) b is in bundle_within at.item b at.gives

  -- servers and machines

  pub joined_server : (q s : ℕ) → server_of p q ≡ Some s → s < length p.servers
  joined_server q s is =
      let at = given_at p.points q (λ (t : PointPlan). t.server) s is in
      let t = at.item in
      let has = at.gives in
      let joined : PointPlan = record { runnable = t.runnable; name = t.name; server = Some s; asynchronous = t.asynchronous; ins = t.ins; outs = t.outs } in
      let same : t ≡ joined = λ i. record { runnable = t.runnable; name = t.name; server = has i; asynchronous = t.asynchronous; ins = t.ins; outs = t.outs } in
      (sought p.servers s _ (and_parts _ _ (has_with _ p.points q t joined (and_parts _ _ sound.operations).1 at.found same)).1).within

  pub port_machine : (port n : ℕ) → machine_of_port p port ≡ Some n → n < length p.machines
  port_machine port n is =
      let at = given_at p.mode_ports port (λ (t : ModePortPlan). Some t.machine) n is in
      let same : at.item.machine ≡ n = same_Some at.item.machine n at.gives in
      subst (λ k. k < length p.machines) same (ltb-true at.item.machine (length p.machines) (all_at (λ (t : ModePortPlan). nat_lt t.machine (length p.machines)) p.mode_ports port at.item sound.mode_ports at.found))

  pub serving_server : (a : Actor) (s : ℕ) → served_by p a ≡ Some s → s < length p.servers
  serving_server Env s is = absurd (cc is)
  serving_server (Machine n) s is = absurd (cc is)
  serving_server (Act k) s is =
      let at = given_at p.runnables k.runnable (λ (r : Runnable). r.server) s is in
      let has = at.gives in
      let back = every_at (serves_back p) 0 p.runnables (and_parts (every_from 0 (server_served p) p.servers) (every_from 0 (serves_back p) p.runnables) sound.servers).1 k.runnable k.runnable at.item (omega arith) at.found in
      let serves = rw has at back in
      (sought p.servers s _ serves).within
