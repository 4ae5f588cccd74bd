-- In a sound plan a server's runnable serves it and has its one event, and no mode switch event is disabled.
use Rattle.std.proofs.Common.{◌≡◌, ℕ, Bool, true, false, ◌&&◌, ◌||◌, not, ◌==◌, refl, sym, ◌∙◌, ap, subst, arith, Option, Some, None, length}
use Rattle.bus_semantics.specs.Common.{and_parts, eq-eqb, eqb-true, same_Some, slice_get, option_map_or, same_number, Plan, Runnable, look, every_from, kind_of, disabling_of}
use Rattle.bus_semantics.specs.Common.{runnable_of_event, instance_of, server_sound, kind_sound, disabling_sound, is_invoked, event_sound, server_served, serves_back, IsSound}
use Rattle.std.specs.Prelude.{nat_lt, nat_le}
use Rattle.bus_laws.specs.Common.{ServerPlan, EventPlan, Disabling, EventKind, Init, Invoked, ModeSwitch, Moment, Mapping}
use Rattle.bus_laws.proofs.Thinning.{clash, option_same, every_at, Found, found_where, sought_where}

abbrev pub server_of_runnable : Plan → ℕ → Option ℕ
server_of_runnable p r = look p.runnables r (λ (v : Runnable). v.server) None

either_true : (a b : Bool) → (a || b) ≡ true → b ≡ false → a ≡ true
either_true true b e f = refl
either_true false b e f = clash b e f

-- an event that invokes a server
record Invoking (s : ℕ) (o : Option EventPlan) : Type 0 where
  event : EventPlan
  is : o ≡ Some event
  kind : event.kind ≡ Invoked s

pub kind_at : (p : Plan) (e : ℕ) (v : EventPlan) → slice_get p.events e ≡ Some v → kind_of p e ≡ v.kind
kind_at p e v there = ap (λ (o : Option EventPlan). option_map_or (λ (w : EventPlan). w.kind) o Init) there

module _ (p : Plan) (m : Mapping) (sound : IsSound p m) where
  pub event_at : (e : ℕ) (v : EventPlan) → slice_get p.events e ≡ Some v → event_sound p e v ≡ true
  event_at e v there = every_at (event_sound p) 0 p.events (and_parts (every_from 0 (event_sound p) p.events) (nat_le (length p.events) 16384) sound.events).0 e e v (omega arith) there

  pub kind_part : (e : ℕ) (v : EventPlan) → slice_get p.events e ≡ Some v → kind_sound p e v.runnable (instance_of p v.runnable) v.kind ≡ true
  kind_part e v there =
      let a = nat_lt v.runnable (length p.runnables) in
      let b = kind_sound p e v.runnable (instance_of p v.runnable) v.kind in
      let c = disabling_sound p (instance_of p v.runnable) v.kind v.disabled in
      let d = not (is_invoked v.kind) || every_from 0 (λ i (w : EventPlan). (i == e) || not (w.runnable == v.runnable)) p.events in
      (and_parts b (c && d) (and_parts a (b && (c && d)) (event_at e v there)).1).0

  disabling_part : (e : ℕ) (v : EventPlan) → slice_get p.events e ≡ Some v → disabling_sound p (instance_of p v.runnable) v.kind v.disabled ≡ true
  disabling_part e v there =
      let a = nat_lt v.runnable (length p.runnables) in
      let b = kind_sound p e v.runnable (instance_of p v.runnable) v.kind in
      let c = disabling_sound p (instance_of p v.runnable) v.kind v.disabled in
      let d = not (is_invoked v.kind) || every_from 0 (λ i (w : EventPlan). (i == e) || not (w.runnable == v.runnable)) p.events in
      (and_parts c d (and_parts b (c && d) (and_parts a (b && (c && d)) (event_at e v there)).1).1).0

  alone_part : (e s : ℕ) (v : EventPlan) → slice_get p.events e ≡ Some v → v.kind ≡ Invoked s
      → every_from 0 (λ i (w : EventPlan). (i == e) || not (w.runnable == v.runnable)) p.events ≡ true
  alone_part e s v there is =
      let a = nat_lt v.runnable (length p.runnables) in
      let b = kind_sound p e v.runnable (instance_of p v.runnable) v.kind in
      let c = disabling_sound p (instance_of p v.runnable) v.kind v.disabled in
      let alone = every_from 0 (λ i (w : EventPlan). (i == e) || not (w.runnable == v.runnable)) p.events in
      let d = not (is_invoked v.kind) || alone in
      let last : d ≡ true = (and_parts c d (and_parts b (c && d) (and_parts a (b && (c && d)) (event_at e v there)).1).1).1 in
      subst (λ k. (not (is_invoked k) || alone) ≡ true) is last

  pub server_at : (s : ℕ) (v : ServerPlan) → slice_get p.servers s ≡ Some v → server_served p s v ≡ true
  server_at s v there = every_at (server_served p) 0 p.servers (and_parts (every_from 0 (server_served p) p.servers) (every_from 0 (serves_back p) p.runnables) sound.servers).0 s s v (omega arith) there

  runnable_at : (r : ℕ) (v : Runnable) → slice_get p.runnables r ≡ Some v → serves_back p r v ≡ true
  runnable_at r v there = every_at (serves_back p) 0 p.runnables (and_parts (every_from 0 (server_served p) p.servers) (every_from 0 (serves_back p) p.runnables) sound.servers).1 r r v (omega arith) there

  -- the server of an event's kind has the event's runnable
  server_has : (e s : ℕ) (v : EventPlan) → slice_get p.events e ≡ Some v → v.kind ≡ Invoked s → Found ServerPlan p.servers s (λ w. w.runnable == v.runnable)
  server_has e s v there is =
      let home = instance_of p v.runnable in
      let has = found_where p.servers s (λ (w : ServerPlan). (w.event == e) && ((w.runnable == v.runnable) && same_number (Some w.instance) home))
      (subst (λ k. kind_sound p e v.runnable home k ≡ true) is (kind_part e v there)) in record {
        item = has.item;
        found = has.found;
        holds = (and_parts (has.item.runnable == v.runnable) (same_number (Some has.item.instance) home) (and_parts (has.item.event == e) ((has.item.runnable == v.runnable) && same_number (Some has.item.instance) home) has.holds).1).0;
      }

  -- a server's runnable serves it
  served_back : (s : ℕ) (w : ServerPlan) → slice_get p.servers s ≡ Some w → server_of_runnable p w.runnable ≡ Some s
  served_back s w there =
      let test = λ (r : Runnable). same_number r.server (Some s) in
      let looked = option_map_or test (slice_get p.runnables w.runnable) false in
      let r = found_where p.runnables w.runnable test (last_part (server_sound w) _ looked (server_at s w there)) in
      ap (λ (o : Option Runnable). option_map_or (λ (v : Runnable). v.server) o None) r.found ∙ option_same r.item.server (Some s) r.holds
    where
      last_part : (a b c : Bool) → (a && (b && c)) ≡ true → c ≡ true
      last_part a b c e = (and_parts b c (and_parts a (b && c) e).1).1

  pub invoked_serves : (e s r : ℕ) → kind_of p e ≡ Invoked s → runnable_of_event p e ≡ Some r → server_of_runnable p r ≡ Some s
  invoked_serves e s r kind runs =
      let v = sought_where p.events e (λ (w : EventPlan). Some w.runnable) r runs in
      let w = server_has e s v.item v.found (sym (kind_at p e v.item v.found) ∙ kind) in
      let same : w.item.runnable ≡ r = eqb-true w.item.runnable v.item.runnable w.holds ∙ same_Some v.item.runnable r v.number in
      subst (λ k. server_of_runnable p k ≡ Some s) same (served_back s w.item w.found)

  -- a runnable that serves is the one of its server
  back_at : (r s : ℕ) (v : Runnable) → slice_get p.runnables r ≡ Some v → v.server ≡ Some s → option_map_or (λ (w : ServerPlan). w.runnable == r) (slice_get p.servers s) false ≡ true
  back_at r s v there is = let back : serves_back p r v ≡ true = runnable_at r v there in rw is at back

  -- the event of a server invokes it
  invoked_in : (s : ℕ) (w : ServerPlan) → server_served p s w ≡ true → (o : Option EventPlan) → slice_get p.events w.event ≡ o → Invoking s o
  invoked_in s w served None there =
      let none = rw there at served in absurd (cc (and_parts (server_sound w) false none).1)
  invoked_in s w served (Some v) there = by_kind v.kind refl
    where
      by_kind : (k : EventKind) → v.kind ≡ k → Invoking s (Some v)
      by_kind (Invoked n) is =
          let test = rw (there, is) at served in
          let looked = option_map_or (λ (r : Runnable). same_number r.server (Some s)) (slice_get p.runnables w.runnable) false in
          let same : n ≡ s = eqb-true n s (and_parts (n == s) looked (and_parts (server_sound w) ((n == s) && looked) test).1).0 in
          record { event = v; is = refl; kind = is ∙ ap Invoked same }
      by_kind k is = let test = rw (there, is) at served in absurd (cc (and_parts (server_sound w) false test).1)

  -- an event with the runnable of a server's event is that event
  same_event : (e f s : ℕ) (v w : EventPlan) → slice_get p.events e ≡ Some v → slice_get p.events f ≡ Some w → w.kind ≡ Invoked s → v.runnable ≡ w.runnable → e ≡ f
  same_event e f s v w there here kind same =
      let only : ((e == f) || not (v.runnable == w.runnable)) ≡ true =
      every_at (λ i (u : EventPlan). (i == f) || not (u.runnable == w.runnable)) 0 p.events (alone_part f s w here kind) e e v (omega arith) there in
      eqb-true e f (either_true (e == f) (not (v.runnable == w.runnable)) only (ap not (eq-eqb v.runnable w.runnable same)))

  pub serves_invoked : (e s r : ℕ) → runnable_of_event p e ≡ Some r → server_of_runnable p r ≡ Some s → kind_of p e ≡ Invoked s
  serves_invoked e s r runs serves =
      let v = sought_where p.events e (λ (u : EventPlan). Some u.runnable) r runs in
      let of = sought_where p.runnables r (λ (u : Runnable). u.server) s serves in
      let w = found_where p.servers s (λ (u : ServerPlan). u.runnable == r) (back_at r s of.item of.found of.number) in
      let started = invoked_in s w.item (server_at s w.item w.found) (slice_get p.events w.item.event) refl in
      let has = server_has w.item.event s started.event started.is started.kind in
      let same_server : w.item ≡ has.item = same_Some w.item has.item (sym w.found ∙ has.found) in
      let first : started.event.runnable ≡ r =
      sym (eqb-true has.item.runnable started.event.runnable has.holds) ∙ ap (λ (u : ServerPlan). u.runnable) (sym same_server) ∙ eqb-true w.item.runnable r w.holds in
      let same : e ≡ w.item.event =
      same_event e w.item.event s v.item started.event v.found started.is started.kind (same_Some v.item.runnable r v.number ∙ sym first) in
      subst (λ k. kind_of p k ≡ Invoked s) (sym same) (kind_at p w.item.event started.event started.is ∙ started.kind)

  pub none_disables : (e m' : ℕ) (moment : Moment) → kind_of p e ≡ ModeSwitch m' moment → disabling_of p e ≡ None
  none_disables e m' moment kind = by_event (slice_get p.events e) refl
    where
      by_disabled : (v : EventPlan) (d : Option Disabling) → v.disabled ≡ d → v.kind ≡ ModeSwitch m' moment → disabling_sound p (instance_of p v.runnable) v.kind v.disabled ≡ true → d ≡ None
      by_disabled v None is kind so = refl
      by_disabled v (Some d) is kind so = let no = rw (kind, is) at so in absurd (cc no)

      by_event : (o : Option EventPlan) → slice_get p.events e ≡ o → option_map_or (λ (v : EventPlan). v.disabled) (slice_get p.events e) None ≡ None
      by_event None there = rw there refl
      by_event (Some v) there = rw there (by_disabled v v.disabled refl (sym (kind_at p e v there) ∙ kind) (disabling_part e v there))
