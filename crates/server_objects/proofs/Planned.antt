-- In a sound plan each server has one event and one runnable, and that event alone starts that runnable.
use Rattle.std.proofs.Common.{◌≡◌, ◌<◌, ◌≤◌, ◌+◌, ◌^◌, ℕ, zero, suc, Bool, true, false, ◌&&◌, ◌||◌, ◌==◌, not, refl, sym, ◌∙◌, ap, subst, arith, List, [], ◌∷◌, length, Option, Some, None}
use Rattle.std.specs.Prelude.{nat_lt, nat_le}
use Rattle.bus_semantics.specs.Common.{slice_get, option_map_or, and_parts, eq-eqb, eqb-true, leb-true, same_Some, same_number, Plan, Runnable, look, every_from, kind_of, runnable_of_event}
use Rattle.bus_semantics.specs.Common.{instance_of, first_server, server_sound, kind_sound, disabling_sound, is_invoked, event_sound, server_served, serves_back, IsSound}
use Rattle.bus_semantics.specs.declared.plan.EventPlan.{EventPlan}
use Rattle.bus_semantics.specs.declared.plan.EventKind.{EventKind}
use Rattle.bus_semantics.specs.declared.plan.EventKind.TheVariants.{Init, Invoked}
use Rattle.bus_semantics.specs.declared.plan.ServerPlan.{ServerPlan}
use Rattle.bus_semantics.specs.declared.script.Mapping.{Mapping}
use Rattle.object_kinds.proofs.Lists.{every_at}
use Rattle.object_kinds.proofs.Ranges.{sought, given_at, kind_fits, joined_server}
use Rattle.server_objects.specs.Layout.{server_in, event_in, runnable_in, IsServer}
use Rattle.server_objects.specs.Plans.{AreJoined}
use Rattle.server_objects.proofs.Facts.{same_option}

found_at : {X : Type 0} (xs : List X) (i : ℕ) → i < length xs → (x : X) × (slice_get xs i ≡ Some x)
found_at [] i within = absurd (omega arith)
found_at (x ∷ xs) zero within = (x, refl)
found_at (x ∷ xs) (suc i) within = found_at xs i (omega arith)

-- 32 bits number the points
few_points : (p : Plan) (m : Mapping) → IsSound p m → length p.points < 2 ^ 32
few_points p m sound = let few : length p.points ≤ 262144 = leb-true (length p.points) 262144 sound.few_points in omega arith

-- the OperationInvokedEvent of a server, in the plan
record Invoking (p : Plan) (s event : ℕ) : Type 0 where
  plan : EventPlan
  found : slice_get p.events event ≡ Some plan
  kind : plan.kind ≡ Invoked s

module _ (p : Plan) (m : Mapping) (sound : IsSound p m) (s : ℕ) (v : ServerPlan) (there : slice_get p.servers s ≡ Some v) where
  served : server_served p s v ≡ true
  served = every_at (server_served p) 0 p.servers (and_parts (every_from 0 (server_served p) p.servers) (every_from 0 (serves_back p) p.runnables) sound.servers).0 s s v (omega arith) there

  invoking : Invoking p s v.event
  invoking = by_event (slice_get p.events v.event) refl
    where
      by_event : (o : Option EventPlan) → slice_get p.events v.event ≡ o → Invoking p s v.event
      by_event None at = let none = rw at at served in absurd (cc (and_parts (server_sound v) false none).1)
      by_event (Some w) at = by_kind w.kind refl
        where
          by_kind : (k : EventKind) → w.kind ≡ k → Invoking p s v.event
          by_kind (Invoked n) is =
              let test = rw (at, is) at served in
              let runs = option_map_or (λ (r : Runnable). same_number r.server (Some s)) (slice_get p.runnables v.runnable) false in
              let same : n ≡ s = eqb-true n s (and_parts (n == s) runs (and_parts (server_sound v) ((n == s) && runs) test).1).0 in
              record { plan = w; found = at; kind = is ∙ ap Invoked same }
          by_kind k is = let test = rw (at, is) at served in absurd (cc (and_parts (server_sound v) false test).1)

  -- an event of this kind is the server's, and its runnable the server's
  record OfServer (e : ℕ) (w : EventPlan) : Type 0 where
    event : v.event ≡ e
    runnable : v.runnable ≡ w.runnable

  of_server : (e : ℕ) (w : EventPlan) → slice_get p.events e ≡ Some w → w.kind ≡ Invoked s → OfServer e w
  of_server e w at kind =
      let fits : kind_sound p e w.runnable (instance_of p w.runnable) (Invoked s) ≡ true = subst (λ k. kind_sound p e w.runnable (instance_of p w.runnable) k ≡ true) kind (kind_fits p m sound e w at) in
      let of = sought p.servers s (λ (x : ServerPlan). (x.event == e) && ((x.runnable == w.runnable) && same_number (Some x.instance) (instance_of p w.runnable))) fits in
      let same : of.item ≡ v = same_Some of.item v (sym of.found ∙ there) in
      let parts = and_parts (of.item.event == e) _ of.holds in
      record {
        event = ap (λ (x : ServerPlan). x.event) (sym same) ∙ eqb-true of.item.event e parts.0;
        runnable = ap (λ (x : ServerPlan). x.runnable) (sym same) ∙ eqb-true of.item.runnable w.runnable (and_parts (of.item.runnable == w.runnable) _ parts.1).0;
      }

  invoked : kind_of p v.event ≡ Invoked s
  invoked = ap (λ o. option_map_or (λ (w : EventPlan). w.kind) o Init) invoking.found ∙ invoking.kind

  one_event : (e : ℕ) → kind_of p e ≡ Invoked s → e ≡ v.event
  one_event e kind = by_event (slice_get p.events e) refl
    where
      by_event : (o : Option EventPlan) → slice_get p.events e ≡ o → e ≡ v.event
      by_event None at = let no : Init ≡ Invoked s = sym (ap (λ o. option_map_or (λ (w : EventPlan). w.kind) o Init) at) ∙ kind in absurd (cc no)
      by_event (Some w) at = sym (of_server e w at (sym (ap (λ o. option_map_or (λ (x : EventPlan). x.kind) o Init) at) ∙ kind)).event

  started : runnable_of_event p v.event ≡ Some v.runnable
  started = ap (λ o. option_map_or (λ (w : EventPlan). Some w.runnable) o None) invoking.found ∙ ap (λ r. Some r) (sym (of_server v.event invoking.plan invoking.found invoking.kind).runnable)

  alone : (e : ℕ) → runnable_of_event p e ≡ Some v.runnable → e ≡ v.event
  alone e starts =
      let at = given_at p.events e (λ (w : EventPlan). Some w.runnable) v.runnable starts in
      let w = invoking.plan in
      let mine : v.runnable ≡ w.runnable = (of_server v.event w invoking.found invoking.kind).runnable in
      let whole : event_sound p v.event w ≡ true = every_at (event_sound p) 0 p.events (and_parts (every_from 0 (event_sound p) p.events) (nat_le (length p.events) 16384) sound.events).0 v.event v.event w (omega arith) invoking.found in
      let a = nat_lt w.runnable (length p.runnables) in
      let b = kind_sound p v.event w.runnable (instance_of p w.runnable) w.kind in
      let c = disabling_sound p (instance_of p w.runnable) w.kind w.disabled in
      let others = every_from 0 (λ i (x : EventPlan). (i == v.event) || not (x.runnable == w.runnable)) p.events in
      let last : (not (is_invoked w.kind) || others) ≡ true =
      (and_parts c (not (is_invoked w.kind) || others) (and_parts b (c && (not (is_invoked w.kind) || others)) (and_parts a (b && (c && (not (is_invoked w.kind) || others))) whole).1).1).1 in
      let all : others ≡ true = (λ i. not (is_invoked (sym invoking.kind i)) || others) ∙ last in
      let here : ((e == v.event) || not (at.item.runnable == w.runnable)) ≡ true = every_at (λ i (x : EventPlan). (i == v.event) || not (x.runnable == w.runnable)) 0 p.events all e e at.item (omega arith) at.found in
      let same : (at.item.runnable == w.runnable) ≡ true = eq-eqb at.item.runnable w.runnable (same_Some at.item.runnable v.runnable at.gives ∙ mine) in
      eqb-true e v.event (either (e == v.event) refl ∙ (λ i. (e == v.event) || not (sym same i)) ∙ here)
    where
      either : (b : Bool) {c : Bool} → c ≡ b → c ≡ (b || false)
      either true is = is
      either false is = is

  serves : look p.runnables v.runnable (λ (r : Runnable). r.server) None ≡ Some s
  serves =
      let w = invoking in
      let runs = option_map_or (λ (r : Runnable). same_number r.server (Some s)) (slice_get p.runnables v.runnable) false in
      let at = sought p.runnables v.runnable (λ (r : Runnable). same_number r.server (Some s)) (and_parts _ runs (and_parts (server_sound v) _ served).1).1 in
      ap (λ o. option_map_or (λ (r : Runnable). r.server) o None) at.found ∙ same_option at.item.server (Some s) at.holds

  one_runnable : (r : ℕ) → look p.runnables r (λ (x : Runnable). x.server) None ≡ Some s → r ≡ v.runnable
  one_runnable r home =
      let at = given_at p.runnables r (λ (x : Runnable). x.server) s home in
      let back : serves_back p r at.item ≡ true = every_at (serves_back p) 0 p.runnables (and_parts (every_from 0 (server_served p) p.servers) (every_from 0 (serves_back p) p.runnables) sound.servers).1 r r at.item (omega arith) at.found in
      let is = at.gives in
      let found = rw is at back in
      let of = sought p.servers s (λ (x : ServerPlan). x.runnable == r) found in
      let same : of.item ≡ v = same_Some of.item v (sym of.found ∙ there) in
      sym (ap (λ (x : ServerPlan). x.runnable) (sym same) ∙ eqb-true of.item.runnable r of.holds)

  event_is : event_in p s ≡ v.event
  event_is = ap (λ o. option_map_or (λ (x : ServerPlan). x.event) o 0) there

  runnable_is : runnable_in p s ≡ v.runnable
  runnable_is = ap (λ o. option_map_or (λ (x : ServerPlan). x.runnable) o 0) there

  -- what a server's object needs of its plan
  record Facts (t : ℕ) : Type 0 where
    invoked_by : kind_of p (event_in p t) ≡ Invoked t
    by_one : (e : ℕ) → kind_of p e ≡ Invoked t → e ≡ event_in p t
    starts_it : runnable_of_event p (event_in p t) ≡ Some (runnable_in p t)
    by_it_alone : (e : ℕ) → runnable_of_event p e ≡ Some (runnable_in p t) → e ≡ event_in p t
    served_by_it : look p.runnables (runnable_in p t) (λ (r : Runnable). r.server) None ≡ Some t
    by_one_runnable : (r : ℕ) → look p.runnables r (λ (x : Runnable). x.server) None ≡ Some t → r ≡ runnable_in p t

  facts : Facts s
  facts = record {
    invoked_by = ap (kind_of p) event_is ∙ invoked;
    by_one = λ e kind. one_event e kind ∙ sym event_is;
    starts_it = ap (runnable_of_event p) event_is ∙ started ∙ ap (λ r. Some r) (sym runnable_is);
    by_it_alone = λ e starts. alone e (starts ∙ ap (λ r. Some r) runnable_is) ∙ sym event_is;
    served_by_it = ap (λ n. look p.runnables n (λ (r : Runnable). r.server) None) runnable_is ∙ serves;
    by_one_runnable = λ r home. one_runnable r home ∙ sym runnable_is;
  }

  the_server : s < length p.servers → IsServer p (first_server p + s)
  the_server within =
      let number : server_in p (first_server p + s) ≡ s = omega arith in
      let f : Facts (server_in p (first_server p + s)) = subst Facts (sym number) facts in
      record {
        from = omega arith;
        below = omega arith;
        few_points = few_points p m sound;
        invoked = f.invoked_by;
        one_event = f.by_one;
        started = f.starts_it;
        alone = f.by_it_alone;
        serves = f.served_by_it;
        one_runnable = f.by_one_runnable;
      }

pub server_of_plan : (p : Plan) (m : Mapping) (s : ℕ) → IsSound p m → s < length p.servers → IsServer p (first_server p + s)
server_of_plan p m s sound within = let at = found_at p.servers s within in the_server p m sound s at.0 at.1 within

pub all_joined : (p : Plan) (m : Mapping) → IsSound p m → AreJoined p
all_joined p m sound = record { within = joined_server p m sound; few = few_points p m sound }
