-- A sound plan has what its objects need, and a wish that fits touches an object that there is.
use Rattle.std.proofs.Common.{◌≡◌, ℕ, zero, suc, ◌+◌, ◌<◌, ◌≤◌, ◌^◌, Bool, true, false, not, ◌&&◌, ◌||◌, ◌==◌, ◌⊎◌, inl, inr, refl, sym, ◌∙◌, ap, subst, arith, List, [], ◌∷◌, length, map}
use Rattle.std.proofs.Common.{Option, Some, None}
use Rattle.std.specs.Prelude.{IfSome, nat_lt, nat_le, option_map, option_and_then, sum}
use Rattle.bus_semantics.specs.Common.{list_all, list_any, slice_get, option_map_or, and_parts, or_left, or_right, eqb-true, false≢true, nat_tests, slice_get_within, same_number, Plan, look}
use Rattle.bus_semantics.specs.Common.{every_from, group_of, kind_of, instance_of, server_of, machine_of_port, home_of, bundle_of, bundle_of_list, bundles_fit, Wanted, to_tick, to_start}
use Rattle.bus_semantics.specs.Common.{to_admit, to_fetch, to_write, to_read, to_invalidate, to_see_updated, to_send, to_receive, to_ask, to_hear, to_take_result, to_return, to_enter}
use Rattle.bus_semantics.specs.Common.{to_leave, to_switch, to_see_mode, to_move_on, to_publish, to_fetch_all, to_publish_all, to_end, wanted_by, Noted, first_server, first_area}
use Rattle.bus_semantics.specs.Common.{first_machine, clock, object_of, object_of_kind, disabler_of, machine_of_event, owing, served_by, touched_by, IsObject, area_fits, switch_fits}
use Rattle.bus_semantics.specs.Common.{wish_fits, answer_fits, fits, event_sound, kind_sound, is_in_group, places_at, IsSound}
use Rattle.bus_laws.specs.Common.{AreaPlan, MachinePlan, EventPlan, EventKind, Timing, Init, DataReceived, Invoked, Returns, ModeSwitch, Ack, Mapping, Actor, Env, Machine, Act, Deed}
use Rattle.bus_laws.specs.Common.{CoherentList}
use Rattle.bus_semantics.specs.declared.entries.Deed.TheVariants as deed
use Rattle.queue_objects.specs.Layout.{receivers_of, is_queued_at, IsQueuedGroup}
use Rattle.data_objects.specs.Layout.{IsUnqueuedGroup}
use Rattle.server_objects.specs.Layout.{IsServer}
use Rattle.server_objects.specs.Plans.{AreJoined}
use Rattle.machine_objects.specs.Layout.{IsMachine}
use Rattle.machine_objects.specs.Plans.{AreTheirs}
use Rattle.clock_objects.specs.Layout.{has_period}
use Rattle.bus_laws.proofs.Bundling.{homes_counted, there_home}
use Rattle.bus_laws.proofs.OneBundle.{list_home}
use Rattle.bus_laws.proofs.ObjectLists.{IsNamed, IsUnnamed, named_or_not, unnamed_untouched}
use Rattle.object_kinds.specs.Layout.{group_at, members_of}
use Rattle.object_kinds.proofs.Alone.{untouched_bundle}
use Rattle.object_kinds.proofs.Lists.{all_at}
use Rattle.object_kinds.proofs.Members.{member_placed, members_all}
use Rattle.object_kinds.proofs.Options.{clash, number_is, is_number}
use Rattle.object_kinds.proofs.Placing.{place_at}
use Rattle.object_kinds.proofs.Touching.{listed_not_queued}
use Rattle.object_kinds.proofs.Proper.{by_actor}
use Rattle.object_kinds.proofs.Ranges.{sought, kind_fits, bundle_within, list_within, invoked_server, switching_machine, acked_machine, disabling_machine, joined_server, port_machine, serving_server}
use Rattle.port_objects.specs.Plans.{has_queues, QueuesFit, IsOfOneKind, is_listed, IsOfKind, HasObjects}

all_where : {X : Type 0} (test : X → Bool) (xs : List X) → ((i : ℕ) (x : X) → slice_get xs i ≡ Some x → test x ≡ true) → list_all test xs ≡ true
all_where test [] each = refl
all_where test (x ∷ xs) each = ap (λ b. b && list_all test xs) (each zero x refl) ∙ all_where test xs (λ i y there. each (suc i) y there)

-- a group of a sound plan with a queued element is a group of queued elements
abbrev QueuedWhole : Plan → Type 0
QueuedWhole p = (group elem : ℕ) → is_in_group p group elem ≡ true → is_queued_at p elem ≡ true → IsQueuedGroup p group

-- so all its elements are of the kind of its first one
by_first : (p : Plan) (g : ℕ) (xs : List ℕ) → members_of p g ≡ xs → QueuedWhole p → (x : ℕ) → is_in_group p g x ≡ true → is_queued_at p x ≡ true → look xs 0 (is_queued_at p) false ≡ true
by_first p g [] none whole x inside queued = let at = member_placed p g x inside in absurd (cc (sym (ap (λ ys. slice_get ys at.at) none) ∙ place_at x (members_of p g) at.at at.is))
by_first p g (y ∷ ys) first whole x inside queued =
    (and_parts (is_queued_at p y) (list_all (is_queued_at p) ys) (sym (ap (list_all (is_queued_at p)) first) ∙ (whole g x inside queued).queued)).0

one_kind : (p : Plan) (g : ℕ) → g < length p.groups → QueuedWhole p → (IsQueuedGroup p g → sum (map (places_at p) (receivers_of p g)) < 2 ^ 32) → (b : Bool) → has_queues p g ≡ b → IsOfOneKind p g b
one_kind p g within whole few true is = by_members (members_of p g) refl is
  where
    by_members : (xs : List ℕ) → members_of p g ≡ xs → look xs 0 (is_queued_at p) false ≡ true → QueuesFit p g
    by_members [] none first = absurd (false≢true first)
    by_members (y ∷ ys) members first =
        let inside : is_in_group p g y ≡ true = all_at (is_in_group p g) (members_of p g) 0 y (members_all p g) (ap (λ xs. slice_get xs 0) members) in
        let queued = whole g y inside first in
        record { queued = queued; places = few queued }
one_kind p g within whole few false is = record { number = within; unqueued = none_queued (members_of p g) (members_all p g) }
  where
    is_unqueued : (x : ℕ) → is_in_group p g x ≡ true → (b : Bool) → is_queued_at p x ≡ b → not b ≡ true
    is_unqueued x inside false queued = refl
    is_unqueued x inside true queued = absurd (false≢true (sym is ∙ by_first p g (members_of p g) refl whole x inside queued))

    none_queued : (xs : List ℕ) → list_all (is_in_group p g) xs ≡ true → list_all (λ x. not (is_queued_at p x)) xs ≡ true
    none_queued [] all = refl
    none_queued (x ∷ xs) all =
        let parts = and_parts (is_in_group p g x) (list_all (is_in_group p g) xs) all in
        λ i. is_unqueued x parts.0 (is_queued_at p x) refl i && none_queued xs parts.1 i

-- which list touches a bundle
record Listing (p : Plan) (b : ℕ) : Type 0 where
  list : ℕ
  touched : bundle_of_list p list ≡ Some b

list_is : (p : Plan) (l : ℕ) (c : CoherentList) → slice_get p.lists l ≡ Some c → bundle_of_list p l ≡ option_and_then (bundle_of p) (slice_get c.elems 0)
list_is p l c at = ap (λ (o : Option CoherentList). option_and_then (bundle_of p) (slice_get (option_map_or (λ (d : CoherentList). d.elems) o []) 0)) at

any_at : (f : CoherentList → Bool) (cs : List CoherentList) (l : ℕ) (c : CoherentList) → slice_get cs l ≡ Some c → f c ≡ true → list_any f cs ≡ true
any_at f [] l c at on = absurd (cc at)
any_at f (d ∷ cs) zero c at on = let same : d ≡ c = cc in or_left (f d) (list_any f cs) (subst (λ e. f e ≡ true) (sym same) on)
any_at f (d ∷ cs) (suc l) c at on = or_right (f d) (list_any f cs) (any_at f cs l c at on)

any_found : (f : CoherentList → Bool) (cs : List CoherentList) → list_any f cs ≡ true → (l : ℕ) × ((c : CoherentList) × ((slice_get cs l ≡ Some c) × (f c ≡ true)))
any_found f [] any = absurd (false≢true any)
any_found f (c ∷ cs) any = by_first (f c) refl any (any_found f cs)
  where
    by_first : (b : Bool) → f c ≡ b → (b || list_any f cs) ≡ true → (list_any f cs ≡ true → (l : ℕ) × ((d : CoherentList) × ((slice_get cs l ≡ Some d) × (f d ≡ true))))
        → (l : ℕ) × ((d : CoherentList) × ((slice_get (c ∷ cs) l ≡ Some d) × (f d ≡ true)))
    by_first true is any rest = (0, (c, (refl, is)))
    by_first false is any rest = let found = rest any in (suc found.0, (found.1.0, (found.1.1.0, found.1.1.1)))

listing : (p : Plan) (b : ℕ) → is_listed p b ≡ true → Listing p b
listing p b is =
    let found = any_found (λ (c : CoherentList). same_number (option_and_then (bundle_of p) (slice_get c.elems 0)) (Some b)) p.lists is in
    record { list = found.0; touched = list_is p found.0 found.1.0 found.1.1.0 ∙ number_is (option_and_then (bundle_of p) (slice_get found.1.0.elems 0)) b found.1.1.1 }

unlisted : (p : Plan) (b : ℕ) → is_listed p b ≡ false → (l : ℕ) → bundle_of_list p l ≡ Some b → ⊥
unlisted p b off l is = by_list (slice_get p.lists l) refl
  where
    by_list : (o : Option CoherentList) → slice_get p.lists l ≡ o → ⊥
    by_list None at = cc (sym (ap (λ (o : Option CoherentList). option_and_then (bundle_of p) (slice_get (option_map_or (λ (d : CoherentList). d.elems) o []) 0)) at) ∙ is)
    by_list (Some c) at = false≢true (sym off ∙ any_at (λ (d : CoherentList). same_number (option_and_then (bundle_of p) (slice_get d.elems 0)) (Some b)) p.lists l c at (is_number (option_and_then (bundle_of p) (slice_get c.elems 0)) b (sym (list_is p l c at) ∙ is)))

-- what has a home is one of the plan's groups
home_below : (p : Plan) → bundles_fit p ≡ true → (g b : ℕ) → home_of p g ≡ Some b → g < length p.groups
home_below p fit g b home = omega (arith, slice_get_within p.homes g b (there_home p fit g b home), homes_counted p fit)

pub has_objects : (p : Plan) (m : Mapping) → (sound : IsSound p m) → ((group elem : ℕ) → IsSound p m → is_in_group p group elem ≡ true → is_queued_at p elem ≡ true → IsQueuedGroup p group)
    → ((group : ℕ) → IsSound p m → IsQueuedGroup p group → sum (map (places_at p) (receivers_of p group)) < 2 ^ 32)
    → ((server : ℕ) → IsSound p m → server < length p.servers → IsServer p (first_server p + server)) → (IsSound p m → AreJoined p)
    → ((object : ℕ) → IsSound p m → first_machine p ≤ object → object < clock p → IsMachine p object) → (IsSound p m → AreTheirs p) → HasObjects p
has_objects p m sound whole few servers joined machines theirs = record {
  groups = sound.groups;
  bundles = sound.bundles;
  kinds = λ b within. by_lists b within (is_listed p b) refl;
  servers = λ s within. servers s sound within;
  joined = joined sound;
  machines = λ n within. machines (first_machine p + n) sound (omega arith) (omega (arith, within));
  theirs = theirs sound;
  counted = sound.objects;
  few_events = (and_parts (every_from 0 (event_sound p) p.events) (nat_le (length p.events) 16384) sound.events).1;
  periods = all_where (λ (v : EventPlan). has_period v.kind) p.events (λ i v there. of_kind i v.runnable (instance_of p v.runnable) v.kind (kind_fits p m sound i v there));
}
  where
    group_kind : (g : ℕ) → g < length p.groups → IsOfOneKind p g (has_queues p g)
    group_kind g within = one_kind p g within (λ h x. whole h x sound) (few g sound) (has_queues p g) refl

    -- a group that a list names is unqueued
    named_kind : (g : ℕ) → g < length p.groups → IsNamed p g → IsUnqueuedGroup p g
    named_kind g within named = by_kind (has_queues p g) (group_kind g within)
      where
        by_kind : (b : Bool) → IsOfOneKind p g b → IsUnqueuedGroup p g
        by_kind false is = is
        by_kind true is =
            let inside : is_in_group p g named.elem ≡ true = is_number (group_of p named.elem) g named.group in
            let there = member_placed p g named.elem inside in
            clash (is_queued_at p named.elem) (all_at (is_queued_at p) (members_of p g) there.at named.elem is.queued.queued (place_at named.elem (members_of p g) there.at there.is)) (listed_not_queued p m sound named.list named.elem named.there)

    touched_kind : (b g l : ℕ) → bundle_of_list p l ≡ Some b → home_of p g ≡ Some b → IsNamed p g ⊎ IsUnnamed p g → IsUnqueuedGroup p g
    touched_kind b g l touched home (inl named) = named_kind g (home_below p sound.bundles g b home) named
    touched_kind b g l touched home (inr unnamed) = absurd (unnamed_untouched p m sound g b unnamed home l touched)

    by_lists : (b : ℕ) → b < length p.bundles → (listed : Bool) → is_listed p b ≡ listed → IsOfKind p b listed
    by_lists b within true is =
        let touching = listing p b is in
        record {
          number = within;
          groups = λ g home. touched_kind b g touching.list touching.touched home (named_or_not p g);
          together = λ list elem home there. list_home p m sound list elem there ∙ home;
        }
    by_lists b within false is =
        let alone = untouched_bundle p m sound b within (unlisted p b is) in
        record { alone = alone; kind = group_kind (group_at p b) (home_below p sound.bundles (group_at p b) b alone.home) }

    of_kind : (e r : ℕ) (home : Option ℕ) (k : EventKind) → kind_sound p e r home k ≡ true → has_period k ≡ true
    of_kind e r home (Timing period) fit = (and_parts (nat_le 1 period) (nat_le period 1000000) fit).0
    of_kind e r home Init fit = refl
    of_kind e r home (DataReceived x) fit = refl
    of_kind e r home (Invoked s) fit = refl
    of_kind e r home (Returns q) fit = refl
    of_kind e r home (ModeSwitch n moment) fit = refl
    of_kind e r home (Ack n) fit = refl

where_some : (o : Option ℕ) (P : ℕ → Type 0) → ((n : ℕ) → o ≡ Some n → P n) → IfSome o P
where_some None P each = tt
where_some (Some n) P each = each n refl

where_mapped : (f : ℕ → ℕ) (o : Option ℕ) (P : ℕ → Type 0) → ((n : ℕ) → o ≡ Some n → P (f n)) → IfSome (option_map f o) P
where_mapped f None P each = tt
where_mapped f (Some n) P each = each n refl

module _ (p : Plan) (m : Mapping) (sound : IsSound p m) where
  counted : p.objects ≡ clock p + 1
  counted = eqb-true p.objects (clock p + 1) (and_parts (p.objects == clock p + 1) _ sound.objects).0

  the_clock : IsObject p (clock p)
  the_clock = let all = counted in omega arith

  a_bundle : (o : Option ℕ) → ((b : ℕ) → o ≡ Some b → b < length p.bundles) → IfSome o (IsObject p)
  a_bundle o below = where_some o (IsObject p) (λ n is. within n (below n is))
    where
      within : (n : ℕ) → n < length p.bundles → IsObject p n
      within n less = let all = counted in omega arith

  of_element : (x : ℕ) → IfSome (bundle_of p x) (IsObject p)
  of_element x = a_bundle (bundle_of p x) (bundle_within p m sound x)

  of_list : (l : ℕ) → IfSome (bundle_of_list p l) (IsObject p)
  of_list l = a_bundle (bundle_of_list p l) (list_within p m sound l)

  a_server : (o : Option ℕ) → ((s : ℕ) → o ≡ Some s → s < length p.servers) → IfSome (option_map (λ n. first_server p + n) o) (IsObject p)
  a_server o below = where_mapped (λ n. first_server p + n) o (IsObject p) (λ n is. within n (below n is))
    where
      within : (n : ℕ) → n < length p.servers → IsObject p (first_server p + n)
      within n less = let all = counted in omega arith

  an_area : (x : ℕ) → x < length p.areas → IsObject p (first_area p + x)
  an_area x less = let all = counted in omega arith

  a_machine : (o : Option ℕ) → ((n : ℕ) → o ≡ Some n → n < length p.machines) → IfSome (option_map (λ n. first_machine p + n) o) (IsObject p)
  a_machine o below = where_mapped (λ n. first_machine p + n) o (IsObject p) (λ n is. within n (below n is))
    where
      within : (n : ℕ) → n < length p.machines → IsObject p (first_machine p + n)
      within n less = let all = counted in omega arith

  this_machine : (n : ℕ) → n < length p.machines → IsObject p (first_machine p + n)
  this_machine n less = let all = counted in omega arith

  of_event : (e : ℕ) (k : EventKind) → kind_of p e ≡ k → IfSome (object_of_kind p k) (IsObject p)
  of_event e (Timing period) is = the_clock
  of_event e Init is = the_clock
  of_event e (DataReceived x) is = of_element x
  of_event e (Invoked s) is = let less = invoked_server p m sound e s is in let all = counted in omega arith
  of_event e (Returns q) is = a_server (server_of p q) (joined_server p m sound q)
  of_event e (ModeSwitch n moment) is = this_machine n (switching_machine p m sound e n moment is)
  of_event e (Ack n) is = this_machine n (acked_machine p m sound e n is)

  matters : (e n : ℕ) → machine_of_event p e ≡ Some n → n < length p.machines
  matters e n is = by_kind (kind_of p e) refl is
    where
      by_kind : (k : EventKind) → kind_of p e ≡ k → owing k (disabler_of p e) ≡ Some n → n < length p.machines
      by_kind (ModeSwitch o moment) kind own = let same : o ≡ n = cc in subst (λ z. z < length p.machines) same (switching_machine p m sound e o moment kind)
      by_kind (Timing period) kind own = disabling_machine p m sound e n own
      by_kind Init kind own = disabling_machine p m sound e n own
      by_kind (DataReceived x) kind own = disabling_machine p m sound e n own
      by_kind (Invoked s) kind own = disabling_machine p m sound e n own
      by_kind (Returns q) kind own = disabling_machine p m sound e n own
      by_kind (Ack o) kind own = disabling_machine p m sound e n own

  area_within : (home : Option ℕ) (x : ℕ) → area_fits p home x ≡ true → IsObject p (first_area p + x)
  area_within home x fit = an_area x (sought p.areas x (λ (a : AreaPlan). same_number (Some a.instance) home) fit).within

  switch_within : (home : Option ℕ) (n mode : ℕ) → switch_fits p home n mode ≡ true → IsObject p (first_machine p + n)
  switch_within home n mode fit = this_machine n (sought p.machines n (λ (v : MachinePlan). same_number v.instance home && nat_lt mode (length v.modes)) fit).within

  pub touches_an_object : (a : Actor) (w : Wanted) → wish_fits p a w ≡ true → IfSome (object_of p a w) (IsObject p)
  touches_an_object a to_tick fit = the_clock
  touches_an_object a (to_start e) fit = of_event e (kind_of p e) refl
  touches_an_object a (to_admit e) fit = a_machine (disabler_of p e) (disabling_machine p m sound e)
  touches_an_object a (to_fetch x) fit = of_element x
  touches_an_object a (to_write x ws) fit = of_element x
  touches_an_object a (to_read x) fit = of_element x
  touches_an_object a (to_invalidate x) fit = of_element x
  touches_an_object a (to_see_updated x) fit = of_element x
  touches_an_object a (to_send x ws) fit = of_element x
  touches_an_object a (to_receive x) fit = of_element x
  touches_an_object a (to_publish x ws) fit = of_element x
  touches_an_object a (to_fetch_all l) fit = of_list l
  touches_an_object a (to_publish_all l written ws) fit = of_list l
  touches_an_object a (to_ask q ws) fit = a_server (server_of p q) (joined_server p m sound q)
  touches_an_object a (to_hear q) fit = a_server (server_of p q) (joined_server p m sound q)
  touches_an_object a (to_take_result q) fit = a_server (server_of p q) (joined_server p m sound q)
  touches_an_object a (to_return code ws) fit = a_server (served_by p a) (serving_server p m sound a)
  touches_an_object a (to_enter x) fit = by_actor p a (to_enter x) fit (λ f. absurd (false≢true f)) (λ k f. area_within (instance_of p k.runnable) x f) (λ n there f. absurd (false≢true f))
  touches_an_object a (to_leave x) fit = by_actor p a (to_leave x) fit (λ f. absurd (false≢true f)) (λ k f. area_within (instance_of p k.runnable) x f) (λ n there f. absurd (false≢true f))
  touches_an_object a (to_switch n mode) fit = by_actor p a (to_switch n mode) fit (λ f. switch_within None n mode f) (λ k f. switch_within (instance_of p k.runnable) n mode f) (λ o there f. absurd (false≢true f))
  touches_an_object a (to_see_mode port) fit = a_machine (machine_of_port p port) (port_machine p m sound port)
  touches_an_object Env to_move_on fit = tt
  touches_an_object (Act k) to_move_on fit = tt
  touches_an_object (Machine n) to_move_on fit =
      let there : nat_lt n (length p.machines) ≡ true = (and_parts (nat_lt n (length p.machines)) true fit).0 in
      let less : n < length p.machines = grind (arith, nat_tests) in
      this_machine n less
  touches_an_object a (to_end e) fit = a_machine (machine_of_event p e) (matters e)

  pub entry_touches_an_object : (n : Noted) → fits p n.entry ≡ true → IfSome (touched_by p n) (IsObject p)
  entry_touches_an_object n fit = by_deed n.entry.actor n.entry.deed n.event fit
    where
      by_deed : (a : Actor) (d : Deed) (event : Option ℕ) → fits p (record { actor = a; deed = d }) ≡ true → IfSome (touched_by p (record { entry = record { actor = a; deed = d }; event = event })) (IsObject p)
      by_deed a (deed.Admit admitted) None fit = tt
      by_deed a (deed.Admit admitted) (Some e) fit = a_machine (disabler_of p e) (disabling_machine p m sound e)
      by_deed a deed.End None fit = tt
      by_deed a deed.End (Some e) fit = a_machine (machine_of_event p e) (matters e)
      by_deed a d event fit = touches_an_object a (wanted_by 0 d) (and_parts (wish_fits p a (wanted_by 0 d)) (answer_fits p a d) fit).0
