-- Facts of a sound plan: which starts touch no object, the plain keys of a task's events, and direct keys.
use Rattle.std.proofs.Common.{◌≡◌, ℕ, zero, suc, ◌<◌, true, false, ◌&&◌, not, ◌==◌, if◌then◌else◌, refl, sym, ◌∙◌, ap, subst, arith, List, [], ◌∷◌, length, Option, Some, None}
use Rattle.std.specs.Prelude.{nat_lt, is_some, option_map}
use Rattle.bus_semantics.specs.Common.{slice_get, option_map_or, and_from, and_parts, eqb-true, ltb-true, false≢true, nat_tests, same_Some, ActKey, same_number, Plan, Runnable, look}
use Rattle.bus_semantics.specs.Common.{every_from, server_of, queue_of, kind_of, runnable_of_event, instance_of, to_start, object_of_kind, server_object, served_by, key_fits, event_fits}
use Rattle.bus_semantics.specs.Common.{serves_directly, direct_key, wish_fits, plain_key, server_sound, kind_sound, server_served, serves_back, IsSound, times_mapped}
use Rattle.bus_laws.specs.Common.{ElemPlan, ServerPlan, EventPlan, EventKind, Timing, Init, DataReceived, Invoked, Returns, ModeSwitch, Ack, Act, Mapping}
use Rattle.bus_laws.proofs.Thinning.{option_test}
use Rattle.bus_laws.proofs.OneEvent.{event_at, kind_at, kind_part, serves_invoked}
use Rattle.history_laws.specs.LookUps.{sought, looked, at_place}
use Rattle.history_laws.proofs.ActivationLists.{bundled}
use Rattle.history_laws.proofs.Lists.{there_is}
use Rattle.history_laws.proofs.OneKey.{server_runs, server_home}
use Rattle.task_slots.specs.Common.{Call, call_at, may_be_mapped}
use Rattle.task_slots.specs.Direct.{served_event}

-- an event that starts a runnable is there
pub event_known : (p : Plan) (e i : ℕ) → runnable_of_event p e ≡ Some i → nat_lt e (length p.events) ≡ true
event_known p e i starts = of_list p.events e starts
  where
    of_list : (vs : List EventPlan) (e : ℕ) → look vs e (λ (v : EventPlan). Some v.runnable) None ≡ Some i → nat_lt e (length vs) ≡ true
    of_list [] e starts = absurd (cc starts)
    of_list (v ∷ vs) zero starts = grind (arith, nat_tests)
    of_list (v ∷ vs) (suc e) starts =
        let less : e < length vs = ltb-true e (length vs) (of_list vs e starts) in
        let more : suc e < length (v ∷ vs) = omega arith in
        grind (arith, nat_tests)

-- a start touches no object only where its event returns at a point without a server
pub record IsUnjoined (p : Plan) (e : ℕ) : Type 0 where
  pub point : ℕ
  pub kind : kind_of p e ≡ Returns point
  pub unjoined : server_of p point ≡ None

module _ (p : Plan) (m : Mapping) (sound : IsSound p m) where
  pub returned_alone : (e : ℕ) → object_of_kind p (kind_of p e) ≡ None → IsUnjoined p e
  returned_alone e none = by_event (slice_get p.events e) refl
    where
      no_server : (o : Option ℕ) → server_object p o ≡ None → o ≡ None
      no_server None is = refl
      no_server (Some s) is = absurd (cc is)

      by_kind : (v : EventPlan) (k : EventKind) → kind_of p e ≡ k → object_of_kind p k ≡ None → kind_sound p e v.runnable (instance_of p v.runnable) k ≡ true → IsUnjoined p e
      by_kind v (DataReceived x) is touch fits =
          let at = sought p.elements x (λ (w : ElemPlan). same_number w.instance (instance_of p v.runnable) && _) fits in
          bundled p m sound x at.item at.found touch
      by_kind v (Returns q) is touch fits = record { point = q; kind = is; unjoined = no_server (server_of p q) touch }
      by_kind v (Timing period) is touch fits = absurd (cc touch)
      by_kind v Init is touch fits = absurd (cc touch)
      by_kind v (Invoked s) is touch fits = absurd (cc touch)
      by_kind v (ModeSwitch n moment) is touch fits = absurd (cc touch)
      by_kind v (Ack n) is touch fits = absurd (cc touch)

      by_event : (o : Option EventPlan) → slice_get p.events e ≡ o → IsUnjoined p e
      by_event None there =
          let is : kind_of p e ≡ Init = ap (λ (o : Option EventPlan). option_map_or (λ (v : EventPlan). v.kind) o Init) there in
          absurd (cc (sym none ∙ ap (object_of_kind p) is))
      by_event (Some v) there =
          let kind = looked p.events e v (λ (w : EventPlan). w.kind) Init there in
          by_kind v v.kind kind (ap (object_of_kind p) (sym kind) ∙ none) (kind_part p m sound e v there)

  -- the runnable of an event that is there
  pub record Started (e : ℕ) : Type 0 where
    pub number : ℕ
    pub runnable : Runnable
    pub starts : runnable_of_event p e ≡ Some number
    pub there : slice_get p.runnables number ≡ Some runnable
    pub inside : number < length p.runnables

  pub started : (e : ℕ) → nat_lt e (length p.events) ≡ true → Started e
  started e inside =
      let v = there_is p.events e (ltb-true e (length p.events) inside) in
      let less = ltb-true v.0.runnable (length p.runnables) (and_parts (nat_lt v.0.runnable (length p.runnables)) _ (event_at p m sound e v.0 v.1)).0 in
      let r = there_is p.runnables v.0.runnable less in
      record { number = v.0.runnable; runnable = r.0; starts = looked p.events e v.0 (λ (w : EventPlan). Some w.runnable) None v.1; there = r.1; inside = less }

  -- ---- plain keys

  -- a runnable with an event in a task serves no direct server
  pub not_directly : (e i : ℕ) → may_be_mapped p e ≡ true → runnable_of_event p e ≡ Some i → serves_directly p (plain_key i) ≡ false
  not_directly e i mapped starts = by_server (served_by p (Act (plain_key i))) refl
    where
      once : (times_mapped p (kind_of p e) == 1) ≡ true
      once = (and_parts (nat_lt e (length p.events)) _ mapped).1

      by_queue : (s : ℕ) → served_by p (Act (plain_key i)) ≡ Some s → (o : Option ℕ) → queue_of p s ≡ o → ((if is_some o then 1 else 0) == 1) ≡ true → serves_directly p (plain_key i) ≡ false
      by_queue s served None queue test = absurd (false≢true test)
      by_queue s served (Some most) queue test = rw (served, queue) refl

      by_server : (o : Option ℕ) → served_by p (Act (plain_key i)) ≡ o → serves_directly p (plain_key i) ≡ false
      by_server None served = rw served refl
      by_server (Some s) served =
          let kind = serves_invoked p m sound e s i starts served in
          by_queue s served (queue_of p s) refl (subst (λ k. (times_mapped p k == 1) ≡ true) kind once)

  pub key_is : (e i : ℕ) → may_be_mapped p e ≡ true → runnable_of_event p e ≡ Some i → i < length p.runnables → key_fits p (plain_key i) ≡ true
  key_is e i mapped starts less =
      let inside : nat_lt i (length p.runnables) ≡ true = grind (arith, nat_tests) in
      and_from (nat_lt i (length p.runnables)) (not (serves_directly p (plain_key i))) inside (ap not (not_directly e i mapped starts))

  -- the start of a key that fits, by an event of its runnable
  pub start_fits : (e : ℕ) (k : ActKey) → key_fits p k ≡ true → runnable_of_event p e ≡ Some k.runnable → wish_fits p (Act k) (to_start e) ≡ true
  start_fits e k fit starts =
      let own : event_fits p (instance_of p k.runnable) e ≡ true =
      and_from (nat_lt e (length p.events)) _ (event_known p e k.runnable starts) (rw starts (option_test (instance_of p k.runnable) (instance_of p k.runnable) refl)) in
      and_from (key_fits p k) (event_fits p (instance_of p k.runnable) e) fit own

-- ---- direct keys

-- the direct server of a point
pub record DirectAt (p : Plan) (q : ℕ) (d : ActKey) : Type 0 where
  pub number : ℕ
  pub server : ServerPlan
  pub joined : server_of p q ≡ Some number
  pub there : slice_get p.servers number ≡ Some server
  pub queue : server.queue ≡ None
  pub runnable : d.runnable ≡ server.runnable
  pub point : d.point ≡ Some q

pub direct_at : (p : Plan) (q : ℕ) (d : ActKey) → direct_key p q ≡ Some d → DirectAt p q d
direct_at p q d key = by_server (server_of p q) refl
  where
    by_queue : (s : ℕ) → server_of p q ≡ Some s → (v : ServerPlan) → slice_get p.servers s ≡ Some v → (o : Option ℕ) → v.queue ≡ o → DirectAt p q d
    by_queue s joined v there (Some most) queue = absurd (cc (rw (joined, there, queue) at key))
    by_queue s joined v there None queue =
        let is : Some (record { runnable = v.runnable; point = Some q }) ≡ Some d = rw (joined, there, queue) at key in
        let same = same_Some (record { runnable = v.runnable; point = Some q }) d is in
        record { number = s; server = v; joined = joined; there = there; queue = queue; runnable = sym (ap (λ (k : ActKey). k.runnable) same); point = sym (ap (λ (k : ActKey). k.point) same) }

    by_plan : (s : ℕ) → server_of p q ≡ Some s → (o : Option ServerPlan) → slice_get p.servers s ≡ o → DirectAt p q d
    by_plan s joined None there = absurd (cc (rw (joined, there) at key))
    by_plan s joined (Some v) there = by_queue s joined v there v.queue refl

    by_server : (o : Option ℕ) → server_of p q ≡ o → DirectAt p q d
    by_server None joined = absurd (cc (rw joined at key))
    by_server (Some s) joined = by_plan s joined (slice_get p.servers s) refl

-- what a call is made of
pub record CallIs (p : Plan) (k : ActKey) (q : ℕ) (c : Call) : Type 0 where
  pub caller : c.caller ≡ k
  pub key : direct_key p q ≡ Some c.direct
  pub event : c.event ≡ served_event p q

pub call_is : (p : Plan) (k : ActKey) (q : ℕ) (c : Call) → call_at p k q ≡ Some c → CallIs p k q c
call_is p k q c is = by_key (direct_key p q) refl is
  where
    by_key : (o : Option ActKey) → direct_key p q ≡ o → option_map (λ d. record { caller = k; direct = d; event = served_event p q }) o ≡ Some c → CallIs p k q c
    by_key None key is = absurd (cc is)
    by_key (Some d) key is =
        let call : Call = record { caller = k; direct = d; event = served_event p q } in
        let same : call ≡ c = same_Some call c is in
        record { caller = sym (ap (λ (x : Call). x.caller) same); key = key ∙ ap (λ (x : Call). Some x.direct) same; event = sym (ap (λ (x : Call). x.event) same) }

-- an event that invokes a server
record Invoking (s : ℕ) (o : Option EventPlan) : Type 0 where
  event : EventPlan
  is : o ≡ Some event
  kind : event.kind ≡ Invoked s

module _ (p : Plan) (m : Mapping) (sound : IsSound p m) (q : ℕ) (d : ActKey) (key : direct_key p q ≡ Some d) where
  abbrev pub served_at : DirectAt p q d
  served_at = direct_at p q d key

  home : served_by p (Act d) ≡ Some served_at.number
  home = server_home p m sound served_at.number served_at.server served_at.there d served_at.runnable

  queue_is : queue_of p served_at.number ≡ None
  queue_is = looked p.servers served_at.number served_at.server (λ (w : ServerPlan). w.queue) None served_at.there ∙ served_at.queue

  pub directly : serves_directly p d ≡ true
  directly = let served = home in let queue = queue_is in rw (served, queue) refl

  inside : d.runnable < length p.runnables
  inside = subst (λ n. n < length p.runnables) (sym served_at.runnable) (server_runs p m sound served_at.number served_at.server served_at.there).within

  pub direct_fits : key_fits p d ≡ true
  direct_fits =
      let point = served_at.point in
      let within : nat_lt d.runnable (length p.runnables) ≡ true = let less = inside in grind (arith, nat_tests) in
      let joined : same_number (server_of p q) (served_by p (Act d)) ≡ true = option_test (server_of p q) (served_by p (Act d)) (served_at.joined ∙ sym home) in
      rw point (and_from (nat_lt d.runnable (length p.runnables)) _ within (and_from (serves_directly p d) _ directly joined))

  -- the server's event invokes it, and starts its runnable
  served : server_served p served_at.number served_at.server ≡ true
  served = at_place (server_served p) p.servers served_at.number served_at.server (and_parts (every_from 0 (server_served p) p.servers) (every_from 0 (serves_back p) p.runnables) sound.servers).0 served_at.there

  invoked_in : (o : Option EventPlan) → slice_get p.events served_at.server.event ≡ o → Invoking served_at.number o
  invoked_in None there =
      let is = served in
      let none = rw there at is in absurd (cc (and_parts (server_sound served_at.server) false none).1)
  invoked_in (Some v) there = by_kind v.kind refl
    where
      by_kind : (k : EventKind) → v.kind ≡ k → Invoking served_at.number (Some v)
      by_kind (Invoked n) is =
          let whole = served in
          let test = rw (there, is) at whole in
          let rest = option_map_or (λ (r : Runnable). same_number r.server (Some served_at.number)) (slice_get p.runnables served_at.server.runnable) false in
          let same : n ≡ served_at.number = eqb-true n served_at.number (and_parts (n == served_at.number) rest (and_parts (server_sound served_at.server) ((n == served_at.number) && rest) test).1).0 in
          record { event = v; is = refl; kind = is ∙ ap Invoked same }
      by_kind k is = let whole = served in let test = rw (there, is) at whole in absurd (cc (and_parts (server_sound served_at.server) false test).1)

  invoking : Invoking served_at.number (slice_get p.events served_at.server.event)
  invoking = invoked_in (slice_get p.events served_at.server.event) refl

  event_of_server : served_event p q ≡ served_at.server.event
  event_of_server =
      let joined = served_at.joined in
      rw joined (looked p.servers served_at.number served_at.server (λ (v : ServerPlan). v.event) 0 served_at.there)

  pub direct_kind : kind_of p (served_event p q) ≡ Invoked served_at.number
  direct_kind = ap (kind_of p) event_of_server ∙ kind_at p served_at.server.event invoking.event invoking.is ∙ invoking.kind

  pub direct_starts : runnable_of_event p (served_event p q) ≡ Some d.runnable
  direct_starts =
      let v = invoking.event in
      let test : kind_sound p served_at.server.event v.runnable (instance_of p v.runnable) (Invoked served_at.number) ≡ true =
      subst (λ k. kind_sound p served_at.server.event v.runnable (instance_of p v.runnable) k ≡ true) invoking.kind (kind_part p m sound served_at.server.event v invoking.is) in
      let has = sought p.servers served_at.number (λ (w : ServerPlan). (w.event == served_at.server.event) && ((w.runnable == v.runnable) && same_number (Some w.instance) (instance_of p v.runnable))) test in
      let same : has.item ≡ served_at.server = same_Some has.item served_at.server (sym has.found ∙ served_at.there) in
      let runs : has.item.runnable ≡ v.runnable =
      eqb-true has.item.runnable v.runnable (and_parts (has.item.runnable == v.runnable) _ (and_parts (has.item.event == served_at.server.event) _ has.holds).1).0 in
      ap (runnable_of_event p) event_of_server
      ∙ looked p.events served_at.server.event v (λ (w : EventPlan). Some w.runnable) None invoking.is
      ∙ ap (λ n. Some n) (sym runs ∙ ap (λ (w : ServerPlan). w.runnable) same ∙ sym served_at.runnable)

  pub direct_touches : object_of_kind p (kind_of p (served_event p q)) ≡ server_object p (Some served_at.number)
  direct_touches = ap (object_of_kind p) direct_kind
