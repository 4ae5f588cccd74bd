-- At rest no activation runs: areas are entered by rising numbers, a direct activation makes no calls, and tasks wait by rising ranks.
use Rattle.std.proofs.Common.{◌≡◌, ℕ, zero, suc, ◌+◌, ◌<◌, ◌≤◌, Bool, true, false, ◌&&◌, ◌==◌, if◌then◌else◌, refl, sym, ◌∙◌, ap, subst, arith, List, [], length, nat_lt, nat_le, is_some}
use Rattle.std.proofs.Common.{is_none, Option, Some, None}
use Rattle.bus_semantics.specs.Common.{list_any, slice_get, and_parts, eqb-true, eq-eqb, ltb-true, false≢true, slice_get_within, ActKey, same_number, Plan, server_of, caller_of, queue_of}
use Rattle.bus_semantics.specs.Common.{kind_of, runnable_of_event, instance_of, Wanted, to_admit, to_hear, to_start, to_enter, to_end, History, runs, last_started, noted, serves_directly}
use Rattle.bus_semantics.specs.Common.{key_fits, area_fits, modes_of, mode_at_port, wish_fits, answer_to, has_unstarted, is_held, IsLegal, accepted_point, asked_last, direct_key}
use Rattle.bus_semantics.specs.Common.{ended_since, is_held_back, caller_has_asked, plain_key, event_runs, is_free, IsStuck, IsAtRest, times_mapped, IsSound}
use Rattle.std.specs.Prelude.{option_and_then}
use Rattle.std.proofs.lemmas.Bool.{not-false}
use Rattle.bus_laws.specs.Common.{AreaPlan, ServerPlan, ModePortPlan, EventPlan, EventKind, Invoked, Mapping, Task, Act}
use Rattle.bus_semantics.specs.declared.entries.Deed.TheVariants as deed
use Rattle.bus_laws.proofs.Thinning.{Sought, found_where, sought_where}
use Rattle.bus_laws.proofs.Local.{proper_legal}
use Rattle.bus_laws.proofs.OneEvent.{kind_at, invoked_serves}
use Rattle.history_laws.specs.Followed.{AsksNext, HasJustAsked}
use Rattle.history_laws.specs.OpenAreas.{open_areas}
use Rattle.history_laws.specs.Wishes.{is_awaited}
use Rattle.history_laws.proofs.Bounds.{mode_small}
use Rattle.history_laws.proofs.Moments.{moment_words}
use Rattle.history_laws.specs.Running.{GoesOn}
use Rattle.history_laws.specs.Holding.{HasHolder}
use Rattle.history_laws.specs.Serving.{IsOpen, IsQueuedOrServed, queued, served, IsBegunOrServed, begins}
use Rattle.no_stall.proofs.Premises.{Laws}
use Rattle.no_stall.proofs.Lists.{Among, Passing, any_among, all_at, among_at}
use Rattle.no_stall.proofs.Tried.{going_stuck, direct_stuck, start_stuck}
use Rattle.no_stall.proofs.Coming.{IsOwn, Held, entering, hearing, held}
use Rattle.no_stall.proofs.Keys.{served as serves_of, queue_at, IsDirect, direct_is, is_direct, key_direct, key_among, joined_point, directly, Shape, plain, direct, shape}
use Rattle.no_stall.proofs.Asking.{activity, HasAsked, asked, outstanding}
use Rattle.no_stall.proofs.Direct.{waits_to_start}
use Rattle.no_stall.proofs.Deeds.{closed_after_ask, last_is}
use Rattle.no_stall.proofs.Tasks.{InTask, IsIn, mapped, is_in_task, server_exists, edge}
use Rattle.no_stall.proofs.Requested.{queued_starts, direct_starts}

some_queue : (o : Option ℕ) → is_none o ≡ false → ◌≡◌ {A = ℕ} (if is_some o then 1 else 0) 1
some_queue None e = absurd (false≢true (sym e))
some_queue (Some n) e = refl

own_event : (event : ℕ) (w : Wanted) → ((f : ℕ) → w ≡ to_admit f → f ≡ event) → ((f : ℕ) → w ≡ to_end f → f ≡ event) → IsOwn event w
own_event event (to_admit e) admits ends = admits e refl
own_event event (to_end e) admits ends = ends e refl
own_event event w admits ends = tt

-- the caller's ask, and the direct activation that it waits for
pub record HeldBack (p : Plan) (h : History) (k : ActKey) : Type 0 where
  pub point : ℕ
  pub direct : ActKey
  pub last : asked_last k h ≡ Some point
  pub key : direct_key p point ≡ Some direct
  pub unended : ended_since k direct h ≡ false

pub held_back : (p : Plan) (h : History) (k : ActKey) → is_held_back p h k ≡ true → HeldBack p h k
held_back p h k e = by_last (asked_last k h) refl
  where
    by_ended : (q : ℕ) (d : ActKey) → asked_last k h ≡ Some q → direct_key p q ≡ Some d → (b : Bool) → ended_since k d h ≡ b → HeldBack p h k
    by_ended q d last key true ended = absurd (false≢true (rw (last, key, ended) at e))
    by_ended q d last key false unended = record { point = q; direct = d; last = last; key = key; unended = unended }

    by_key : (q : ℕ) → asked_last k h ≡ Some q → (o : Option ActKey) → direct_key p q ≡ o → HeldBack p h k
    by_key q last None none = absurd (false≢true (rw (last, none) at e))
    by_key q last (Some d) key = by_ended q d last key (ended_since k d h) refl

    by_last : (o : Option ℕ) → asked_last k h ≡ o → HeldBack p h k
    by_last None none = absurd (false≢true (rw none at e))
    by_last (Some q) last = by_key q last (direct_key p q) refl

bound_on : (rank : ℕ → ℕ) (n : ℕ) → (b : ℕ) × ((c : ℕ) → c < n → rank c ≤ b)
bound_on rank zero = (0, λ c less. absurd (omega arith))
bound_on rank (suc n) = let before = bound_on rank n in (before.0 + rank n, λ c less. by_last before.0 before.1 c less (c == n) refl)
  where
    by_last : (b : ℕ) → ((c : ℕ) → c < n → rank c ≤ b) → (c : ℕ) → c < suc n → (same : Bool) → (c == n) ≡ same → rank c ≤ b + rank n
    by_last b before c less true is = let e : rank c ≡ rank n = ap rank (eqb-true c n is) in omega arith
    by_last b before c less false is =
        let other : c ≡ n → ⊥ = λ same. absurd (false≢true (sym is ∙ eq-eqb c n same)) in
        let lower : c < n = omega arith in
        let first = before c lower in omega arith

module _ (p : Plan) (m : Mapping) (sound : IsSound p m) (laws : Laws p m) (h : History) (legal : IsLegal p h) (rest : IsAtRest p m h) where
  going : (k : ActKey) → runs k h ≡ true → GoesOn p h k
  going k on = laws.going h k legal on

  modes_fit : (port : ℕ) (t : ModePortPlan) → slice_get p.mode_ports port ≡ Some t → nat_le (mode_at_port p port (noted h)) (modes_of p t.machine) ≡ true
  modes_fit port t there = rw there (mode_small p t.machine (noted h) sound.machines (proper_legal p h legal))

  -- what is not held back is stuck at an area or at an answer
  stuck_on : (k : ActKey) (g : GoesOn p h k) → is_held_back p h k ≡ false → Held h g.wish
  stuck_on k g free = held p h k g.activation.event g.started free modes_fit (λ l. moment_words p m sound l (noted h) (proper_legal p h legal)) g.wish g.next g.fits
      (laws.begun k g.runnable g.activation.event g.activation.start g.activation.deeds g.wish (activity p m sound laws h k g) g.asks.next)
      (own_event g.activation.event g.wish
      (λ f is. laws.admits k g.runnable g.activation.event f g.activation.start g.activation.deeds (activity p m sound laws h k g) (g.asks.next ∙ ap (λ (w : Wanted). Some w) is))
      (λ f is. laws.ends k g.runnable g.activation.event g.activation.start g.activation.deeds f (activity p m sound laws h k g) (g.asks.next ∙ ap (λ (w : Wanted). Some w) is)))
      (laws.short k g.runnable g.activation.event g.activation.start g.activation.deeds g.wish (activity p m sound laws h k g) g.asks.next)
      (going_stuck p m h rest k g.wish (key_among p m sound k g.key) g.next)

  -- ---- areas

  open_in : (k : ActKey) (x : ℕ) (g : GoesOn p h k) → HasHolder x h → Type 0
  open_in k x g holder = list_any (λ y. y == x) (open_areas g.activation.deeds) ≡ true

  below_areas : (k : ActKey) (x : ℕ) → wish_fits p (Act k) (to_enter x) ≡ true → x < length p.areas
  below_areas k x fit =
      let a = found_where p.areas x (λ (a : AreaPlan). same_number (Some a.instance) (instance_of p k.runnable)) (and_parts (key_fits p k) (area_fits p (instance_of p k.runnable) x) fit).1 in
      slice_get_within p.areas x a.item a.found

  -- whoever is inside an area wants to enter one of a greater number
  record Within (x : ℕ) : Type 0 where
    inner : ℕ
    greater : x < inner
    exists : inner < length p.areas
    held_too : is_held inner (noted h) ≡ true

  closed : {X : Type 0} (x : ℕ) (xs : List ℕ) → xs ≡ [] → list_any (λ y. y == x) xs ≡ true → X
  closed x xs none some = let never : false ≡ true = rw none at some in absurd (false≢true never)

  next_area : (x : ℕ) → is_held x (noted h) ≡ true → Within x
  next_area x is = by_back (is_held_back p h holder.key) refl
    where
      holder : HasHolder x h
      holder = laws.held h x legal is

      g : GoesOn p h holder.key
      g = going holder.key holder.running

      inside : list_any (λ y. y == x) (open_areas g.activation.deeds) ≡ true
      inside = let on = holder.running in let is_activation = g.is in rw (on, is_activation) at holder.inside

      by_held : Held h g.wish → Within x
      by_held (entering y wish area) =
          let asks = subst (λ (w : Wanted). AsksNext p g.runnable g.activation.event g.activation.start g.activation.deeds w) wish g.asks in
          let rising = laws.enter holder.key g.runnable g.activation.event y g.activation.start g.activation.deeds (activity p m sound laws h holder.key g) asks in
          let one = any_among (λ z. z == x) (open_areas g.activation.deeds) inside in
          let less : one.item < y = ltb-true one.item y (all_at (λ z. nat_lt z y) one.item (open_areas g.activation.deeds) rising one.among) in
          record {
            inner = y;
            greater = subst (λ z. z < y) (eqb-true one.item x one.passes) less;
            exists = below_areas holder.key y (subst (λ (w : Wanted). wish_fits p (Act holder.key) w ≡ true) wish g.fits);
            held_too = area;
          }
      by_held (hearing q wish none) =
          let asks = subst (λ (w : Wanted). AsksNext p g.runnable g.activation.event g.activation.start g.activation.deeds w) wish g.asks in
          closed x (open_areas g.activation.deeds) (laws.outside holder.key g.runnable g.activation.event g.activation.start g.activation.deeds (to_hear q) (activity p m sound laws h holder.key g) asks refl) inside

      by_back : (b : Bool) → is_held_back p h holder.key ≡ b → Within x
      by_back true back = let ask = held_back p h holder.key back in
          closed x (open_areas g.activation.deeds) (closed_after_ask p m sound laws h holder.key ask.point g ask.last) inside
      by_back false free = by_held (stuck_on holder.key g free)

  none_held : (n x : ℕ) → length p.areas ≤ x + n → x < length p.areas → is_held x (noted h) ≡ true → ⊥
  none_held zero x enough exists is = absurd (omega arith)
  none_held (suc n) x enough exists is = let next = next_area x is in
      let greater = next.greater in
      none_held n next.inner (omega arith) next.exists next.held_too

  -- what is not held back waits for an answer
  record Hears (k : ActKey) (g : GoesOn p h k) : Type 0 where
    point : ℕ
    wish : g.wish ≡ to_hear point
    none : answer_to point (noted h) ≡ None

  hears : (k : ActKey) (g : GoesOn p h k) → is_held_back p h k ≡ false → Hears k g
  hears k g free = by_held (stuck_on k g free)
    where
      by_held : Held h g.wish → Hears k g
      by_held (entering y wish area) = let exists = below_areas k y (subst (λ (w : Wanted). wish_fits p (Act k) w ≡ true) wish g.fits) in
          absurd (none_held (length p.areas) y (omega arith) exists area)
      by_held (hearing q wish none) = record { point = q; wish = wish; none = none }

  -- ---- direct activations

  no_direct : (q : ℕ) (d : ActKey) → IsDirect p q d → runs d h ≡ true → ⊥
  no_direct q d of on = by_back (is_held_back p h d) refl
    where
      g : GoesOn p h d
      g = going d on

      directs : serves_directly p d ≡ true
      directs = is_direct p m sound q d of

      by_back : (b : Bool) → is_held_back p h d ≡ b → ⊥
      by_back true back = let ask = held_back p h d back in
          absurd (false≢true (sym (asked p m sound laws h legal d ask.point ask.last).plain ∙ directs))
      by_back false free = let hear = hears d g free in
          absurd (false≢true (sym (laws.callless d g.runnable g.activation.event g.activation.start g.activation.deeds (to_hear hear.point) (activity p m sound laws h d g) directs
          (g.asks.next ∙ ap (λ (w : Wanted). Some w) hear.wish))))

  -- the direct activation of a point whose caller has just asked has started
  pub no_direct_start : (q : ℕ) (d : ActKey) → IsDirect p q d → (k : ActKey) → asked_last k h ≡ Some q → runs d h ≡ false → has_unstarted (λ r. q == r) (noted h) ≡ true → ⊥
  no_direct_start q d of k last off more = by_shape (shape p m sound k ask.fits)
    where
      ask : HasAsked p m sound laws q k
      ask = asked p m sound laws h legal k q last

      plain_last : plain_key k.runnable ≡ k → asked_last (plain_key k.runnable) h ≡ Some q
      plain_last is = subst (λ (j : ActKey). asked_last j h ≡ Some q) (sym is) last

      stuck : plain_key k.runnable ≡ k → IsStuck p h (Act d, to_start of.plan.event)
      stuck is = direct_stuck p m h rest q k.runnable of.server of.plan d (joined_point p m sound q of.server of.joined) ask.own (plain_last is) of.joined of.found
          (key_direct p m sound q of.server of.plan of.joined of.found of.queue ∙ ap (λ (j : ActKey). Some j) of.is) (eq-eqb q q refl)

      has : plain_key k.runnable ≡ k → caller_has_asked p h d ≡ true
      has is = let caller = ask.own in let point = plain_last is in
          subst (λ (j : ActKey). caller_has_asked p h j ≡ true) of.is (rw (caller, point) (eq-eqb q q refl))

      by_shape : Shape p m sound k → ⊥
      by_shape (plain is other) = direct_starts p m sound h q d of off more (has is) (stuck is)
      by_shape (direct r its) = absurd (false≢true (sym ask.plain ∙ is_direct p m sound r k its))

  pub none_held_back : (k : ActKey) → is_held_back p h k ≡ false
  none_held_back k = by_back (is_held_back p h k) refl
    where
      by_run : (back : HeldBack p h k) → (b : Bool) → runs back.direct h ≡ b → ⊥
      by_run back true on = no_direct back.point back.direct (direct_is p m sound back.point back.direct back.key) on
      by_run back false off = let of = direct_is p m sound back.point back.direct back.key in
          no_direct_start back.point back.direct of k back.last off (waits_to_start p m sound laws back.point back.direct of h legal k back.last back.unended off)

      by_back : (b : Bool) → is_held_back p h k ≡ b → is_held_back p h k ≡ false
      by_back false free = free
      by_back true is = let back = held_back p h k is in absurd (by_run back (runs back.direct h) refl)

  -- ---- tasks

  -- a running activation waits for an open request at a point, whose server has a queue
  record Waits (r : ℕ) : Type 0 where
    point : ℕ
    server : ℕ
    plan : ServerPlan
    most : ℕ
    awaited : is_awaited p point ≡ true
    own : caller_of p point ≡ Some r
    joined : server_of p point ≡ Some server
    found : slice_get p.servers server ≡ Some plan
    queue : plan.queue ≡ Some most
    unmet : IsQueuedOrServed p server point (plain_key plan.runnable) h

  waits : (k : ActKey) → runs k h ≡ true → Waits k.runnable
  waits k on = by_queue v.0.queue refl
    where
      g : GoesOn p h k
      g = going k on

      hear : Hears k g
      hear = hears k g (none_held_back k)

      asks : AsksNext p g.runnable g.activation.event g.activation.start g.activation.deeds (to_hear hear.point)
      asks = subst (λ (w : Wanted). AsksNext p g.runnable g.activation.event g.activation.start g.activation.deeds w) hear.wish g.asks

      just : HasJustAsked hear.point g.activation.deeds
      just = laws.accepted k g.runnable g.activation.event hear.point g.activation.start g.activation.deeds (activity p m sound laws h k g) asks

      awaited : is_awaited p hear.point ≡ true
      awaited = laws.waits k g.runnable g.activation.event hear.point g.activation.start g.activation.deeds (activity p m sound laws h k g) asks.next

      last : asked_last k h ≡ Some hear.point
      last = ap (option_and_then accepted_point) (last_is k h g.activation just.before (deed.Ask hear.point just.value 0) g.is just.last)

      ask : HasAsked p m sound laws hear.point k
      ask = asked p m sound laws h legal k hear.point last

      request : IsOpen hear.point h
      request = let out = outstanding p m sound laws h legal k hear.point awaited last in
          record { outstanding = out; unreturned = rw out at hear.none }

      v : (v : ServerPlan) × (slice_get p.servers ask.server ≡ Some v)
      v = server_exists p m sound hear.point ask.server ask.joined

      no_queue : v.0.queue ≡ None → ⊥
      no_queue queue = by_begun (laws.direct h hear.point d legal key request)
        where
          d : ActKey
          d = record { runnable = v.0.runnable; point = Some hear.point }

          key : direct_key p hear.point ≡ Some d
          key = key_direct p m sound hear.point ask.server v.0 ask.joined v.1 queue

          of : IsDirect p hear.point d
          of = direct_is p m sound hear.point d key

          by_begun : IsBegunOrServed p hear.point d h → ⊥
          by_begun (begins more caller off) = no_direct_start hear.point d of k last off more
          by_begun (served s) = no_direct hear.point d of s.running

      by_queue : (o : Option ℕ) → v.0.queue ≡ o → Waits k.runnable
      by_queue None queue = absurd (no_queue queue)
      by_queue (Some most) queue = record {
        point = hear.point;
        server = ask.server;
        plan = v.0;
        most = most;
        awaited = awaited;
        own = ask.own;
        joined = ask.joined;
        found = v.1;
        queue = queue;
        unmet = laws.queued h hear.point ask.server v.0 most legal ask.joined v.1 queue request;
      }

  -- in the task of the server some activation runs
  record Busy (c : ℕ) : Type 0 where
    runnable : ℕ
    running : runs (plain_key runnable) h ≡ true
    member : IsIn p m c runnable

  busy_task : (t : Task) (c : ℕ) → slice_get m.tasks c ≡ Some t → is_free p h t ≡ false → Busy c
  busy_task t c there busy = by_event (any_among (event_runs p h) t.events (not-false (list_any (event_runs p h) t.events) busy))
    where
      by_runnable : (e : ℕ) → Among e t.events → event_runs p h e ≡ true → (o : Option ℕ) → runnable_of_event p e ≡ o → Busy c
      by_runnable e among on None none = absurd (false≢true (rw none at on))
      by_runnable e among on (Some r) is =
          let running : (runs (plain_key r) h && same_number (last_started (plain_key r) h) (Some e)) ≡ true = rw is at on in
          record { runnable = r; running = (and_parts (runs (plain_key r) h) (same_number (last_started (plain_key r) h) (Some e)) running).0; member = is_in_task p m sound e r t c there among is }

      by_event : Passing ℕ (event_runs p h) t.events → Busy c
      by_event found = by_runnable found.item found.among found.passes (runnable_of_event p found.item) refl

  -- the event of a server with a queue is in a task
  server_task : (s : ℕ) (v : ServerPlan) (most : ℕ) → slice_get p.servers s ≡ Some v → v.queue ≡ Some most → InTask m v.event
  server_task s v most there queue =
      let serves = serves_of p m sound s v there in
      let e = sought_where p.events v.event (λ (u : EventPlan). Some u.runnable) v.runnable serves.runs in
      let kind : e.item.kind ≡ Invoked s = sym (kind_at p v.event e.item e.found) ∙ serves.kind in
      let queued_so : queue_of p s ≡ Some most = queue_at p m sound s v there ∙ queue in
      mapped p m sound v.event e.item e.found (rw (kind, queued_so) refl)

  busy_server : (s : ℕ) (v : ServerPlan) (most q : ℕ) → slice_get p.servers s ≡ Some v → v.queue ≡ Some most → IsQueuedOrServed p s q (plain_key v.runnable) h → (t : InTask m v.event) → IsIn p m t.place v.runnable → Busy t.place
  busy_server s v most q there queue (served is) t member = record { runnable = v.runnable; running = is.running; member = member }
  busy_server s v most q there queue (queued more) t member = by_run (runs (plain_key v.runnable) h) refl
    where
      by_free : runs (plain_key v.runnable) h ≡ false → (b : Bool) → is_free p h t.task ≡ b → Busy t.place
      by_free off false busy = busy_task t.task t.place t.found busy
      by_free off true free = absurd (queued_starts p m sound h s v most there queue off more
          (start_stuck p m h rest t.task v.event v.runnable (among_at m.tasks t.place t.task t.found) t.mapped free (serves_of p m sound s v there).runs))

      by_run : (b : Bool) → runs (plain_key v.runnable) h ≡ b → Busy t.place
      by_run true on = record { runnable = v.runnable; running = on; member = member }
      by_run false off = by_free off (is_free p h t.task) refl

  -- each wait leads to a task of a greater rank, in which an activation runs
  record Above (a : ℕ) : Type 0 where
    task : ℕ
    exists : task < length m.tasks
    greater : sound.order.rank a < sound.order.rank task
    busy : Busy task

  above : (a r : ℕ) → IsIn p m a r → runs (plain_key r) h ≡ true → Above a
  above a r member on = record {
    task = t.place;
    exists = slice_get_within m.tasks t.place t.task t.found;
    greater = sound.order.later a t.place (edge p m sound w.point w.server a t.place r w.plan w.most w.awaited w.own w.joined w.found w.queue member inside);
    busy = busy_server w.server w.plan w.most w.point w.found w.queue w.unmet t inside;
  }
    where
      w : Waits r
      w = waits (plain_key r) on

      t : InTask m w.plan.event
      t = server_task w.server w.plan w.most w.found w.queue

      inside : IsIn p m t.place w.plan.runnable
      inside = is_in_task p m sound w.plan.event w.plan.runnable t.task t.place t.found t.mapped (serves_of p m sound w.server w.plan w.found).runs

  bound : (b : ℕ) × ((c : ℕ) → c < length m.tasks → sound.order.rank c ≤ b)
  bound = bound_on sound.order.rank (length m.tasks)

  climbs : (n a r : ℕ) → bound.0 ≤ sound.order.rank a + n → IsIn p m a r → runs (plain_key r) h ≡ true → ⊥
  climbs zero a r enough member on = let up = above a r member on in let greater = up.greater in let most = bound.1 up.task up.exists in omega arith
  climbs (suc n) a r enough member on = let up = above a r member on in let greater = up.greater in
      climbs n up.task up.busy.runnable (omega arith) up.busy.member up.busy.running

  pub none_runs : (k : ActKey) → runs k h ≡ true → ⊥
  none_runs k on = by_shape (shape p m sound k g.key)
    where
      g : GoesOn p h k
      g = going k on

      by_shape : Shape p m sound k → ⊥
      by_shape (direct q of) = no_direct q k of on
      by_shape (plain is other) = climbs bound.0 t.place k.runnable (omega arith) member (subst (λ (j : ActKey). runs j h ≡ true) (sym is) on)
        where
          e : Sought EventPlan p.events g.activation.event (λ (u : EventPlan). Some u.runnable) k.runnable
          e = sought_where p.events g.activation.event (λ (u : EventPlan). Some u.runnable) k.runnable g.own

          by_kind : (o : EventKind) → kind_of p g.activation.event ≡ o → times_mapped p o ≡ 1
          by_kind (Invoked s) kind =
              let back = invoked_serves p m sound g.activation.event s k.runnable kind g.own in
              let queue : is_none (queue_of p s) ≡ false = sym (directly p m sound k.runnable s k.point back) ∙ other in
              some_queue (queue_of p s) queue
          by_kind o kind = refl

          once : times_mapped p e.item.kind ≡ 1
          once = by_kind e.item.kind (kind_at p g.activation.event e.item e.found)

          t : InTask m g.activation.event
          t = mapped p m sound g.activation.event e.item e.found once

          member : IsIn p m t.place k.runnable
          member = is_in_task p m sound g.activation.event k.runnable t.task t.place t.found t.mapped g.own
