-- When an event is due, and whether an area is held, look only at the entries that touch the object.
use Rattle.std.proofs.Common.{◌≡◌, ℕ, suc, ◌+◌, ◌%◌, Bool, true, false, ◌&&◌, ◌||◌, not, ◌==◌, if◌then◌else◌, refl, sym, ◌∙◌, ap, subst, [], ◌∷◌, length, Option, Some, None, is_some}
use Rattle.bus_semantics.specs.Common.{and_from, and_parts, eqb-true, same_Some, list_all, list_any, slice_get, option_map_or, ActKey, same_number, Plan, server_of, kind_of, instance_of}
use Rattle.bus_semantics.specs.Common.{home_of, wanted_by, Past, Noted, count, first_server, first_area, first_machine, clock, server_object, object_of_kind, served_by, touched_by, touches}
use Rattle.bus_semantics.specs.Common.{stored_in, accepts_next, key_fits, serves_directly, event_fits, wish_fits, answer_fits, fits, enters, leaves, is_held, phase_of, is_phase}
use Rattle.bus_semantics.specs.Common.{is_stable_phase, owes_moment, is_start_by, has_unstarted, follows_last, is_tick, ticks, ticks_period, brings_data, returns_to, phase_owes}
use Rattle.bus_semantics.specs.Common.{ends_transition, is_return_event_of, is_start_by_return_of, never_started, switch_due, counts_for, key_point_of, is_due_kind, areas_allow, due_allows}
use Rattle.bus_semantics.specs.Common.{IsSound, starts_its_own, is_proper}
use Rattle.std.specs.Prelude.{filter, nat_lt, option_and_then}
use Rattle.bus_laws.specs.Common.{ElemPlan, EventKind, Timing, Init, DataReceived, Invoked, Returns, ModeSwitch, Ack, Moment, Mapping, Actor, Env, Machine, Act, Deed}
use Rattle.bus_semantics.specs.declared.entries.Deed.TheVariants as deed
use Rattle.bus_laws.proofs.Thinning.{noting, clash, differs, same_test, option_same, option_test, count_thin, any_thin, follows_thin}
use Rattle.bus_laws.proofs.OneEvent.{invoked_serves}
use Rattle.bus_laws.proofs.Bundling.{no_bundle}
use Rattle.bus_laws.proofs.LocalGroups.{accepts_thin, brings_quiet}
use Rattle.bus_laws.proofs.LocalServers.{start_owned, unstarted_thin}
use Rattle.bus_laws.proofs.LocalReturns.{returned_by_thin, returned_by_quiet}
use Rattle.bus_laws.proofs.LocalCalls.{of_server, no_server, nobody_returns}
use Rattle.bus_laws.proofs.LocalMachines.{phase_quiet, owes_thin}

-- ---- starts by an event of the object

module _ (p : Plan) (o e : ℕ) (ours : object_of_kind p (kind_of p e) ≡ Some o) where
  start_silent : (a : Actor) (d : Deed) (event : Option ℕ) → touches p o (noting a d event) ≡ false → is_start_by e (noting a d event) ≡ false
  start_silent a (deed.Start f point value) event off = differs (same_number (object_of_kind p (kind_of p f)) (Some o)) (e == f)
      (λ same. option_test (object_of_kind p (kind_of p f)) (Some o) (ap (λ k. object_of_kind p (kind_of p k)) (sym (eqb-true e f same)) ∙ ours)) off
  start_silent a d event off = refl

  start_quiet : (n : Noted) → touches p o n ≡ false → is_start_by e n ≡ false
  start_quiet n off = start_silent n.entry.actor n.entry.deed n.event off

  never_thin : (h : Past) → list_all (is_proper p) h ≡ true → never_started e (filter (touches p o) h) ≡ never_started e h
  never_thin h fine = ap not (any_thin (touches p o) (is_proper p) (is_start_by e) (λ n ok off. start_quiet n off) h fine)

-- ---- the clock

tick_silent : (p : Plan) (a : Actor) (d : Deed) (event : Option ℕ) → touches p (clock p) (noting a d event) ≡ false → is_tick d ≡ false
tick_silent p a deed.Tick event off = clash (clock p == clock p) (same_test (clock p)) off
tick_silent p a d event off = refl

ticks_thin : (p : Plan) (h : Past) → list_all (is_proper p) h ≡ true → ticks (filter (touches p (clock p)) h) ≡ ticks h
ticks_thin p = count_thin (touches p (clock p)) (is_proper p) (λ n. is_tick n.entry.deed) (λ n o off. tick_silent p n.entry.actor n.entry.deed n.event off)

timing_thin : (p : Plan) (e period : ℕ) → object_of_kind p (kind_of p e) ≡ Some (clock p) → (h : Past) → list_all (is_proper p) h ≡ true
    → follows_last (is_start_by e) (ticks_period period) (filter (touches p (clock p)) h) ≡ follows_last (is_start_by e) (ticks_period period) h
timing_thin p e period ours = follows_thin (touches p (clock p)) (is_proper p) (is_start_by e) (ticks_period period)
    (λ n o off. start_quiet p (clock p) e ours n off)
    (λ n h o fine off. ap (λ b. b && (suc (ticks h) % period == 0)) (tick_silent p n.entry.actor n.entry.deed n.event off))
    (λ n h o fine. ap (λ t. is_tick n.entry.deed && (suc t % period == 0)) (ticks_thin p h fine))

-- ---- data

module _ (p : Plan) (m : Mapping) (sound : IsSound p m) (x : ℕ) (v : ElemPlan) (there : slice_get p.elements x ≡ Some v) (o : ℕ) (home : home_of p v.group ≡ Some o) where
  brings_to : (n : Noted) (h : Past) → brings_data p x n h ≡ (is_some (stored_in p v.group n.entry.deed) || accepts_next p x h n.entry.deed)
  brings_to n h = ap (λ (s : Option ElemPlan). option_map_or (λ (e : ElemPlan). is_some (stored_in p e.group n.entry.deed) || accepts_next p x h n.entry.deed) s false) there

  brings_thin : (n : Noted) (h : Past) → list_all (is_proper p) h ≡ true → brings_data p x n (filter (touches p o) h) ≡ brings_data p x n h
  brings_thin n h fine = brings_to n (filter (touches p o) h) ∙ (accepts_thin p m sound x v there o home n h fine ∙ sym (brings_to n h))

  brings_off : (n : Noted) (h : Past) → touches p o n ≡ false → brings_data p x n h ≡ false
  brings_off n h off = brings_to n h ∙ brings_quiet p m sound x v there o home n h off

  data_thin : (e : ℕ) → object_of_kind p (kind_of p e) ≡ Some o → (h : Past) → list_all (is_proper p) h ≡ true
      → follows_last (is_start_by e) (brings_data p x) (filter (touches p o) h) ≡ follows_last (is_start_by e) (brings_data p x) h
  data_thin e ours = follows_thin (touches p o) (is_proper p) (is_start_by e) (brings_data p x)
      (λ n ok off. start_quiet p o e ours n off) (λ n h ok fine off. brings_off n h off) (λ n h ok fine. brings_thin n h fine)

-- ---- servers

-- a start by a return event of the point touches the point's server
return_start : (p : Plan) (q f : ℕ) (k : EventKind) → kind_of p f ≡ k → is_return_event_of p q f ≡ true → object_of_kind p (kind_of p f) ≡ server_object p (server_of p q)
return_start p q f (Returns r) is returns = let same : (q == r) ≡ true = rw is at returns in
    ap (object_of_kind p) is ∙ ap (λ z. server_object p (server_of p z)) (sym (eqb-true q r same))
return_start p q f k is returns = let no = rw is at returns in absurd (cc no)

module _ (p : Plan) (m : Mapping) (sound : IsSound p m) (q s : ℕ) (joined : server_of p q ≡ Some s) where
  return_silent : (a : Actor) (d : Deed) (event : Option ℕ) → touches p (first_server p + s) (noting a d event) ≡ false → is_start_by_return_of p q (noting a d event) ≡ false
  return_silent a (deed.Start f point value) event off = differs (same_number (object_of_kind p (kind_of p f)) (Some (first_server p + s))) (is_return_event_of p q f)
      (λ returns. option_test (object_of_kind p (kind_of p f)) (Some (first_server p + s)) (return_start p q f (kind_of p f) refl returns ∙ ap (server_object p) joined)) off
  return_silent a d event off = refl

  returns_thin : (h : Past) → list_all (is_proper p) h ≡ true
      → follows_last (is_start_by_return_of p q) (returns_to q) (filter (touches p (first_server p + s)) h) ≡ follows_last (is_start_by_return_of p q) (returns_to q) h
  returns_thin = follows_thin (touches p (first_server p + s)) (is_proper p) (is_start_by_return_of p q) (returns_to q)
      (λ n o off. return_silent n.entry.actor n.entry.deed n.event off)
      (λ n h o fine off. ap is_some (returned_by_quiet p m sound s q joined n.entry.actor n.entry.deed n.event h fine off))
      (λ n h o fine. ap is_some (returned_by_thin p m sound s q joined n.entry.actor n.entry.deed h fine))

-- ---- machines

module _ (p : Plan) (m e : ℕ) (ours : object_of_kind p (kind_of p e) ≡ Some (first_machine p + m)) where
  phase_owes_off : (moment : Moment) (n : Noted) (h : Past) → touches p (first_machine p + m) n ≡ false → phase_owes p m moment n h ≡ false
  phase_owes_off moment n h off = ap (λ s. is_phase s && owes_moment p m (n ∷ h) moment) (phase_quiet p m n off)

  phase_owes_thin : (moment : Moment) (n : Noted) (h : Past) → is_proper p n ≡ true → list_all (is_proper p) h ≡ true → phase_owes p m moment n (filter (touches p (first_machine p + m)) h) ≡ phase_owes p m moment n h
  phase_owes_thin moment n h proper fine = by_test (touches p (first_machine p + m) n) refl
    where
      by_test : (b : Bool) → touches p (first_machine p + m) n ≡ b → phase_owes p m moment n (filter (touches p (first_machine p + m)) h) ≡ phase_owes p m moment n h
      by_test true t =
          let same : owes_moment p m (filter (touches p (first_machine p + m)) (n ∷ h)) moment ≡ owes_moment p m (n ∷ h) moment =
          owes_thin p m (n ∷ h) (and_from (is_proper p n) (list_all (is_proper p) h) proper fine) moment in
          let kept : filter (touches p (first_machine p + m)) (n ∷ h) ≡ n ∷ filter (touches p (first_machine p + m)) h =
          ap (λ b. if b then n ∷ filter (touches p (first_machine p + m)) h else filter (touches p (first_machine p + m)) h) t in
          ap (λ b. is_phase (phase_of m n) && b) (ap (λ l. owes_moment p m l moment) (sym kept) ∙ same)
      by_test false t = phase_owes_off moment n (filter (touches p (first_machine p + m)) h) t ∙ sym (phase_owes_off moment n h t)

  switch_thin : (moment : Moment) (h : Past) → list_all (is_proper p) h ≡ true → switch_due p e m moment (filter (touches p (first_machine p + m)) h) ≡ switch_due p e m moment h
  switch_thin moment h fine =
      let follows = follows_thin (touches p (first_machine p + m)) (is_proper p) (is_start_by e) (phase_owes p m moment) (λ n o off. start_quiet p (first_machine p + m) e ours n off)
      (λ n l o f off. phase_owes_off moment n l off) (λ n l o f. phase_owes_thin moment n l o f) h fine in
      λ i. follows i || (never_thin p (first_machine p + m) e ours h fine i && owes_moment p m [] moment)

  ack_thin : (h : Past) → list_all (is_proper p) h ≡ true → follows_last (is_start_by e) (ends_transition m) (filter (touches p (first_machine p + m)) h) ≡ follows_last (is_start_by e) (ends_transition m) h
  ack_thin = follows_thin (touches p (first_machine p + m)) (is_proper p) (is_start_by e) (ends_transition m) (λ n o off. start_quiet p (first_machine p + m) e ours n off)
      (λ n l o f off. ap (λ s. is_stable_phase s && list_any (λ b. is_stable_phase (phase_of m b)) l) (phase_quiet p m n off))
      (λ n l o f. ap (λ b. is_stable_phase (phase_of m n) && b)
      (any_thin (touches p (first_machine p + m)) (is_proper p) (λ b. is_stable_phase (phase_of m b)) (λ b ok off. ap is_stable_phase (phase_quiet p m b off)) l f))

-- ---- an event that is due

-- the point of a key that fits is one of its server
key_point : (p : Plan) (k : ActKey) (w : ℕ) → key_fits p k ≡ true → k.point ≡ Some w → server_of p w ≡ served_by p (Act k)
key_point p k w fit is =
    let point : (nat_lt k.runnable (length p.runnables) && (serves_directly p k && same_number (server_of p w) (served_by p (Act k)))) ≡ true = rw is at fit in
    option_same (server_of p w) (served_by p (Act k))
    (and_parts (serves_directly p k) (same_number (server_of p w) (served_by p (Act k))) (and_parts (nat_lt k.runnable (length p.runnables)) _ point).1).1

start_key : (p : Plan) (k : ActKey) (e : ℕ) (point : Option ℕ) (value : _) (event : Option ℕ) → is_proper p (noting (Act k) (deed.Start e point value) event) ≡ true → key_fits p k ≡ true
start_key p k e point value event proper =
    let d = deed.Start e point value in
    (and_parts (key_fits p k) (event_fits p (instance_of p k.runnable) e)
    (and_parts (wish_fits p (Act k) (wanted_by 0 d)) (answer_fits p (Act k) d) (and_parts (fits p (noting (Act k) d event).entry) (starts_its_own p (Act k) d) proper).0).0).0

module _ (p : Plan) (m : Mapping) (sound : IsSound p m) (e s : ℕ) (kind : kind_of p e ≡ Invoked s) (point : Option ℕ) (value : _) (event : Option ℕ) where
  counts_key : (k : ActKey) → is_proper p (noting (Act k) (deed.Start e point value) event) ≡ true → (own : Option ℕ) → k.point ≡ own → (q : ℕ) → counts_for p s own q ≡ true → server_of p q ≡ Some s
  counts_key k proper None is q counts = option_same (server_of p q) (Some s) counts
  counts_key k proper (Some w) is q counts =
      subst (λ z. server_of p z ≡ Some s) (eqb-true w q counts)
      (key_point p k w (start_key p k e point value event proper) is ∙ invoked_serves p m sound e s k.runnable kind (start_owned p k e point value event proper))

  counts_server : (a : Actor) → is_proper p (noting a (deed.Start e point value) event) ≡ true → (q : ℕ) → counts_for p s (key_point_of a) q ≡ true → server_of p q ≡ Some s
  counts_server Env proper q counts = option_same (server_of p q) (Some s) counts
  counts_server (Machine n) proper q counts = option_same (server_of p q) (Some s) counts
  counts_server (Act k) proper q counts = counts_key k proper k.point refl q counts

module _ (p : Plan) (m : Mapping) (h : Past) (sound : IsSound p m) (fine : list_all (is_proper p) h ≡ true) where
  data_local : (e x o : ℕ) → object_of_kind p (kind_of p e) ≡ Some o → (v : Option ElemPlan) → slice_get p.elements x ≡ v → option_and_then (home_of p) (option_map_or (λ (w : ElemPlan). Some w.group) v None) ≡ Some o
      → follows_last (is_start_by e) (brings_data p x) h ≡ follows_last (is_start_by e) (brings_data p x) (filter (touches p o) h)
  data_local e x o ours None there touched = absurd (cc touched)
  data_local e x o ours (Some v) there touched = sym (data_thin p m sound x v there o touched e ours h fine)

  kind_local : (a : Actor) (e : ℕ) (point : Option ℕ) (value : _) (event : Option ℕ) (o : ℕ) → is_proper p (noting a (deed.Start e point value) event) ≡ true
      → (k : EventKind) → kind_of p e ≡ k → object_of_kind p k ≡ Some o → is_due_kind p a e k h ≡ is_due_kind p a e k (filter (touches p o) h)
  kind_local a e point value event o proper (Timing period) is touched =
      sym (subst (λ k. follows_last (is_start_by e) (ticks_period period) (filter (touches p k) h) ≡ follows_last (is_start_by e) (ticks_period period) h) (same_Some (clock p) o touched)
      (timing_thin p e period (ap (object_of_kind p) is) h fine))
  kind_local a e point value event o proper Init is touched = sym (never_thin p o e (ap (object_of_kind p) is ∙ touched) h fine)
  kind_local a e point value event o proper (DataReceived x) is touched = data_local e x o (ap (object_of_kind p) is ∙ touched) (slice_get p.elements x) refl touched
  kind_local a e point value event o proper (Invoked s) is touched =
      sym (subst (λ k. has_unstarted (counts_for p s (key_point_of a)) (filter (touches p k) h) ≡ has_unstarted (counts_for p s (key_point_of a)) h) (same_Some (first_server p + s) o touched)
      (unstarted_thin p s (counts_for p s (key_point_of a)) (counts_server p m sound e s is point value event a proper) h fine))
  kind_local a e point value event o proper (Returns q) is touched = let of = of_server p (server_of p q) o touched in
      sym (subst (λ k. follows_last (is_start_by_return_of p q) (returns_to q) (filter (touches p k) h) ≡ follows_last (is_start_by_return_of p q) (returns_to q) h) of.object
      (returns_thin p m sound q of.number of.is h fine))
  kind_local a e point value event o proper (ModeSwitch n moment) is touched =
      sym (subst (λ k. switch_due p e n moment (filter (touches p k) h) ≡ switch_due p e n moment h) (same_Some (first_machine p + n) o touched)
      (switch_thin p n e (ap (object_of_kind p) is) moment h fine))
  kind_local a e point value event o proper (Ack n) is touched =
      sym (subst (λ k. follows_last (is_start_by e) (ends_transition n) (filter (touches p k) h) ≡ follows_last (is_start_by e) (ends_transition n) h) (same_Some (first_machine p + n) o touched)
      (ack_thin p n e (ap (object_of_kind p) is) h fine))

  pub due_local : (a : Actor) (d : Deed) (event : Option ℕ) (o : ℕ) → is_proper p (noting a d event) ≡ true → touched_by p (noting a d event) ≡ Some o → due_allows p h a d ≡ due_allows p (filter (touches p o) h) a d
  due_local a (deed.Start e point value) event o proper touched = kind_local a e point value event o proper (kind_of p e) refl touched
  due_local a d event o proper touched = refl

  -- ---- an event that touches no object is never due

  never_follows : (starts : Noted → Bool) (happened : Noted → Past → Bool) → ((n : Noted) (l : Past) → list_all (is_proper p) l ≡ true → happened n l ≡ false)
      → (l : Past) → list_all (is_proper p) l ≡ true → follows_last starts happened l ≡ false
  never_follows starts happened never [] f = refl
  never_follows starts happened never (n ∷ l) f = let parts = and_parts (is_proper p n) (list_all (is_proper p) l) f in
      rw (never n l parts.1, never_follows starts happened never l parts.1) (nothing (starts n))
    where
      nothing : (b : Bool) → (not b && false) ≡ false
      nothing true = refl
      nothing false = refl

  no_data : (x : ℕ) (v : Option ElemPlan) → slice_get p.elements x ≡ v → option_map_or (λ (w : ElemPlan). Some w.group) v None ≡ None → (n : Noted) (l : Past) → brings_data p x n l ≡ false
  no_data x None there free n l = rw there refl
  no_data x (Some v) there free n l = absurd (cc free)

  kind_free : (a : Actor) (e : ℕ) (k : EventKind) → object_of_kind p k ≡ None → is_due_kind p a e k h ≡ is_due_kind p a e k []
  kind_free a e (Timing period) free = absurd (cc free)
  kind_free a e Init free = absurd (cc free)
  kind_free a e (DataReceived x) free = never_follows (is_start_by e) (brings_data p x) (λ n l f. no_data x (slice_get p.elements x) refl (no_bundle p sound.bundles sound.groups x free) n l) h fine
  kind_free a e (Invoked s) free = absurd (cc free)
  kind_free a e (Returns q) free = never_follows (is_start_by_return_of p q) (returns_to q)
      (λ n l f. ap is_some (nobody_returns p q (no_server p (server_of p q) free) n.entry.actor n.entry.deed l f)) h fine
  kind_free a e (ModeSwitch n moment) free = absurd (cc free)
  kind_free a e (Ack n) free = absurd (cc free)

  pub due_free : (a : Actor) (d : Deed) (event : Option ℕ) → touched_by p (noting a d event) ≡ None → due_allows p h a d ≡ due_allows p [] a d
  due_free a (deed.Start e point value) event free = kind_free a e (kind_of p e) free
  due_free a d event free = refl

  -- ---- areas

  held_thin : (x : ℕ) → is_held x (filter (touches p (first_area p + x)) h) ≡ is_held x h
  held_thin x = λ i. not (left_area i == entered i)
    where
      same_area : (y : ℕ) → (x == y) ≡ true → same_number (Some (first_area p + y)) (Some (first_area p + x)) ≡ true
      same_area y same = option_test (Some (first_area p + y)) (Some (first_area p + x)) (ap (λ z. Some (first_area p + z)) (sym (eqb-true x y same)))

      enter_silent : (a : Actor) (d : Deed) (event : Option ℕ) → touches p (first_area p + x) (noting a d event) ≡ false → enters x d ≡ false
      enter_silent a (deed.Enter y) event off = differs (same_number (Some (first_area p + y)) (Some (first_area p + x))) (x == y) (same_area y) off
      enter_silent a d event off = refl

      leave_silent : (a : Actor) (d : Deed) (event : Option ℕ) → touches p (first_area p + x) (noting a d event) ≡ false → leaves x d ≡ false
      leave_silent a (deed.Leave y) event off = differs (same_number (Some (first_area p + y)) (Some (first_area p + x))) (x == y) (same_area y) off
      leave_silent a d event off = refl

      left_area : count (λ (n : Noted). leaves x n.entry.deed) (filter (touches p (first_area p + x)) h) ≡ count (λ (n : Noted). leaves x n.entry.deed) h
      left_area = count_thin (touches p (first_area p + x)) (is_proper p) (λ n. leaves x n.entry.deed) (λ n o off. leave_silent n.entry.actor n.entry.deed n.event off) h fine

      entered : count (λ (n : Noted). enters x n.entry.deed) (filter (touches p (first_area p + x)) h) ≡ count (λ (n : Noted). enters x n.entry.deed) h
      entered = count_thin (touches p (first_area p + x)) (is_proper p) (λ n. enters x n.entry.deed) (λ n o off. enter_silent n.entry.actor n.entry.deed n.event off) h fine

  pub areas_local : (a : Actor) (d : Deed) (event : Option ℕ) (o : ℕ) → touched_by p (noting a d event) ≡ Some o → areas_allow h d ≡ areas_allow (filter (touches p o) h) d
  areas_local a (deed.Enter x) event o touched =
      sym (subst (λ k. not (is_held x (filter (touches p k) h)) ≡ not (is_held x h)) (same_Some (first_area p + x) o touched) (ap not (held_thin x)))
  areas_local a d event o touched = refl

  pub areas_free : (a : Actor) (d : Deed) (event : Option ℕ) → touched_by p (noting a d event) ≡ None → areas_allow h d ≡ areas_allow [] d
  areas_free a (deed.Enter x) event free = absurd (cc free)
  areas_free a d event free = refl
