-- The requests of a direct server: while a caller is held back, its activation runs or has still to start.
use Rattle.std.proofs.Common.{◌≡◌, ℕ, zero, suc, ◌+◌, ◌<◌, ◌≤◌, Bool, true, false, ◌&&◌, ◌||◌, not, ◌==◌, if◌then◌else◌, refl, sym, ◌∙◌, ap, subst, arith, [], ◌∷◌, ◌++◌, length}
use Rattle.std.proofs.Common.{length-append, nat_lt, is_some, Option, Some, None}
use Rattle.bus_semantics.specs.Common.{slice_get, and_parts, or_parts, eqb-true, eq-eqb, ltb-true, lt-ltb, false≢true, same_Some, ActKey, Value, words_of, same_number, same_key-Decides}
use Rattle.bus_semantics.specs.Common.{Plan, server_of, queue_of, kind_of, disabling_of, runnable_of_event, instance_of, Wanted, to_admit, same_wanted, History, Past, made_by, is_of, is_end}
use Rattle.bus_semantics.specs.Common.{is_over, runs, last_started, noted, note, key_fits, event_fits, start_fits, requests_of, starts_of, is_start_of, has_unstarted, is_key_point}
use Rattle.bus_semantics.specs.Common.{is_request, next_request, IsLegal, MayFollow, accepted_point, asked_last, ended_since, is_held_back, caller_has_asked, may_start, starts_or_goes_on}
use Rattle.bus_semantics.specs.Common.{next_of_activity, may_be_disabled, IsSound}
use Rattle.bus_laws.specs.Common.{ServerPlan, EventKind, Invoked, Mapping, Actor, Env, Machine, Act, Deed, Entry}
use Rattle.bus_semantics.specs.declared.entries.Deed.TheVariants as deed
use Rattle.bus_laws.proofs.Thinning.{noting, option_same}
use Rattle.bus_laws.proofs.OneEvent.{invoked_serves, serves_invoked}
use Rattle.history_laws.proofs.EventFacts.{undisabled}
use Rattle.history_laws.proofs.Requests.{Serving, by_queue, directly, serving}
use Rattle.no_stall.proofs.Premises.{Laws}
use Rattle.no_stall.proofs.Keys.{IsDirect, has_runnable, queue_at, served}
use Rattle.no_stall.proofs.Asking.{was_next, activity, is_ask}

-- ---- an admission that was asked for is of an event with disabled modes

pub admit_is : (e : ℕ) (w : Wanted) → same_wanted (to_admit e) w ≡ true → (f : ℕ) × (w ≡ to_admit f)
admit_is e (to_admit f) is = (f, refl)
admit_is e w is = absurd (false≢true is)

module _ (p : Plan) (m : Mapping) (sound : IsSound p m) (laws : Laws p m) where
  -- an activation whose event has no disabled modes is not admitted, nor refused
  pub unadmitted : (h : History) → IsLegal p h → (k : ActKey) (e : Entry) → MayFollow p h e → is_of k e ≡ true → ((f : ℕ) → runnable_of_event p f ≡ Some k.runnable → last_started k h ≡ Some f → disabling_of p f ≡ None) → (b : Bool) → e.deed ≡ deed.Admit b → ⊥
  unadmitted h legal k e may own none b is = by_actor e.actor own (subst (λ (d : Deed). MayFollow p h (record { actor = e.actor; deed = d })) is may)
    where
      by_actor : (a : Actor) → is_of k (record { actor = a; deed = deed.Admit b }) ≡ true → MayFollow p h (record { actor = a; deed = deed.Admit b }) → ⊥
      by_actor Env own may = absurd (false≢true own)
      by_actor (Machine i) own may = absurd (false≢true own)
      by_actor (Act j) own may =
          let key : k ≡ j = (same_key-Decides k j).0 own in
          let next = was_next p m sound laws h j (to_admit _) legal (and_parts (starts_or_goes_on p h j (deed.Admit b)) (not (is_held_back p h j)) may.actor).0 in
          let g = next.goes in
          let wish = admit_is _ g.wish next.same in
          let some = laws.disabled j g.runnable g.activation.event wish.0 g.activation.start g.activation.deeds (activity p m sound laws h j g) (subst (λ w. next_of_activity p g.runnable g.activation.event g.activation.start g.activation.deeds ≡ Some w) wish.1 g.asks.next) in
          absurd (false≢true (sym (ap is_some (none g.activation.event (subst (λ (i : ActKey). runnable_of_event p g.activation.event ≡ Some i.runnable) (sym key) g.own) (subst (λ (i : ActKey). last_started i h ≡ Some g.activation.event) (sym key) g.started))) ∙ some))

over_admit : (d : Deed) → is_over d ≡ true → is_end d ≡ false → d ≡ deed.Admit false
over_admit deed.End over other = absurd (false≢true (sym other))
over_admit (deed.Admit false) over other = refl
over_admit (deed.Admit true) over other = absurd (false≢true over)
over_admit d over other = absurd (false≢true over)

-- ---- counting requests and starts

grown : (counts : ℕ → Bool) (a : Actor) (d : Deed) (event : Option ℕ) (l : Past) → length (requests_of counts l) ≤ length (requests_of counts (noting a d event ∷ l))
grown counts a (deed.Ask q value zero) event l = by_test (counts q)
  where
    by_test : (b : Bool) → length (requests_of counts l) ≤ length (if b then requests_of counts l ++ (q, words_of value) ∷ [] else requests_of counts l)
    by_test true = let e = length-append (requests_of counts l) ((q, words_of value) ∷ []) in omega arith
    by_test false = omega arith
grown counts a (deed.Ask q value (suc code)) event l = omega arith
grown counts a d event l = omega arith

asked_more : (counts : ℕ → Bool) (a : Actor) (q : ℕ) (value : Value) (event : Option ℕ) (l : Past) → counts q ≡ true → length (requests_of counts (noting a (deed.Ask q value 0) event ∷ l)) ≡ length (requests_of counts l) + 1
asked_more counts a q value event l is = rw is (length-append (requests_of counts l) ((q, words_of value) ∷ []))

unstarted_less : (counts : ℕ → Bool) (l : Past) → has_unstarted counts l ≡ true → starts_of counts l < length (requests_of counts l)
unstarted_less counts l e = ltb-true (starts_of counts l) (length (requests_of counts l)) e

less_unstarted : (counts : ℕ → Bool) (l : Past) → starts_of counts l < length (requests_of counts l) → has_unstarted counts l ≡ true
less_unstarted counts l e = lt-ltb (starts_of counts l) (length (requests_of counts l)) e

starts_same : (counts : ℕ → Bool) (a : Actor) (d : Deed) (event : Option ℕ) (l : Past) → is_start_of counts d ≡ false → starts_of counts (noting a d event ∷ l) ≡ starts_of counts l
starts_same counts a d event l no_start = rw no_start refl

starts_more : (counts : ℕ → Bool) (a : Actor) (d : Deed) (event : Option ℕ) (l : Past) → is_start_of counts d ≡ true → starts_of counts (noting a d event ∷ l) ≡ suc (starts_of counts l)
starts_more counts a d event l start = rw start refl

module _ (p : Plan) (m : Mapping) (sound : IsSound p m) (laws : Laws p m) (q : ℕ) (k : ActKey) (of : IsDirect p q k) where
  abbrev here : ℕ → Bool
  here r = q == r

  -- a start that names the point is by its direct activation, and a request has not started
  record IsStart (a : Actor) (h : History) : Type 0 where
    key : a ≡ Act k
    due : has_unstarted here (noted h) ≡ true

  start_key : (h : History) (j : ActKey) (ev s : ℕ) (value : Value) → kind_of p ev ≡ Invoked s → server_of p q ≡ Some s → MayFollow p h (record { actor = Act j; deed = deed.Start ev (Some q) value }) → IsStart (Act j) h
  start_key h j ev s value kind joined may = by_serving (serving p m sound j ev s kind own fit)
    where
      entry_fit : (key_fits p j && event_fits p (instance_of p j.runnable) ev) ≡ true
      entry_fit = (and_parts (key_fits p j && event_fits p (instance_of p j.runnable) ev) (start_fits p (kind_of p ev) (Some q) (words_of value)) may.fit).0

      fit : key_fits p j ≡ true
      fit = (and_parts (key_fits p j) (event_fits p (instance_of p j.runnable) ev) entry_fit).0

      program : may_start p h j ev ≡ true
      program = (and_parts (may_start p h j ev) (not (is_held_back p h j)) may.actor).0

      own : runnable_of_event p ev ≡ Some j.runnable
      own = option_same (runnable_of_event p ev) (Some j.runnable) (and_parts (same_number (runnable_of_event p ev) (Some j.runnable)) (not (runs j h))
          (and_parts (same_number (runnable_of_event p ev) (Some j.runnable) && not (runs j h)) (caller_has_asked p h j) program).0).0

      server : s ≡ of.server
      server = same_Some s of.server (sym joined ∙ of.joined)

      no_queue : queue_of p s ≡ None
      no_queue = ap (queue_of p) server ∙ queue_at p m sound of.server of.plan of.found ∙ of.queue

      runnables : of.plan.runnable ≡ j.runnable
      runnables =
          let v = has_runnable p m sound j.runnable s (invoked_serves p m sound ev s j.runnable kind own) in
          let same : of.plan ≡ v.0 = same_Some of.plan v.0 (sym of.found ∙ ap (slice_get p.servers) (sym server) ∙ v.1) in
          ap (λ (u : ServerPlan). u.runnable) same ∙ v.2

      by_serving : Serving p s j.point → IsStart (Act j) h
      by_serving (by_queue most none queue) = let never : None ≡ Some most = sym no_queue ∙ queue in absurd (cc never)
      by_serving (directly x some queue at) = record {
        key = ap Act (sym (sym of.is ∙ same));
        due = subst (λ (y : ℕ). has_unstarted (λ r. y == r) (noted h) ≡ true) point due;
      }
        where
          named : is_key_point (Act j) q ≡ true
          named = (and_parts (is_key_point (Act j) q) (is_request q (words_of value) (next_request p q (noted h))) may.answers.calls).0

          point : x ≡ q
          point = eqb-true x q (rw some at named)

          same : record { runnable = of.plan.runnable; point = Some q } ≡ j
          same = λ i. record { runnable = runnables i; point = sym (some ∙ ap (λ (y : ℕ). Some y) point) i }

          due : has_unstarted (λ r. x == r) (noted h) ≡ true
          due = rw (kind, some) at may.answers.due

  start_is : (h : History) (a : Actor) (d : Deed) → MayFollow p h (record { actor = a; deed = d }) → is_start_of here d ≡ true → IsStart a h
  start_is h a (deed.Start ev (Some r) value) may is = by_actor a (subst (λ x. MayFollow p h (record { actor = a; deed = deed.Start ev (Some x) value })) (sym (eqb-true q r is)) may)
    where
      by_kind : (j : ActKey) → MayFollow p h (record { actor = Act j; deed = deed.Start ev (Some q) value }) → (o : EventKind) → kind_of p ev ≡ o → start_fits p o (Some q) (words_of value) ≡ true → IsStart (Act j) h
      by_kind j may (Invoked s) kind fit = start_key h j ev s value kind (option_same (server_of p q) (Some s) fit) may
      by_kind j may o kind fit = absurd (false≢true fit)

      by_actor : (b : Actor) → MayFollow p h (record { actor = b; deed = deed.Start ev (Some q) value }) → IsStart b h
      by_actor Env may = absurd (false≢true (and_parts false (start_fits p (kind_of p ev) (Some q) (words_of value)) may.fit).0)
      by_actor (Machine i) may = absurd (false≢true (and_parts (nat_lt i (length p.machines)) false (and_parts (nat_lt i (length p.machines) && false) (start_fits p (kind_of p ev) (Some q) (words_of value)) may.fit).0).1)
      by_actor (Act j) may = by_kind j may (kind_of p ev) refl (and_parts (key_fits p j && event_fits p (instance_of p j.runnable) ev) (start_fits p (kind_of p ev) (Some q) (words_of value)) may.fit).1
  start_is h a d may is = absurd (false≢true is)

  -- not more starts than requests
  pub no_more : (h : History) → IsLegal p h → starts_of here (noted h) ≤ length (requests_of here (noted h))
  no_more [] legal = omega arith
  no_more (e ∷ h) legal = by_start (is_start_of here e.deed) refl (no_more h legal.0) (grown here e.actor e.deed (note h e).event (noted h))
    where
      by_start : (b : Bool) → is_start_of here e.deed ≡ b → starts_of here (noted h) ≤ length (requests_of here (noted h))
          → length (requests_of here (noted h)) ≤ length (requests_of here (noted (e ∷ h))) → starts_of here (noted (e ∷ h)) ≤ length (requests_of here (noted (e ∷ h)))
      by_start false is before more = let same = starts_same here e.actor e.deed (note h e).event (noted h) is in omega arith
      by_start true is before more =
          let start = start_is h e.actor e.deed legal.1 is in
          let less = unstarted_less here (noted h) start.due in
          let one = starts_more here e.actor e.deed (note h e).event (noted h) is in
          omega arith

  not_refused : (h : History) → IsLegal p h → (e : Entry) → MayFollow p h e → is_of k e ≡ true → is_over e.deed ≡ true → is_end e.deed ≡ false → ⊥
  not_refused h legal e may own over other = unadmitted p m sound laws h legal k e may own none false (over_admit e.deed over other)
    where
      none : (f : ℕ) → runnable_of_event p f ≡ Some k.runnable → last_started k h ≡ Some f → disabling_of p f ≡ None
      none f starts started =
          let serves = (served p m sound of.server of.plan of.found).back in
          let runnables : of.plan.runnable ≡ k.runnable = ap (λ (j : ActKey). j.runnable) of.is in
          let kind = serves_invoked p m sound f of.server of.plan.runnable (starts ∙ ap (λ (n : ℕ). Some n) (sym runnables)) serves in
          undisabled p m sound f (ap may_be_disabled kind)

  -- after a caller's ask, if the direct activation has not ended and does not run, the request has not started
  pub waits_to_start : (h : History) → IsLegal p h → (c : ActKey) → asked_last c h ≡ Some q → ended_since c k h ≡ false → runs k h ≡ false → has_unstarted here (noted h) ≡ true
  waits_to_start [] legal c last ended off = absurd (cc last)
  waits_to_start (e ∷ h) legal c last ended off = by_own (waits_to_start h legal.0 c) (is_of c e) refl
    where
      by_start : has_unstarted here (noted h) ≡ true → is_of k e ≡ false → (b : Bool) → is_start_of here e.deed ≡ b → has_unstarted here (noted (e ∷ h)) ≡ true
      by_start before other true is =
          let key = (start_is h e.actor e.deed legal.1 is).key in
          absurd (false≢true (sym other ∙ ap (made_by k) key ∙ (same_key-Decides k k).1 refl))
      by_start before other false is =
          let less = unstarted_less here (noted h) before in
          let same = starts_same here e.actor e.deed (note h e).event (noted h) is in
          let more = grown here e.actor e.deed (note h e).event (noted h) in
          less_unstarted here (noted (e ∷ h)) (omega arith)

      by_over : is_of k e ≡ true → is_end e.deed ≡ false → (b : Bool) → is_over e.deed ≡ b → (if b then false else true) ≡ false → ⊥
      by_over mine unended true over gone = not_refused h legal.0 e legal.1 mine over unended
      by_over mine unended false over gone = absurd (false≢true (sym gone))

      by_key : (runs k h ≡ false → has_unstarted here (noted h) ≡ true) → (b : Bool) → is_of k e ≡ b → (b && is_end e.deed) ≡ false → has_unstarted here (noted (e ∷ h)) ≡ true
      by_key before true mine unended = let gone : (if is_over e.deed then false else true) ≡ false = rw mine at off in absurd (by_over mine unended (is_over e.deed) refl gone)
      by_key before false mine unended = let off_before : runs k h ≡ false = rw mine at off in by_start (before off_before) mine (is_start_of here e.deed) refl

      by_own : (asked_last c h ≡ Some q → ended_since c k h ≡ false → runs k h ≡ false → has_unstarted here (noted h) ≡ true) → (b : Bool) → is_of c e ≡ b → has_unstarted here (noted (e ∷ h)) ≡ true
      by_own before true own =
          let point : accepted_point e.deed ≡ Some q = rw own at last in
          let ask = is_ask p m sound laws h legal.0 c q e.actor e.deed e legal.1 own point in
          let more = ap (λ (d : Deed). length (requests_of here (noting e.actor d (note h e).event ∷ noted h))) ask.deed_is ∙ asked_more here e.actor q ask.value (note h e).event (noted h) (eq-eqb q q refl) in
          let same = starts_same here e.actor e.deed (note h e).event (noted h) (ap (is_start_of here) ask.deed_is) in
          let less = no_more h legal.0 in
          less_unstarted here (noted (e ∷ h)) (omega arith)
      by_own before false other =
          let last_before : asked_last c h ≡ Some q = rw other at last in
          let ended_before : ((is_of k e && is_end e.deed) || ended_since c k h) ≡ false = rw other at ended in
          let parts = or_parts (is_of k e && is_end e.deed) (ended_since c k h) ended_before in
          by_key (before last_before parts.1) (is_of k e) refl parts.0
