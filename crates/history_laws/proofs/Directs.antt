-- A request of a direct server starts right after the caller's ask, and is served until it is returned.
use Rattle.std.proofs.Common.{◌≡◌, ℕ, zero, suc, ◌<◌, ℤ, Bool, true, false, ◌&&◌, ◌||◌, not, ◌==◌, if◌then◌else◌, refl, sym, ◌∙◌, ap, subst, arith, List, [], ◌∷◌, ◌++◌, length, Option, Some}
use Rattle.std.proofs.Common.{None, is_some}
use Rattle.bus_semantics.specs.Common.{and_parts, eq-eqb, eqb-true, ltb-true, false≢true, nat_tests, same_Some, slice_get, list_all, ActKey, Value, words_of, same_number, same_key}
use Rattle.bus_semantics.specs.Common.{same_key-Decides, Plan, server_of, queue_of, caller_of, kind_of, runnable_of_event, wanted_by, History, noted, note, is_of, is_end, is_over, runs}
use Rattle.bus_semantics.specs.Common.{served_by, serves_directly, key_fits, own_point, start_fits, is_request_at, requests_of, is_start_of, starts_of, serves, is_key_point, has_unstarted}
use Rattle.bus_semantics.specs.Common.{counts_for, is_due_kind, direct_key, accepted_point, asked_last, ended_since, is_held_back, caller_has_asked, starts_or_goes_on, follows_program}
use Rattle.bus_semantics.specs.Common.{is_open, serves_by, plain_key, is_proper, MayFollow, IsLegal, direct_sound, IsSound}
use Rattle.std.specs.Prelude.{nat_lt}
use Rattle.bus_laws.specs.Common.{PointPlan, ServerPlan, Invoked, Mapping, Actor, Env, Machine, Act, Deed, Entry}
use Rattle.bus_semantics.specs.declared.entries.Deed.TheVariants as deed
use Rattle.history_laws.specs.LookUps.{looked, all_at, at_place}
use Rattle.history_laws.proofs.Asking.{calls_none}
use Rattle.bus_laws.proofs.Thinning.{clash, option_same, sought_where}
use Rattle.bus_laws.proofs.Local.{proper_legal}
use Rattle.bus_laws.proofs.OneEvent.{invoked_serves, serves_invoked}
use Rattle.bus_laws.proofs.LocalServers.{start_named, start_owned}
use Rattle.history_laws.specs.Callers.{CallerWaits}
use Rattle.history_laws.specs.Serving.{IsOpen, IsServedBy, IsBegunOrServed, begins, served}
use Rattle.history_laws.proofs.Keys.{mine, itself, key_is, is_mine, alive, IsTo, others, starts, goes_on, is_to, runs_mine, runs_other}
use Rattle.history_laws.proofs.GoingOn.{acting}
use Rattle.history_laws.proofs.Requests.{Serving, by_queue, directly, serving}
use Rattle.history_laws.proofs.OneKey.{key_part, no_starter, server_home, one_runnable}
use Rattle.history_laws.proofs.OpenCalls.{still_open, served_more, length_more}

-- ---- the direct server of a point, and who calls there

record DirectAt (p : Plan) (q : ℕ) (d : ActKey) : Type 0 where
  number : ℕ
  server : ServerPlan
  joined : server_of p q ≡ Some number
  there : slice_get p.servers number ≡ Some server
  queue : server.queue ≡ None
  runnable : d.runnable ≡ server.runnable
  point : d.point ≡ Some q

direct_at : (p : Plan) (q : ℕ) (d : ActKey) → direct_key p q ≡ Some d → DirectAt p q d
direct_at p q d key = by_server (server_of p q) refl
  where
    by_queue_of : (s : ℕ) → server_of p q ≡ Some s → (v : ServerPlan) → slice_get p.servers s ≡ Some v → (o : Option ℕ) → v.queue ≡ o → DirectAt p q d
    by_queue_of s joined v there (Some most) queue = absurd (cc (rw (joined, there, queue) at key))
    by_queue_of s joined v there None queue =
        let is : Some (record { runnable = v.runnable; point = Some q }) ≡ Some d = rw (joined, there, queue) at key in
        let same = same_Some (record { runnable = v.runnable; point = Some q }) d is in
        record { number = s; server = v; joined = joined; there = there; queue = queue; runnable = sym (ap (λ (k : ActKey). k.runnable) same); point = sym (ap (λ (k : ActKey). k.point) same) }

    by_plan : (s : ℕ) → server_of p q ≡ Some s → (o : Option ServerPlan) → slice_get p.servers s ≡ o → DirectAt p q d
    by_plan s joined None there = absurd (cc (rw (joined, there) at key))
    by_plan s joined (Some v) there = by_queue_of s joined v there v.queue refl

    by_server : (o : Option ℕ) → server_of p q ≡ o → DirectAt p q d
    by_server None joined = absurd (cc (rw joined at key))
    by_server (Some s) joined = by_plan s joined (slice_get p.servers s) refl

-- some runnable calls there
calls_there : (p : Plan) (m : Mapping) → IsSound p m → (q : ℕ) (d : ActKey) → DirectAt p q d → (c : ℕ) × (caller_of p q ≡ Some c)
calls_there p m sound q d of =
    let t = sought_where p.points q (λ (x : PointPlan). x.server) of.number of.joined in
    let whole : direct_sound p of.number of.server ≡ true = at_place (direct_sound p) p.servers of.number of.server sound.direct of.there in
    let test = λ (x : PointPlan). not (same_number x.server (Some of.number)) || is_some x.runnable in
    let each : test t.item ≡ true = all_at test p.points q t.item (points_part (is_some of.server.queue) _ (list_all test p.points) (ap is_some of.queue) whole) t.found in
    by_caller t.item.runnable (looked p.points q t.item (λ (x : PointPlan). x.runnable) None t.found) (either _ (is_some t.item.runnable) (ap (λ o. same_number o (Some of.number)) t.number ∙ eq-eqb of.number of.number refl) each)
  where
    points_part : (a b c : Bool) → a ≡ false → (a || (b && c)) ≡ true → c ≡ true
    points_part true b c other e = absurd (false≢true (sym other))
    points_part false b c other e = (and_parts b c e).1

    either : (a b : Bool) → a ≡ true → (not a || b) ≡ true → b ≡ true
    either true b is e = e
    either false b is e = absurd (false≢true is)

    by_caller : (o : Option ℕ) → caller_of p q ≡ o → is_some o ≡ true → (c : ℕ) × (caller_of p q ≡ Some c)
    by_caller None is some = absurd (false≢true some)
    by_caller (Some c) is some = (c, is)

no_end : (d : Deed) → is_over d ≡ false → is_end d ≡ false
no_end deed.End over = absurd (false≢true (sym over))
no_end d over = refl

module _ (p : Plan) (m : Mapping) (sound : IsSound p m) (q : ℕ) (d : ActKey) (key : direct_key p q ≡ Some d) where
  at : DirectAt p q d
  at = direct_at p q d key

  caller : (c : ℕ) × (caller_of p q ≡ Some c)
  caller = calls_there p m sound q d at

  abbrev ck : ActKey
  ck = plain_key caller.0

  abbrev counts : ℕ → Bool
  counts r = q == r

  abbrev started : History → ℕ
  started h = starts_of counts (noted h)

  abbrev requests : History → List (ℕ × List ℤ)
  requests h = requests_of counts (noted h)

  home : served_by p (Act d) ≡ Some at.number
  home = server_home p m sound at.number at.server at.there d at.runnable

  queue_is : queue_of p at.number ≡ None
  queue_is = looked p.servers at.number at.server (λ (w : ServerPlan). w.queue) None at.there ∙ at.queue

  apart_keys : same_key d ck ≡ false
  apart_keys = by_test (same_key d ck) refl
    where
      by_test : (b : Bool) → same_key d ck ≡ b → b ≡ false
      by_test false is = refl
      by_test true is = absurd (cc (sym at.point ∙ ap (λ (k : ActKey). k.point) (sym (key_is d ck is))))

  apart_too : same_key ck d ≡ false
  apart_too = by_test (same_key ck d) refl
    where
      by_test : (b : Bool) → same_key ck d ≡ b → b ≡ false
      by_test false is = refl
      by_test true is = absurd (cc (sym at.point ∙ ap (λ (k : ActKey). k.point) (key_is ck d is)))

  -- ---- who asks and who starts there

  asker : (h : History) (a : Actor) (w : Deed) → IsLegal p h → MayFollow p h (record { actor = a; deed = w }) → is_request_at q w ≡ true → is_of ck (record { actor = a; deed = w }) ≡ true
  asker h a (deed.Ask r value zero) legal may new = by_actor a may
    where
      same : q ≡ r
      same = eqb-true q r new

      by_point : (j : ActKey) → MayFollow p h (mine j (deed.Ask r value 0)) → j.runnable ≡ caller.0 → (o : Option ℕ) → j.point ≡ o → same_key ck j ≡ true
      by_point j may runnable None none = (same_key-Decides ck j).1 (λ i. record { runnable = sym runnable i; point = sym none i })
      by_point j may runnable (Some t) some = by_kind (is_to p j h (mine j (deed.Ask r value 0)) may (alive p j h legal))
        where
          by_kind : IsTo p j h (mine j (deed.Ask r value 0)) → same_key ck j ≡ true
          by_kind (others other) = absurd (false≢true (sym other ∙ itself j))
          by_kind (starts event point held is own idle runnable_is asked) = absurd (cc (ap (λ (z : Entry). z.deed) is))
          by_kind (goes_on is own other running a next) =
              let named : key_fits p (record { runnable = j.runnable; point = Some t }) ≡ true = subst (λ (o : Option ℕ). key_fits p (record { runnable = j.runnable; point = o }) ≡ true) some a.key in
              let direct : serves_directly p j ≡ true = (and_parts (serves_directly p j) _ (and_parts (nat_lt j.runnable (length p.runnables)) _ named).1).0 in
              absurd (false≢true (sym (calls_none p m j a.runnable a.activation.event (acting p m j h sound a) a.activation.start a.activation.deeds (wanted_by a.activation.event (deed.Ask r value 0)) next direct)))

      by_actor : (a : Actor) → MayFollow p h (record { actor = a; deed = deed.Ask r value 0 }) → is_of ck (record { actor = a; deed = deed.Ask r value 0 }) ≡ true
      by_actor Env may =
          let own = (and_parts (own_point p None r) true may.fit).0 in
          let none : same_number (caller_of p r) None ≡ true = (and_parts (nat_lt r (length p.points)) (same_number (caller_of p r) None) own).1 in
          absurd (cc (sym caller.1 ∙ ap (caller_of p) same ∙ option_same (caller_of p r) None none))
      by_actor (Machine n) may = absurd (false≢true (and_parts (nat_lt n (length p.machines)) false (and_parts (nat_lt n (length p.machines) && false) true may.fit).0).1)
      by_actor (Act j) may =
          let both = and_parts (key_fits p j) (own_point p (Some j.runnable) r) (and_parts (key_fits p j && own_point p (Some j.runnable) r) true may.fit).0 in
          let own : same_number (caller_of p r) (Some j.runnable) ≡ true = (and_parts (nat_lt r (length p.points)) (same_number (caller_of p r) (Some j.runnable)) both.1).1 in
          let runnable : j.runnable ≡ caller.0 = same_Some j.runnable caller.0 (sym (option_same (caller_of p r) (Some j.runnable) own) ∙ sym (ap (caller_of p) same) ∙ caller.1) in
          by_point j may runnable j.point refl
  asker h a w legal may new = absurd (false≢true new)

  starter : (h : History) (a : Actor) (w : Deed) → MayFollow p h (record { actor = a; deed = w }) → is_proper p (note h (record { actor = a; deed = w })) ≡ true → is_start_of counts w ≡ true → is_of d (record { actor = a; deed = w }) ≡ true
  starter h Env (deed.Start e (Some r) value) may proper counted = absurd (false≢true may.fit)
  starter h (Machine n) (deed.Start e (Some r) value) may proper counted = no_starter p n e (Some r) value None proper
  starter h (Act j) (deed.Start e (Some r) value) may proper counted =
      let same : q ≡ r = eqb-true q r counted in
      let of = start_named p (Act j) e r value None proper in
      let number : of.server ≡ at.number = same_Some of.server at.number (sym of.joined ∙ sym (ap (server_of p) same) ∙ at.joined) in
      let kind : kind_of p e ≡ Invoked at.number = of.kind ∙ ap Invoked number in
      let owned = start_owned p j e (Some r) value None proper in
      let fit = key_part p j (deed.Start e (Some r) value) None proper in
      let there = invoked_serves p m sound e at.number j.runnable kind owned in
      let runnable : d.runnable ≡ j.runnable = one_runnable p m sound at.number d j home there in
      by_serving runnable (serving p m sound j e at.number kind owned fit) (and_parts (is_key_point (Act j) r) _ may.answers.calls).0 same
    where
      by_serving : d.runnable ≡ j.runnable → Serving p at.number j.point → is_key_point (Act j) r ≡ true → q ≡ r → same_key d j ≡ true
      by_serving runnable (by_queue most none queue) mine_is same = absurd (cc (sym queue_is ∙ queue))
      by_serving runnable (directly own some queue joined) mine_is same =
          let point : own ≡ r = eqb-true own r (subst (λ (o : Option ℕ). is_key_point (Act (record { runnable = j.runnable; point = o })) r ≡ true) some mine_is) in
          let points : d.point ≡ j.point = at.point ∙ ap (λ n. Some n) (same ∙ sym point) ∙ sym some in
          (same_key-Decides d j).1 (λ i. record { runnable = runnable i; point = points i })
  starter h a (deed.Start e None value) may proper counted = absurd (false≢true counted)
  starter h a w may proper counted = absurd (false≢true counted)

  -- ---- one entry further

  started_same : (h : History) (x : Entry) → is_start_of counts x.deed ≡ false → started (x ∷ h) ≡ started h
  started_same h x other = λ i. if other i then suc (started h) else started h

  requests_same : (h : History) (x : Entry) → is_request_at q x.deed ≡ false → requests (x ∷ h) ≡ requests h
  requests_same h x old = by_deed x.actor x.deed old
    where
      by_deed : (a : Actor) (w : Deed) → is_request_at q w ≡ false → requests (record { actor = a; deed = w } ∷ h) ≡ requests h
      by_deed a (deed.Ask r value zero) old = λ i. if old i then requests h ++ (r, words_of value) ∷ [] else requests h
      by_deed a (deed.Ask r value (suc code)) old = refl
      by_deed a w old = refl

  asked_same : (h : History) (x : Entry) → is_of ck x ≡ false → asked_last ck (x ∷ h) ≡ asked_last ck h
  asked_same h x other = rw other refl

  ended_same : (h : History) (x : Entry) → is_of ck x ≡ false → (is_of d x && is_end x.deed) ≡ false → ended_since ck d (x ∷ h) ≡ ended_since ck d h
  ended_same h x other none = λ i. if other i then false else (none i || ended_since ck d h)

  asked_now : (h : History) (x : Entry) → is_of ck x ≡ true → asked_last ck (x ∷ h) ≡ accepted_point x.deed
  asked_now h x own = rw own refl

  ended_now : (h : History) (x : Entry) → is_of ck x ≡ true → ended_since ck d (x ∷ h) ≡ false
  ended_now h x own = rw own refl

  data State (h : History) : Type 0 where
    idle_one : started h ≡ length (requests h) → runs d h ≡ false → (IsOpen q h → ⊥) → State h
    asked_one : suc (started h) ≡ length (requests h) → runs d h ≡ false → asked_last ck h ≡ Some q → ended_since ck d h ≡ false → State h
    busy_one : started h ≡ length (requests h) → runs d h ≡ true → asked_last ck h ≡ Some q → ended_since ck d h ≡ false → (IsOpen q h → IsServedBy q d h) → State h

  -- after the ask the caller waits
  held_back : {X : Type 0} (h : History) (x : Entry) → MayFollow p h x → is_of ck x ≡ true → asked_last ck h ≡ Some q → ended_since ck d h ≡ false → X
  held_back h x may own asked ended =
      let held : is_held_back p h ck ≡ true = rw (asked, key) (ap not ended) in
      let program : follows_program p h (Act ck) x.deed ≡ true = subst (λ (y : Entry). follows_program p h y.actor x.deed ≡ true) (is_mine ck x own) may.actor in
      absurd (false≢true (sym (ap not held) ∙ (and_parts (starts_or_goes_on p h ck x.deed) (not (is_held_back p h ck)) program).1))

  other_of : (x : Entry) → is_of ck x ≡ true → is_of d x ≡ false
  other_of x own = ap (is_of d) (is_mine ck x own) ∙ apart_keys

  -- the caller's entry
  of_caller : (h : History) (x : Entry) → IsLegal p h → MayFollow p h x → is_proper p (note h x) ≡ true → is_of ck x ≡ true → State h → State (x ∷ h)
  of_caller h x legal may proper own (asked_one counted idle asked ended) = held_back h x may own asked ended
  of_caller h x legal may proper own (busy_one counted running asked ended serving_it) = held_back h x may own asked ended
  of_caller h x legal may proper own (idle_one counted idle none) = by_request (is_request_at q x.deed) refl
    where
      no_start : is_start_of counts x.deed ≡ false
      no_start = by_start (is_start_of counts x.deed) refl
        where
          by_start : (b : Bool) → is_start_of counts x.deed ≡ b → b ≡ false
          by_start false is = refl
          by_start true is = clash (is_of d x) (starter h x.actor x.deed may proper is) (other_of x own)

      still : runs d (x ∷ h) ≡ false
      still = runs_other d x h (other_of x own) ∙ idle

      asks : (a : Actor) (w : Deed) → is_of ck (record { actor = a; deed = w }) ≡ true → is_request_at q w ≡ true → started (record { actor = a; deed = w } ∷ h) ≡ started h → runs d (record { actor = a; deed = w } ∷ h) ≡ false → State (record { actor = a; deed = w } ∷ h)
      asks a (deed.Ask r value zero) own new same still =
          let number : q ≡ r = eqb-true q r new in
          asked_one
          (ap suc (same ∙ counted) ∙ sym (length_more (requests h) (r, words_of value)) ∙ (λ i. length (if sym new i then requests h ++ (r, words_of value) ∷ [] else requests h)))
          still
          (asked_now h (record { actor = a; deed = deed.Ask r value 0 }) own ∙ ap (λ n. Some n) (sym number))
          (ended_now h (record { actor = a; deed = deed.Ask r value 0 }) own)
      asks a w own new same still = absurd (false≢true new)

      by_request : (b : Bool) → is_request_at q x.deed ≡ b → State (x ∷ h)
      by_request true new = asks x.actor x.deed own new (started_same h x no_start) still
      by_request false old = idle_one (started_same h x no_start ∙ counted ∙ ap length (sym (requests_same h x old))) still (λ of. none (still_open q h x old of).open_before)

  -- an entry of the direct activation
  begin : (h : History) (e : ℕ) (point : Option ℕ) (value : Value) → MayFollow p h (mine d (deed.Start e point value)) → runnable_of_event p e ≡ Some d.runnable → State h → runs d h ≡ false → State (mine d (deed.Start e point value) ∷ h)
  begin h e point value may owned state idle = by_point point may (subst (λ x. start_fits p x point (words_of value) ≡ true) kind (and_parts _ (start_fits p (kind_of p e) point (words_of value)) may.fit).1)
    where
      kind : kind_of p e ≡ Invoked at.number
      kind = serves_invoked p m sound e at.number d.runnable owned home

      by_state : (r : ℕ) → MayFollow p h (mine d (deed.Start e (Some r) value)) → (q == r) ≡ true → started h < length (requests h) → State h → State (mine d (deed.Start e (Some r) value) ∷ h)
      by_state r may same due (idle_one counted idle none) = absurd (omega arith)
      by_state r may same due (busy_one counted running asked ended serving_it) = clash (runs d h) running idle
      by_state r may same due (asked_one counted idle asked ended) =
          let x : Entry = mine d (deed.Start e (Some r) value) in
          let running : runs d (mine d (deed.Start e (Some r) value) ∷ h) ≡ true = runs_mine d (deed.Start e (Some r) value) h in
          let number : q ≡ r = eqb-true q r same in
          busy_one ((λ i. if same i then suc (started h) else started h) ∙ counted) running
          (asked_same h (mine d (deed.Start e (Some r) value)) apart_too ∙ asked)
          (ended_same h (mine d (deed.Start e (Some r) value)) apart_too (rw (itself d) refl) ∙ ended)
          (λ of. record { running = running; serving = (λ i. if itself d i then same_number (Some (sym number i)) (Some q) else serves q d (noted h)) ∙ eq-eqb q q refl; unreturned = begun })
        where
          begun : is_open (serves_by (Act d)) (noted (mine d (deed.Start e (Some r) value) ∷ h)) ≡ true
          begun = rw (itself d) refl

      by_point : (o : Option ℕ) → MayFollow p h (mine d (deed.Start e o value)) → start_fits p (Invoked at.number) o (words_of value) ≡ true → State (mine d (deed.Start e o value) ∷ h)
      by_point None may fit = absurd (false≢true fit)
      by_point (Some r) may fit =
          let mine_is = (and_parts (is_key_point (Act d) r) _ may.answers.calls).0 in
          let same : (q == r) ≡ true = subst (λ (o : Option ℕ). is_key_point (Act (record { runnable = d.runnable; point = o })) r ≡ true) at.point mine_is in
          let due : has_unstarted counts (noted h) ≡ true = subst (λ o. has_unstarted (counts_for p at.number o) (noted h) ≡ true) at.point (subst (λ x. is_due_kind p (Act d) e x (noted h) ≡ true) kind may.answers.due) in
          by_state r may same (ltb-true (started h) (length (requests h)) due) state

  of_direct : (h : History) (x : Entry) → IsLegal p h → MayFollow p h x → is_of ck x ≡ false → is_request_at q x.deed ≡ false → is_of d x ≡ true → State h → State (x ∷ h)
  of_direct h x legal may other old own state = by_kind (is_to p d h x may (alive p d h legal))
    where
      goes : (is_over x.deed ≡ true → runs d (x ∷ h) ≡ false) → (is_over x.deed ≡ false → runs d (x ∷ h) ≡ true) → is_start_of counts x.deed ≡ false → runs d h ≡ true → State h → State (x ∷ h)
      goes over left unstarted running (idle_one counted idle none) = clash (runs d h) running idle
      goes over left unstarted running (asked_one counted idle asked ended) = clash (runs d h) running idle
      goes over left unstarted running (busy_one counted running_too asked ended serving_it) = by_over (is_over x.deed) refl
        where
          numbers : started (x ∷ h) ≡ length (requests (x ∷ h))
          numbers = started_same h x unstarted ∙ counted ∙ ap length (sym (requests_same h x old))

          served_still : IsOpen q (x ∷ h) → IsServedBy q d (x ∷ h)
          served_still of = let was = still_open q h x old of in served_more p m sound d at.number home q h x legal may old was.unreturned (serving_it was.open_before)

          by_over : (b : Bool) → is_over x.deed ≡ b → State (x ∷ h)
          by_over true is = idle_one numbers (over is) (λ of. let now = served_still of in clash (runs d (x ∷ h)) now.running (over is))
          by_over false is = busy_one numbers (left is) (asked_same h x other ∙ asked)
              (ended_same h x other ((λ i. own i && no_end x.deed is i)) ∙ ended) served_still

      not_begun : (w : Deed) → Rattle.history_laws.proofs.Keys.begins w ≡ false → is_start_of counts w ≡ false
      not_begun (deed.Start e point value) begun = absurd (false≢true (sym begun))
      not_begun w begun = refl

      by_kind : IsTo p d h x → State (x ∷ h)
      by_kind (others apart) = clash (is_of d x) own apart
      by_kind (starts event point value is mine_is idle owned asked) =
          subst (λ y. State (y ∷ h)) (sym is) (begin h event point value (subst (MayFollow p h) is may) owned state idle)
      by_kind (goes_on is mine_is begun running a next) = goes
          (λ over. ap (λ y. runs d (y ∷ h)) is ∙ runs_mine d x.deed h ∙ ap not over) (λ left. ap (λ y. runs d (y ∷ h)) is ∙ runs_mine d x.deed h ∙ ap not left)
          (not_begun x.deed begun) running state

  -- another's entry
  of_others : (h : History) (x : Entry) → IsLegal p h → MayFollow p h x → is_of ck x ≡ false → is_request_at q x.deed ≡ false → is_start_of counts x.deed ≡ false → is_of d x ≡ false → State h → State (x ∷ h)
  of_others h x legal may other old unstarted apart state = by_state state
    where
      numbers : (n : ℕ) → n ≡ length (requests h) → n ≡ length (requests (x ∷ h))
      numbers n counted = counted ∙ ap length (sym (requests_same h x old))

      ended_still : ended_since ck d (x ∷ h) ≡ ended_since ck d h
      ended_still = ended_same h x other (λ i. apart i && is_end x.deed)

      by_state : State h → State (x ∷ h)
      by_state (idle_one counted idle none) = idle_one (started_same h x unstarted ∙ numbers (started h) counted) (runs_other d x h apart ∙ idle) (λ of. none (still_open q h x old of).open_before)
      by_state (asked_one counted idle asked ended) =
          asked_one (ap suc (started_same h x unstarted) ∙ numbers (suc (started h)) counted) (runs_other d x h apart ∙ idle) (asked_same h x other ∙ asked) (ended_still ∙ ended)
      by_state (busy_one counted running asked ended serving_it) =
          busy_one (started_same h x unstarted ∙ numbers (started h) counted) (runs_other d x h apart ∙ running) (asked_same h x other ∙ asked) (ended_still ∙ ended)
          (λ of. let was = still_open q h x old of in served_more p m sound d at.number home q h x legal may old was.unreturned (serving_it was.open_before))

  state : (h : History) → IsLegal p h → State h
  state [] legal = idle_one refl refl (λ of. false≢true of.outstanding)
  state (x ∷ h) legal =
      let proper = (and_parts (is_proper p (note h x)) (list_all (is_proper p) (noted h)) (proper_legal p (x ∷ h) legal)).0 in
      by_caller proper (state h legal.0) (is_of ck x) refl
    where
      unasked : is_of ck x ≡ false → (b : Bool) → is_request_at q x.deed ≡ b → b ≡ false
      unasked other false is = refl
      unasked other true is = clash (is_of ck x) (asker h x.actor x.deed legal.0 legal.1 is) other

      unstarted : is_proper p (note h x) ≡ true → is_of d x ≡ false → (b : Bool) → is_start_of counts x.deed ≡ b → b ≡ false
      unstarted proper apart false is = refl
      unstarted proper apart true is = clash (is_of d x) (starter h x.actor x.deed legal.1 proper is) apart

      by_direct : is_proper p (note h x) ≡ true → State h → is_of ck x ≡ false → (b : Bool) → is_of d x ≡ b → State (x ∷ h)
      by_direct proper before other true own = of_direct h x legal.0 legal.1 other (unasked other (is_request_at q x.deed) refl) own before
      by_direct proper before other false apart = of_others h x legal.0 legal.1 other (unasked other (is_request_at q x.deed) refl) (unstarted proper apart (is_start_of counts x.deed) refl) apart before

      by_caller : is_proper p (note h x) ≡ true → State h → (b : Bool) → is_of ck x ≡ b → State (x ∷ h)
      by_caller proper before true own = of_caller h x legal.0 legal.1 proper own before
      by_caller proper before false other = by_direct proper before other (is_of d x) refl

  -- ---- what is said

  caller_asked : (h : History) → asked_last ck h ≡ Some q → caller_has_asked p h d ≡ true
  caller_asked h asked =
      let point = at.point in
      let calls = caller.1 in
      rw (point, calls) (ap (λ o. same_number o (Some q)) asked ∙ eq-eqb q q refl)

  unstarted_one : (h : History) → suc (started h) ≡ length (requests h) → has_unstarted counts (noted h) ≡ true
  unstarted_one h counted = less (started h) (length (requests h)) counted
    where
      less : (a b : ℕ) → suc a ≡ b → nat_lt a b ≡ true
      less a b e = grind (arith, nat_tests)

  pub begun_or_served : (h : History) → IsLegal p h → IsOpen q h → IsBegunOrServed p q d h
  begun_or_served h legal of = by_state (state h legal)
    where
      by_state : State h → IsBegunOrServed p q d h
      by_state (idle_one counted idle none) = absurd (none of)
      by_state (asked_one counted idle asked ended) = begins (unstarted_one h counted) (caller_asked h asked) idle
      by_state (busy_one counted running asked ended serving_it) = served (serving_it of)

  pub unstarted_asked : (h : History) → IsLegal p h → has_unstarted counts (noted h) ≡ true → caller_has_asked p h d ≡ true
  unstarted_asked h legal some = by_state (state h legal) (ltb-true (started h) (length (requests h)) some)
    where
      by_state : State h → started h < length (requests h) → caller_has_asked p h d ≡ true
      by_state (idle_one counted idle none) less = absurd (omega arith)
      by_state (asked_one counted idle asked ended) less = caller_asked h asked
      by_state (busy_one counted running asked ended serving_it) less = absurd (omega arith)

  -- while the direct activation runs, and before it starts with a request, its caller waits
  pub running_waits : (h : History) → IsLegal p h → runs d h ≡ true → CallerWaits p q d h
  running_waits h legal running = by_state (state h legal)
    where
      by_state : State h → CallerWaits p q d h
      by_state (idle_one counted idle none) = clash (runs d h) running idle
      by_state (asked_one counted idle asked ended) = clash (runs d h) running idle
      by_state (busy_one counted still asked ended serving_it) = record { caller = caller.0; calls = caller.1; asked = asked; waits = ended }

  pub unstarted_waits : (h : History) → IsLegal p h → has_unstarted counts (noted h) ≡ true → CallerWaits p q d h
  unstarted_waits h legal some = by_state (state h legal) (ltb-true (started h) (length (requests h)) some)
    where
      by_state : State h → started h < length (requests h) → CallerWaits p q d h
      by_state (idle_one counted idle none) less = absurd (omega arith)
      by_state (asked_one counted idle asked ended) less = record { caller = caller.0; calls = caller.1; asked = asked; waits = ended }
      by_state (busy_one counted running asked ended serving_it) less = absurd (omega arith)
