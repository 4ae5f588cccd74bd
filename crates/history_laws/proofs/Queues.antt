-- An open request of a queued server has not started, or is served.
use Rattle.std.proofs.Common.{◌≡◌, ℕ, zero, suc, ◌≤◌, ◌<◌, ℤ, Bool, true, false, ◌&&◌, not, ◌==◌, if◌then◌else◌, refl, sym, ◌∙◌, ap, subst, arith, List, [], ◌∷◌, ◌++◌, length, Some, None}
use Rattle.bus_semantics.specs.Common.{and_parts, eq-eqb, eqb-true, ltb-true, false≢true, nat_tests, same_Some, slice_get, list_all, ActKey, Value, words_of, same_words, same_number}
use Rattle.bus_semantics.specs.Common.{same_key, Plan, server_of, queue_of, kind_of, History, noted, note, served_by, serves_directly, key_fits, is_request_at, returned_by, counts_with}
use Rattle.bus_semantics.specs.Common.{requests_of, starts_of, serves, is_key_point, is_request, next_request, has_unstarted, counts_for, is_due_kind, is_open, serves_by, plain_key}
use Rattle.bus_semantics.specs.Common.{is_proper, MayFollow, IsLegal, IsSound}
use Rattle.std.specs.Prelude.{nat_lt}
use Rattle.bus_laws.specs.Common.{ServerPlan, Invoked, Mapping, Actor, Env, Machine, Act, Deed, Entry}
use Rattle.bus_semantics.specs.declared.entries.Deed.TheVariants as deed
use Rattle.history_laws.specs.LookUps.{looked}
use Rattle.bus_laws.proofs.Thinning.{option_same, there_is}
use Rattle.bus_laws.proofs.Local.{proper_legal}
use Rattle.bus_laws.proofs.OneEvent.{invoked_serves}
use Rattle.bus_laws.proofs.LocalServers.{start_named, start_owned}
use Rattle.bus_laws.proofs.QueueLaws.{at_length}
use Rattle.history_laws.specs.Serving.{IsOpen, IsServedBy, IsQueuedOrServed, queued, served}
use Rattle.history_laws.proofs.Keys.{mine, itself, key_is, runs_mine}
use Rattle.history_laws.proofs.OneKey.{key_part, no_starter, server_runs, server_home, queued_plain, one_key}
use Rattle.history_laws.proofs.OpenCalls.{still_open, served_more, requests_kept, requests_grow}

less_true : (a b : ℕ) → a < b → nat_lt a b ≡ true
less_true a b less = grind (arith, nat_tests)

inside : {X : Type 0} (xs : List X) (i : ℕ) (x : X) → slice_get xs i ≡ Some x → i < length xs
inside [] i x e = absurd (cc e)
inside (y ∷ xs) zero x e = omega arith
inside (y ∷ xs) (suc i) x e = let less = inside xs i x e in omega arith

module _ (p : Plan) (m : Mapping) (sound : IsSound p m) (s most : ℕ) (v : ServerPlan) (there : slice_get p.servers s ≡ Some v) (queue : v.queue ≡ Some most) where
  abbrev k : ActKey
  k = plain_key v.runnable

  abbrev counts : ℕ → Bool
  counts r = same_number (server_of p r) (Some s)

  abbrev started : History → ℕ
  started h = starts_of counts (noted h)

  abbrev requests : History → List (ℕ × List ℤ)
  requests h = requests_of counts (noted h)

  queue_is : queue_of p s ≡ Some most
  queue_is = looked p.servers s v (λ (w : ServerPlan). w.queue) None there ∙ queue

  home : served_by p (Act k) ≡ Some s
  home = server_home p m sound s v there k refl

  fit : key_fits p k ≡ true
  fit =
      let less : nat_lt v.runnable (length p.runnables) ≡ true = less_true v.runnable (length p.runnables) (server_runs p m sound s v there).within in
      let is = home in
      let long = queue_is in
      let free : not (serves_directly p k) ≡ true = rw (is, long) refl in
      λ i. less i && free i

  -- a start that counts is the key's, and takes the next request
  record Takes (h : History) (x : Entry) (r : ℕ) : Type 0 where
    own : same_key k (plain_key v.runnable) ≡ true
    is : (d : Deed) → x.deed ≡ d → x ≡ mine k d
    request : ℕ × List ℤ
    next : slice_get (requests h) (started h) ≡ Some request
    point : request.0 ≡ r

  takes : (h : History) (a : Actor) (e r : ℕ) (value : Value) → MayFollow p h (record { actor = a; deed = deed.Start e (Some r) value }) → is_proper p (note h (record { actor = a; deed = deed.Start e (Some r) value })) ≡ true → counts r ≡ true
      → Takes h (record { actor = a; deed = deed.Start e (Some r) value }) r
  takes h Env e r value may proper counted = absurd (false≢true may.fit)
  takes h (Machine n) e r value may proper counted = no_starter p n e (Some r) value None proper
  takes h (Act j) e r value may proper counted =
      let joined : server_of p r ≡ Some s = option_same (server_of p r) (Some s) counted in
      let of = start_named p (Act j) e r value None proper in
      let number : of.server ≡ s = same_Some of.server s (sym of.joined ∙ joined) in
      let kind : kind_of p e ≡ Invoked s = of.kind ∙ ap Invoked number in
      let serves_it : served_by p (Act j) ≡ Some s = invoked_serves p m sound e s j.runnable kind (start_owned p j e (Some r) value None proper) in
      let key = key_part p j (deed.Start e (Some r) value) None proper in
      let same : j ≡ k = key_is k j (one_key p m sound s most queue_is j k key fit serves_it home) in
      let plain = queued_plain p m sound s most queue_is j key serves_it in
      let due : has_unstarted counts (noted h) ≡ true = subst (λ o. has_unstarted (counts_for p s o) (noted h) ≡ true) plain (subst (λ x. is_due_kind p (Act j) e x (noted h) ≡ true) kind may.answers.due) in
      let next = there_is (requests h) (started h) (ltb-true (started h) (length (requests h)) due) in
      let long = queue_is in
      let with : (i : ℕ) → counts_with p r i ≡ counts i = λ i. rw (joined, long) refl in
      let request : is_request r (words_of value) (next_request p r (noted h)) ≡ true = (and_parts (is_key_point (Act j) r) _ may.answers.calls).1 in
      let same_next : next_request p r (noted h) ≡ Some next.0 = (λ t. slice_get (requests_of (λ i. with i t) (noted h)) (starts_of (λ i. with i t) (noted h))) ∙ next.1 in
      let both : is_request r (words_of value) (Some next.0) ≡ true = subst (λ o. is_request r (words_of value) o ≡ true) same_next request in
      record { own = itself k; is = λ d at. λ t. record { actor = Act (same t); deed = at t }; request = next.0; next = next.1; point = eqb-true next.0.0 r (and_parts (next.0.0 == r) (same_words next.0.1 (words_of value)) both).0 }

  -- ---- never more starts than requests

  bounded : (h : History) → IsLegal p h → started h ≤ length (requests h)
  bounded [] legal = omega arith
  bounded (x ∷ h) legal =
      let proper = (and_parts (is_proper p (note h x)) (list_all (is_proper p) (noted h)) (proper_legal p (x ∷ h) legal)).0 in
      by_entry x.actor x.deed legal.1 proper (bounded h legal.0)
    where
      by_entry : (a : Actor) (d : Deed) → MayFollow p h (record { actor = a; deed = d }) → is_proper p (note h (record { actor = a; deed = d })) ≡ true → started h ≤ length (requests h)
          → started (record { actor = a; deed = d } ∷ h) ≤ length (requests (record { actor = a; deed = d } ∷ h))
      by_entry a (deed.Start e (Some r) value) may proper before = by_count (counts r) refl
        where
          by_count : (b : Bool) → counts r ≡ b → (if counts r then suc (started h) else started h) ≤ length (requests h)
          by_count false other = subst (λ c. (if c then suc (started h) else started h) ≤ length (requests h)) (sym other) before
          by_count true same =
              let of = takes h a e r value may proper same in
              subst (λ c. (if c then suc (started h) else started h) ≤ length (requests h)) (sym same) (inside (requests h) (started h) of.request of.next)
      by_entry a (deed.Start e None value) may proper before = before
      by_entry a d may proper before = let more = requests_grow counts (note h (record { actor = a; deed = d })) (noted h) in omega arith

  -- ---- one point

  module _ (q : ℕ) (joined : server_of p q ≡ Some s) where
    -- a request of the point has not started
    record Pending (h : History) : Type 0 where
      place : ℕ
      late : started h ≤ place
      request : ℕ × List ℤ
      at : slice_get (requests h) place ≡ Some request
      point : request.0 ≡ q

    data Stands (h : History) : Type 0 where
      waits : Pending h → Stands h
      runs_with : IsServedBy q k h → Stands h

    counted : counts q ≡ true
    counted = ap (λ o. same_number o (Some s)) joined ∙ eq-eqb s s refl

    pending_more : (h : History) (a : Actor) (d : Deed) → MayFollow p h (record { actor = a; deed = d }) → is_proper p (note h (record { actor = a; deed = d })) ≡ true → Pending h → Stands (record { actor = a; deed = d } ∷ h)
    pending_more h a (deed.Start e (Some r) value) may proper w = by_count (counts r) refl
      where
        x : Entry
        x = record { actor = a; deed = deed.Start e (Some r) value }

        by_count : (b : Bool) → counts r ≡ b → Stands (record { actor = a; deed = deed.Start e (Some r) value } ∷ h)
        by_count false other = waits (record { place = w.place; late = subst (λ c. (if c then suc (started h) else started h) ≤ w.place) (sym other) w.late; request = w.request; at = w.at; point = w.point })
        by_count true same = by_place (takes h a e r value may proper same) (started h == w.place) refl
          where
            by_place : Takes h (record { actor = a; deed = deed.Start e (Some r) value }) r → (b : Bool) → (started h == w.place) ≡ b → Stands (record { actor = a; deed = deed.Start e (Some r) value } ∷ h)
            by_place of true here =
                let first : w.request ≡ of.request = same_Some w.request of.request (sym w.at ∙ ap (slice_get (requests h)) (sym (eqb-true (started h) w.place here)) ∙ of.next) in
                let point : r ≡ q = sym of.point ∙ ap (λ (y : ℕ × List ℤ). y.0) (sym first) ∙ w.point in
                subst (λ y. Stands (y ∷ h)) (sym (of.is (deed.Start e (Some r) value) refl)) (runs_with (record {
                  running = runs_mine k (deed.Start e (Some r) value) h;
                  serving = (λ i. if itself k i then same_number (Some (point i)) (Some q) else serves q k (noted h)) ∙ eq-eqb q q refl;
                  unreturned = begun;
                }))
              where
                begun : is_open (serves_by (Act k)) (noted (mine k (deed.Start e (Some r) value) ∷ h)) ≡ true
                begun = rw (itself k) refl
            by_place of false apart = waits (record { place = w.place; late = subst (λ c. (if c then suc (started h) else started h) ≤ w.place) (sym same) (later (started h) w.place w.late apart); request = w.request; at = w.at; point = w.point })
              where
                later : (a b : ℕ) → a ≤ b → (a == b) ≡ false → suc a ≤ b
                later a b le other = grind (arith, nat_tests)
    pending_more h a (deed.Start e None value) may proper w = waits (record { place = w.place; late = w.late; request = w.request; at = w.at; point = w.point })
    pending_more h a d may proper w = waits (record { place = w.place; late = w.late; request = w.request; at = requests_kept counts (note h (record { actor = a; deed = d })) (noted h) w.place w.request w.at; point = w.point })

    -- the request that was just made
    asked_now : (h : History) (a : Actor) (d : Deed) → IsLegal p h → is_request_at q d ≡ true → Stands (record { actor = a; deed = d } ∷ h)
    asked_now h a (deed.Ask r value zero) legal new =
        let same : q ≡ r = eqb-true q r new in
        let counts_it : counts r ≡ true = subst (λ z. counts z ≡ true) same counted in
        waits (record {
          place = length (requests h);
          late = bounded h legal;
          request = (r, words_of value);
          at = (λ i. slice_get (if counts_it i then requests h ++ (r, words_of value) ∷ [] else requests h) (length (requests h))) ∙ at_length (requests h) (r, words_of value);
          point = sym same;
        })
    asked_now h a d legal new = absurd (false≢true new)

    stands : (h : History) → IsLegal p h → IsOpen q h → Stands h
    stands [] legal of = absurd (false≢true of.outstanding)
    stands (x ∷ h) legal of = by_request (is_request_at q x.deed) refl (stands h legal.0)
      where
        by_request : (b : Bool) → is_request_at q x.deed ≡ b → (IsOpen q h → Stands h) → Stands (x ∷ h)
        by_request true new before = asked_now h x.actor x.deed legal.0 new
        by_request false old before =
            let was = still_open q h x old of in
            let proper = (and_parts (is_proper p (note h x)) (list_all (is_proper p) (noted h)) (proper_legal p (x ∷ h) legal)).0 in
            by_state proper was.unreturned (before was.open_before)
          where
            by_state : is_proper p (note h x) ≡ true → returned_by q x.actor x.deed (noted h) ≡ None → Stands h → Stands (x ∷ h)
            by_state proper none (waits w) = pending_more h x.actor x.deed legal.1 proper w
            by_state proper none (runs_with w) = runs_with (served_more p m sound k s home q h x legal.0 legal.1 old none w)

    pub waited_for : (h : History) → IsLegal p h → IsOpen q h → IsQueuedOrServed p s q k h
    waited_for h legal of = by_state (stands h legal of)
      where
        by_state : Stands h → IsQueuedOrServed p s q k h
        by_state (waits w) = queued (less_true (started h) (length (requests h)) (below (inside (requests h) w.place w.request w.at) w.late))
          where
            below : {a b c : ℕ} → b < c → a ≤ b → a < c
            below x y = omega arith
        by_state (runs_with w) = served w
