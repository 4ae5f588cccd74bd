-- A server of a sound plan misses no entry that may follow its past.
use Rattle.std.proofs.Common.{◌≡◌, ◌+◌, ℕ, Bool, true, false, ◌&&◌, ◌||◌, ◌==◌, not, if◌then◌else◌, refl, sym, ◌∙◌, ap, subst, arith, List, [], ◌∷◌, length, map, Option, Some, None, is_some}
use Rattle.std.specs.Prelude.{option_map, option_and_then, is_none}
use Rattle.bus_semantics.specs.Common.{list_any, slice_get, and_parts, eq-eqb, eqb-true, false≢true, not-true, nat_tests, same_Some, slice_get-get_or, ActKey, Value, words_of, same_words}
use Rattle.bus_semantics.specs.Common.{same_number, Plan, server_of, queue_of, kind_of, runnable_of_event, Past, served_by, key_fits, ask_code, answer_to, result_of, requests_of, starts_of}
use Rattle.bus_semantics.specs.Common.{has_unstarted, next_request, is_request, is_key_point, starts_request, is_due_kind, counts_for, is_open, serves_by, serves_any, start_matches, Follows}
use Rattle.bus_semantics.specs.Common.{IsSound}
use Rattle.bus_semantics.specs.declared.plan.EventKind.{EventKind}
use Rattle.bus_semantics.specs.declared.plan.EventKind.TheVariants.{Invoked, Returns}
use Rattle.bus_semantics.specs.declared.script.Mapping.{Mapping}
use Rattle.bus_semantics.specs.declared.entries.Actor.{Actor}
use Rattle.bus_semantics.specs.declared.entries.Actor.TheVariants.{Env, Machine, Act}
use Rattle.bus_semantics.specs.declared.entries.Deed.{Deed}
use Rattle.bus_semantics.specs.declared.entries.Deed.TheVariants as deed
use Rattle.bus_semantics.specs.Legal as legal
use Rattle.client_server.specs.Kept as calls
use Rattle.client_server.specs.Points.{is_started, outcome_in, value_asked}
use Rattle.object_kinds.specs.Common.{MissesNothing, given, place}
use Rattle.object_kinds.proofs.Classes.{On, StartsOn}
use Rattle.object_kinds.proofs.Events.{started_placed}
use Rattle.object_kinds.proofs.Numbers.{a_server}
use Rattle.object_kinds.proofs.Options.{given_where, then_where, mapped_where}
use Rattle.object_kinds.proofs.Placing.{Placed, place_at}
use Rattle.object_kinds.proofs.Proper.{noting, wish_part}
use Rattle.server_objects.specs.Kept.{Kept, awaited_at}
use Rattle.server_objects.specs.Layout.{server_in, runnable_in, is_joined_to, returns_for, awaited_by}
use Rattle.server_objects.specs.Leading.{asked_at, heard_at, is_outcome, is_result, taken_at, own_place, started_next, started_directly, started_server, started_return, lead_of_start}
use Rattle.server_objects.specs.Leading.{serving_of, returned_at, lead_of_server, with_served, lead}
use Rattle.server_objects.specs.Standing.{number_at, request_at, words_of_asked, unstarted_at, served_at, QueueStands, DirectStands, Keeps}
use Rattle.server_objects.proofs.Answering as answering
use Rattle.server_objects.proofs.Facts.{OwnPoint, home_of, queued_point, direct_point, key_is, key_part, own_event, start_part, invoked_names}
use Rattle.server_objects.proofs.Leading.{returner, queue_stands, direct_stands}
use Rattle.server_objects.proofs.Next.{point_placed, awaited_place, awaited_is}
use Rattle.server_objects.proofs.Requests.{left_first}
use Rattle.server_objects.proofs.Touching.{touches_server}

some_there : {X : Type 0} (o : Option X) → is_some o ≡ true → (x : X) × (o ≡ Some x)
some_there None e = absurd (false≢true e)
some_there (Some x) e = (x, refl)

module _ (p : Plan) (object : ℕ) (k : Kept) (l : Past) (keeps : Keeps p object k l) where
  abbrev s : ℕ
  s = server_in p object

  placed_in : (q : ℕ) → server_of p q ≡ Some s → Placed q k.points
  placed_in q joined = subst (Placed q) (sym keeps.points) (point_placed p q s (ap (λ o. same_number o (Some s)) joined ∙ eq-eqb s s refl))

  -- ---- Ask, Answer and result

  ask_comes : (q code : ℕ) (value : Value) → server_of p q ≡ Some s → (code == ask_code p q l) ≡ true → is_some (asked_at code value k.served (place q k.points)) ≡ true
  ask_comes q code value joined answer =
      let at = placed_in q joined in
      then_where (λ i. given (code == calls.answer_to_ask i k.served) (calls.after_ask i value k.served)) (place q k.points) at.at at.is
      (given_where (code == calls.answer_to_ask at.at k.served) (calls.after_ask at.at value k.served) (ap (λ c. code == c) (sym (answering.ask_same p object k l keeps at.at q (place_at q k.points at.at at.is))) ∙ answer))

  hear_comes : (q code : ℕ) (value : Value) → server_of p q ≡ Some s → legal.is_some_outcome code (words_of value) (answer_to q l) ≡ true → is_some (heard_at code value k.served (place q k.points)) ≡ true
  hear_comes q code value joined answer =
      let at = placed_in q joined in
      then_where (λ i. given (is_outcome code value (outcome_in (calls.point_at i k.served).stage)) (calls.after_answer i k.served)) (place q k.points) at.at at.is
      (given_where (is_outcome code value (outcome_in (calls.point_at at.at k.served).stage)) (calls.after_answer at.at k.served) (answering.hear_same p object k l keeps at.at q code value (place_at q k.points at.at at.is) ∙ answer))

  result_comes : (q code : ℕ) (value : Value) → server_of p q ≡ Some s → legal.is_outcome code (words_of value) (result_of p q l) ≡ true → is_some (taken_at code value k.served (place q k.points)) ≡ true
  result_comes q code value joined answer =
      let at = placed_in q joined in
      then_where (λ i. given (is_result code value (outcome_in (calls.point_at i k.served).stage)) (calls.after_answer i k.served)) (place q k.points) at.at at.is
      (given_where (is_result code value (outcome_in (calls.point_at at.at k.served).stage)) (calls.after_answer at.at k.served) (answering.result_same p object k l keeps at.at q code value (place_at q k.points at.at at.is) ∙ answer))

  -- ---- a start of the server

  -- the request that a start names: the point has asked, and these are its words
  pub record Request (q : ℕ) (value : Value) : Type 0 where
    pub place : ℕ
    pub given : Value
    pub there : slice_get k.points place ≡ Some q
    pub asked : value_asked (calls.point_at place k.served).stage ≡ Some given
    pub words : same_words (words_of value) (words_of given) ≡ true

  module _ (key : ActKey) (event : Option ℕ) (e : ℕ) (point : Option ℕ) (value : Value) (follows : Follows p object l (noting (Act key) (deed.Start e point value) event)) (kind : kind_of p e ≡ Invoked s) where
    this_event : e ≡ k.event
    this_event = keeps.is_server.one_event e kind ∙ sym keeps.event

    pub serves_it : served_by p (Act key) ≡ Some s
    serves_it =
        home_of p object keeps.is_server key
        (same_Some key.runnable (runnable_in p s) (sym (own_event p key e point value event follows.proper) ∙ ap (runnable_of_event p) (keeps.is_server.one_event e kind) ∙ keeps.is_server.started))

    key_fit : key_fits p key ≡ true
    key_fit = key_part p key (deed.Start e point value) event refl follows.proper

    due_by : has_unstarted (counts_for p s key.point) l ≡ true
    due_by = sym (ap (λ c. is_due_kind p (Act key) e c l) kind) ∙ follows.answers.due

    pub record NextRequest (q : ℕ) : Type 0 where
      pub request : Request q value
      pub more : List ℕ
      pub first : k.served.waiting ≡ request.place ∷ more
      pub idle : k.served.serving ≡ None

    -- of a queued server the one that waits longest
    pub next_request_is : (most q : ℕ) → k.served.queue ≡ Some most → server_of p q ≡ Some s → starts_request p (Act key) (Some q) (words_of value) l ≡ true → NextRequest q
    next_request_is most q queue joined calls_allow = by_waiting k.served.waiting refl
      where
        long : queue_of p s ≡ Some most
        long = sym keeps.queue ∙ queue

        stands : QueueStands p s k.points k.served l
        stands = queue_stands p object k l keeps most queue

        plain : key.point ≡ None
        plain = queued_point p object keeps.is_server key key_fit serves_it most long

        due : has_unstarted (is_joined_to p s) l ≡ true
        due = subst (λ o. has_unstarted (counts_for p s o) l ≡ true) plain due_by

        idle : k.served.serving ≡ None
        idle = none_there k.served.serving (sym stands.opened ∙ not-true (is_open (serves_any p) l) shut)
          where
            none_there : (o : Option ℕ) → is_some o ≡ false → o ≡ None
            none_there None e = refl
            none_there (Some i) e = absurd (false≢true (sym e))

            shut : not (is_open (serves_any p) l) ≡ true
            shut = subst (λ o. (not (is_some o) || not (is_open (serves_any p) l)) ≡ true) long (sym (ap (start_matches p l e) kind) ∙ follows.matching)

        by_waiting : (ws : List ℕ) → k.served.waiting ≡ ws → NextRequest q
        by_waiting [] none =
            let many : length (requests_of (is_joined_to p s) l) ≡ starts_of (is_joined_to p s) l + 0 =
            stands.requests.many ∙ ap (λ ws. starts_of (is_joined_to p s) l + length (map (request_at k.points k.served) ws)) none in
            let less = due in
            absurd (grind (arith, nat_tests))
        by_waiting (i ∷ more) first =
            let was = stands.asked.asked i (ap (list_any (λ j. i == j)) first ∙ (λ t. eq-eqb i i refl t || list_any (λ j. i == j) more)) in
            let of = some_there (value_asked (calls.point_at i k.served).stage) was.asked in
            let there : slice_get k.points i ≡ Some (number_at k.points i) = slice_get-get_or k.points i 0 (omega (arith, was.within, keeps.many)) in
            let next : next_request p q l ≡ Some (number_at k.points i, words_of of.0) =
            ap (λ c. slice_get (requests_of c l) (starts_of c l)) (answering.counts_queued p q s most joined long)
            ∙ left_first (starts_of (is_joined_to p s) l) (requests_of (is_joined_to p s) l) (request_at k.points k.served i) (map (request_at k.points k.served) more) (stands.requests.rest ∙ ap (map (request_at k.points k.served)) first)
            ∙ ap (λ o. Some (number_at k.points i, words_of_asked o)) of.1 in
            let is : is_request q (words_of value) (Some (number_at k.points i, words_of of.0)) ≡ true =
            ap (is_request q (words_of value)) (sym next) ∙ (and_parts (is_key_point (Act key) q) (is_request q (words_of value) (next_request p q l)) calls_allow).1 in
            let parts = and_parts (number_at k.points i == q) (same_words (words_of of.0) (words_of value)) is in
            record {
              request = record {
                place = i;
                given = of.0;
                there = there ∙ ap (λ n. Some n) (eqb-true (number_at k.points i) q parts.0);
                asked = of.1;
                words = answering.other_words of.0 value parts.1;
              };
              more = more;
              first = first;
              idle = idle;
            }

    pub record OwnRequest (q : ℕ) : Type 0 where
      pub request : Request q value
      pub own : key.point ≡ Some q
      pub at : place q k.points ≡ Some request.place

    -- of a direct server the one of the activation's point
    pub own_request_is : (q : ℕ) → k.served.queue ≡ None → server_of p q ≡ Some s → starts_request p (Act key) (Some q) (words_of value) l ≡ true → OwnRequest q
    own_request_is q queue joined calls_allow = by_asked (value_asked (calls.point_at at.at k.served).stage) refl
      where
        none : queue_of p s ≡ None
        none = sym keeps.queue ∙ queue

        own : OwnPoint p s key
        own = direct_point p object keeps.is_server key key_fit serves_it none

        parts : (is_key_point (Act key) q ≡ true) × (is_request q (words_of value) (next_request p q l) ≡ true)
        parts = and_parts (is_key_point (Act key) q) (is_request q (words_of value) (next_request p q l)) calls_allow

        same : own.point ≡ q
        same = eqb-true own.point q (subst (λ o. is_key_point (Act (record { runnable = key.runnable; point = o })) q ≡ true) own.own parts.0)

        mine : key.point ≡ Some q
        mine = own.own ∙ ap (λ n. Some n) same

        at : Placed q k.points
        at = placed_in q joined

        there : slice_get k.points at.at ≡ Some q
        there = place_at q k.points at.at at.is

        stands : DirectStands p s q (calls.point_at at.at k.served) l
        stands = direct_stands p object k l keeps queue at.at q there

        due : has_unstarted (λ r. q == r) l ≡ true
        due = subst (λ o. has_unstarted (counts_for p s o) l ≡ true) mine due_by

        by_asked : (o : Option Value) → value_asked (calls.point_at at.at k.served).stage ≡ o → OwnRequest q
        by_asked None is =
            let many : length (requests_of (λ r. q == r) l) ≡ starts_of (λ r. q == r) l + 0 = stands.many ∙ ap (λ o. starts_of (λ r. q == r) l + length (unstarted_at q o)) is in
            let less = due in
            absurd (grind (arith, nat_tests))
        by_asked (Some v) is =
            let next : next_request p q l ≡ Some (q, words_of v) =
            ap (λ c. slice_get (requests_of c l) (starts_of c l)) (answering.counts_direct p q s joined none)
            ∙ left_first (starts_of (λ r. q == r) l) (requests_of (λ r. q == r) l) (q, words_of v) [] (stands.rest ∙ ap (unstarted_at q) is) in
            let asks : is_request q (words_of value) (Some (q, words_of v)) ≡ true = ap (is_request q (words_of value)) (sym next) ∙ parts.1 in
            record {
              request = record { place = at.at; given = v; there = there; asked = is; words = answering.other_words v value (and_parts (q == q) (same_words (words_of v) (words_of value)) asks).1 };
              own = mine;
              at = at.is;
            }

    -- the request of a start, by the kind of the server
    pub record Names : Type 0 where
      pub number : ℕ
      pub names : point ≡ Some number
      pub request : Request number value

    pub named_request : Names
    named_request =
        let named = invoked_names p (kind_of p e) s point (words_of value) kind (start_part p (Act key) e point value event follows.proper) in
        let calls_allow : starts_request p (Act key) (Some named.number) (words_of value) l ≡ true = subst (λ o. starts_request p (Act key) o (words_of value) l ≡ true) named.names follows.answers.calls in
        record { number = named.number; names = named.names; request = by_queue k.served.queue refl named.number named.joined calls_allow }
      where
        by_queue : (o : Option ℕ) → k.served.queue ≡ o → (q : ℕ) → server_of p q ≡ Some s → starts_request p (Act key) (Some q) (words_of value) l ≡ true → Request q value
        by_queue None is q joined allow = (own_request_is q is joined allow).request
        by_queue (Some most) is q joined allow = (next_request_is most q is joined allow).request

    server_comes : (o : Option ℕ) → k.served.queue ≡ o → is_some (started_server o k key.point point value) ≡ true
    server_comes o queue =
        let named = invoked_names p (kind_of p e) s point (words_of value) kind (start_part p (Act key) e point value event follows.proper) in
        let calls_allow : starts_request p (Act key) (Some named.number) (words_of value) l ≡ true = subst (λ z. starts_request p (Act key) z (words_of value) l ≡ true) named.names follows.answers.calls in
        subst (λ z. is_some (started_server o k key.point z value) ≡ true) (sym named.names) (by_queue o queue named.number named.joined calls_allow)
      where
        by_queue : (o : Option ℕ) → k.served.queue ≡ o → (q : ℕ) → server_of p q ≡ Some s → starts_request p (Act key) (Some q) (words_of value) l ≡ true → is_some (started_server o k key.point (Some q) value) ≡ true
        by_queue (Some most) queue q joined allow =
            let next = next_request_is most q queue joined allow in
            let of = next.request in
            let plain = queued_point p object keeps.is_server key key_fit serves_it most (sym keeps.queue ∙ queue) in
            let starts : calls.starting k.served ≡ Some (record { point = of.place; value = of.given }) = starts_with of.place next.more of.given next.first next.idle of.asked in
            subst (λ z. is_some (if is_none z then started_next k.points (Some q) value k.served else None) ≡ true) (sym plain)
            (then_where _ (calls.starting k.served) (record { point = of.place; value = of.given }) starts
            (given_where (same_number (Some q) (slice_get k.points of.place) && same_words (words_of value) (words_of of.given)) (calls.after_start k.served)
            ((λ t. same_number (Some q) (of.there t) && of.words t) ∙ (λ t. eq-eqb q q refl t && true))))
          where
            starts_with : (i : ℕ) (more : List ℕ) (v : Value) → k.served.waiting ≡ i ∷ more → k.served.serving ≡ None → value_asked (calls.point_at i k.served).stage ≡ Some v → calls.starting k.served ≡ Some (record { point = i; value = v })
            starts_with i more v first idle asked =
                let next : calls.next_point k.served ≡ Some i = rw (idle, first) refl in
                rw next (ap (option_map (λ w. record { point = i; value = w })) asked)
        by_queue None queue q joined allow =
            let mine = own_request_is q queue joined allow in
            let of = mine.request in
            subst (λ z. is_some (started_directly z (Some q) value k.served (own_place k z)) ≡ true) (sym mine.own)
            (then_where _ (place q k.points) of.place mine.at
            (then_where (λ w. given (same_number (Some q) (Some q) && same_words (words_of value) (words_of w)) (calls.after_direct_start of.place k.served)) (value_asked (calls.point_at of.place k.served).stage) of.given of.asked
            (given_where (same_number (Some q) (Some q) && same_words (words_of value) (words_of of.given)) (calls.after_direct_start of.place k.served) (λ t. eq-eqb q q refl t && of.words t))))

    invoked_comes : is_some (lead_of_start k key.point e point value) ≡ true
    invoked_comes = subst (λ b. is_some (if b then started_server k.served.queue k key.point point value else started_return k.served (awaited_at k e)) ≡ true) (sym (eq-eqb e k.event this_event)) (server_comes k.served.queue refl)

  -- ---- a start by a return event

  returns_come : (key : ActKey) (event : Option ℕ) (e q : ℕ) (point : Option ℕ) (value : Value) → Follows p object l (noting (Act key) (deed.Start e point value) event) → kind_of p e ≡ Returns q → server_of p q ≡ Some s
      → is_some (lead_of_start k key.point e point value) ≡ true
  returns_come key event e q point value follows kind joined =
      let is_joined : is_joined_to p s q ≡ true = ap (λ o. same_number o (Some s)) joined ∙ eq-eqb s s refl in
      let there = started_placed p (returns_for p s) (Act key) e (wish_part p (Act key) (deed.Start e point value) event refl follows.proper) (ap (returns_for p s) kind ∙ is_joined) in
      let here : place e k.returns ≡ Some there.at = ap (place e) keeps.returns ∙ there.is in
      let i = awaited_by p s e in
      let at : awaited_at k e ≡ Some i = ap (option_and_then (λ j. slice_get k.awaited j)) here ∙ awaited_is p s k keeps.points keeps.returns keeps.awaited e there.at here in
      let stood = keeps.each i q (place_at q k.points i (awaited_place p s k keeps.points keeps.returns keeps.awaited e q kind is_joined)) in
      let due : (calls.point_at i k.served).due ≡ true = sym stood.due ∙ sym (ap (λ c. is_due_kind p (Act key) e c l) kind) ∙ follows.answers.due in
      subst (λ b. is_some (if b then started_server k.served.queue k key.point point value else started_return k.served (awaited_at k e)) ≡ true) (sym (other (e == k.event) refl))
      (then_where (λ j. given (calls.point_at j k.served).due (calls.after_return_start j k.served)) (awaited_at k e) i at (given_where (calls.point_at i k.served).due (calls.after_return_start i k.served) due))
    where
      other : (b : Bool) → (e == k.event) ≡ b → b ≡ false
      other false is = refl
      other true is =
          let both : Returns q ≡ Invoked s = sym kind ∙ ap (kind_of p) (eqb-true e k.event is ∙ keeps.event) ∙ keeps.is_server.invoked in
          absurd (cc both)

  start_comes : (key : ActKey) (event : Option ℕ) (e : ℕ) (point : Option ℕ) (value : Value) → Follows p object l (noting (Act key) (deed.Start e point value) event) → StartsOn p (a_server s) (kind_of p e) → is_some (lead_of_start k key.point e point value) ≡ true
  start_comes key event e point value follows on = by_kind (kind_of p e) refl on
    where
      by_kind : (c : EventKind) → kind_of p e ≡ c → StartsOn p (a_server s) c → is_some (lead_of_start k key.point e point value) ≡ true
      by_kind (Invoked t) is on = invoked_comes key event e point value follows (is ∙ ap Invoked (same_Some t s on))
      by_kind (Returns q) is on = returns_come key event e q point value follows is on
      by_kind c is on = absurd on

  -- ---- a Return

  return_comes : (key : ActKey) (event : Option ℕ) (code : ℕ) (value : Value) → Follows p object l (noting (Act key) (deed.Return code value) event) → served_by p (Act key) ≡ Some s
      → is_some (returned_at code value k.served (serving_of k (Act key))) ≡ true
  return_comes key event code value follows home = by_queue k.served.queue refl
    where
      key_fit : key_fits p key ≡ true
      key_fit = key_part p key (deed.Return code value) event refl follows.proper

      comes : (i : ℕ) → serving_of k (Act key) ≡ Some i → is_started (calls.point_at i k.served).stage ≡ true → is_some (returned_at code value k.served (serving_of k (Act key))) ≡ true
      comes i at started = then_where (λ j. given (is_started (calls.point_at j k.served).stage) (calls.after_reply j (record { code = code; value = value }) k.served)) (serving_of k (Act key)) i at
          (given_where (is_started (calls.point_at i k.served).stage) (calls.after_reply i (record { code = code; value = value }) k.served) started)

      by_queue : (o : Option ℕ) → k.served.queue ≡ o → is_some (returned_at code value k.served (serving_of k (Act key))) ≡ true
      by_queue (Some most) queue =
          let stands = queue_stands p object k l keeps most queue in
          let own = key_is p object keeps.is_server key None home (queued_point p object keeps.is_server key key_fit home most (sym keeps.queue ∙ queue)) in
          let opened : is_some (option_map (number_at k.points) k.served.serving) ≡ true = sym stands.requests.opened ∙ ap (λ z. is_open (serves_by (Act z)) l) (sym own) ∙ follows.matching in
          by_serving stands k.served.serving refl opened
        where
          by_serving : QueueStands p s k.points k.served l → (o : Option ℕ) → k.served.serving ≡ o → is_some (option_map (number_at k.points) o) ≡ true → is_some (returned_at code value k.served (serving_of k (Act key))) ≡ true
          by_serving stands None is opened = absurd (false≢true opened)
          by_serving stands (Some i) is opened = comes i (serving_next ∙ is) (stands.started i ∙ ap (λ o. same_number o (Some i)) is ∙ eq-eqb i i refl)
            where
              serving_next : serving_of k (Act key) ≡ k.served.serving
              serving_next = rw queue refl
      by_queue None queue =
          let own = direct_point p object keeps.is_server key key_fit home (sym keeps.queue ∙ queue) in
          let q = own.point in
          let at = placed_in q own.joined in
          let there = place_at q k.points at.at at.is in
          let stands = direct_stands p object k l keeps queue at.at q there in
          let is_key = key_is p object keeps.is_server key (Some q) home own.own in
          let opened : is_some (served_at q (is_started (calls.point_at at.at k.served).stage)) ≡ true = sym stands.opened ∙ ap (λ z. is_open (serves_by (Act z)) l) (sym is_key) ∙ follows.matching in
          comes at.at (serving_own ∙ ap (own_place k) own.own ∙ at.is) (by_started q (is_started (calls.point_at at.at k.served).stage) opened)
        where
          serving_own : serving_of k (Act key) ≡ own_place k key.point
          serving_own = rw queue refl

          by_started : (q : ℕ) (b : Bool) → is_some (served_at q b) ≡ true → b ≡ true
          by_started q true e = refl
          by_started q false e = absurd (false≢true e)

  -- ---- the whole

  pub comes : (a : Actor) (event : Option ℕ) (d : Deed) → On p (a_server s) a event d → Follows p object l (noting a d event) → is_some (lead_of_server k d a) ≡ true
  comes a event (deed.Ask q value code) on follows = ask_comes q code value on follows.answers.calls
  comes a event (deed.Answer q code value) on follows = hear_comes q code value on follows.answers.calls
  comes a event (deed.TakeResult q code value) on follows = result_comes q code value on follows.answers.calls
  comes (Act key) event (deed.Start e point value) on follows = start_comes key event e point value follows on
  comes Env event (deed.Start e point value) on follows = absurd (false≢true (wish_part p Env (deed.Start e point value) event refl follows.proper))
  comes (Machine n) event (deed.Start e point value) on follows = absurd (false≢true (and_parts _ false (wish_part p (Machine n) (deed.Start e point value) event refl follows.proper)).1)
  comes a event (deed.Return code value) on follows =
      let by = returner p a event code value follows.proper in
      subst (λ b. is_some (returned_at code value k.served (serving_of k b)) ≡ true) (sym by.is)
      (return_comes by.key event code value (subst (λ b. Follows p object l (noting b (deed.Return code value) event)) by.is follows) (subst (λ b. served_by p b ≡ Some s) by.is on))
  comes a event d on follows = absurd on

pub misses_nothing : (p : Plan) (m : Mapping) (object : ℕ) → IsSound p m → MissesNothing p object (Keeps p object) lead
misses_nothing p m object sound k l n stands follows =
    mapped_where (with_served k) (lead_of_server k n.entry.deed n.entry.actor)
    (comes p object k l stands.kept n.entry.actor n.event n.entry.deed (touches_server p m object n.entry.actor n.event n.entry.deed sound stands.kept.is_server follows.touching follows.proper) follows)
