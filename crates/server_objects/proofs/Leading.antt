-- The law of leads: an entry by which a server leads on follows its past, and what is kept then is what the definitions give.
use Rattle.std.proofs.Common.{◌≡◌, ◌<◌, ℕ, Bool, true, false, ◌&&◌, ◌||◌, ◌==◌, not, if◌then◌else◌, refl, sym, ◌∙◌, ap, subst, arith, [], ◌∷◌, length, map, set, Option, Some, None, is_some}
use Rattle.std.specs.Prelude.{option_map, option_and_then, nat_lt}
use Rattle.bus_semantics.specs.Common.{slice_get, and_parts, eq-eqb, eqb-true, false≢true, same_Some, slice_get-get_or, ActKey, Value, words_of, same_words, same_number, Plan, queue_of}
use Rattle.bus_semantics.specs.Common.{kind_of, runnable_of_event, Noted, Past, served_by, touches, key_fits, is_key_point, starts_request, serves, is_due, is_due_kind, is_proper}
use Rattle.bus_semantics.specs.Common.{start_matches, is_open, serves_by, serves_any, Follows}
use Rattle.bus_semantics.specs.declared.plan.EventKind.TheVariants.{Invoked, Returns}
use Rattle.bus_semantics.specs.declared.entries.Actor.{Actor}
use Rattle.bus_semantics.specs.declared.entries.Actor.TheVariants.{Env, Machine, Act}
use Rattle.bus_semantics.specs.declared.entries.Deed.{Deed}
use Rattle.bus_semantics.specs.declared.entries.Deed.TheVariants as deed
use Rattle.client_server.specs.declared.point.Outcome.{Outcome}
use Rattle.client_server.specs.declared.point.Request.{Request}
use Rattle.client_server.specs.declared.point.Stage.TheVariants.{Returned, Started}
use Rattle.client_server.specs.Kept as calls
use Rattle.client_server.specs.Points.{is_started, outcome_in, value_asked}
use Rattle.object_kinds.specs.Common.{LeadsFollow, LeadsKeep, given, place}
use Rattle.object_kinds.proofs.Options.{given_some, then_some, mapped_some}
use Rattle.object_kinds.proofs.Placing.{place_at}
use Rattle.object_kinds.proofs.Proper.{noting, wish_part, admitted}
use Rattle.server_objects.specs.Kept.{Kept, awaited_at}
use Rattle.server_objects.specs.Layout.{server_in, event_in, runnable_in, is_joined_to}
use Rattle.server_objects.specs.Leading.{asked_at, heard_at, is_outcome, is_result, taken_at, own_place, started_server, started_return, lead_of_start, serving_of, returned_at}
use Rattle.server_objects.specs.Leading.{lead_of_server, with_served, lead}
use Rattle.server_objects.specs.Standing.{number_at, words_of_asked, request_at, RequestsStand, QueueStands, DirectStands, CallsStand, Keeps}
use Rattle.server_objects.proofs.Answering as answering
use Rattle.server_objects.proofs.Directly.{asked_stands, started_stands}
use Rattle.server_objects.proofs.Facts.{server_is, home_of, queued_point, direct_point, key_is, key_part, own_event, start_part, invoked_names, returns_unnamed, number_there, same_option}
use Rattle.server_objects.proofs.Keeping as keeping
use Rattle.server_objects.proofs.Next.{next_start, answer_taken, answer_left, awaited}
use Rattle.server_objects.proofs.Queued.{started_within}

-- a return is by an activation, with a code below 64
pub record Returner (a : Actor) (code : ℕ) : Type 0 where
  pub key : ActKey
  pub is : a ≡ Act key
  pub few : nat_lt code 64 ≡ true

pub returner : (p : Plan) (a : Actor) (event : Option ℕ) (code : ℕ) (value : Value) → is_proper p (noting a (deed.Return code value) event) ≡ true → Returner a code
returner p Env event code value proper = absurd (false≢true (wish_part p Env (deed.Return code value) event refl proper))
returner p (Machine n) event code value proper = absurd (false≢true (and_parts _ false (wish_part p (Machine n) (deed.Return code value) event refl proper)).1)
returner p (Act key) event code value proper = record {
  key = key;
  is = refl;
  few = (and_parts (key_fits p key) (nat_lt code 64) (wish_part p (Act key) (deed.Return code value) event refl proper)).1;
}

module _ (p : Plan) (object : ℕ) (k : Kept) (l : Past) (keeps : Keeps p object k l) where
  abbrev s : ℕ
  s = server_in p object

  pub record Led (c : calls.Kept) (n : Noted) : Type 0 where
    pub follows : Follows p object l n
    pub keeping_on : Keeps p object (with_served k c) (n ∷ l)

  pub queue_stands : (most : ℕ) → k.served.queue ≡ Some most → QueueStands p s k.points k.served l
  queue_stands most is = subst (λ o. CallsStand o p s k.points k.served l) is keeps.calls_stand

  pub direct_stands : k.served.queue ≡ None → (i q : ℕ) → slice_get k.points i ≡ Some q → DirectStands p s q (calls.point_at i k.served) l
  direct_stands is = subst (λ o. CallsStand o p s k.points k.served l) is keeps.calls_stand

  -- ---- Ask, Answer and result

  module _ (a : Actor) (event : Option ℕ) (after : calls.Kept) where
    ask_led : (q code : ℕ) (value : Value) → touches p object (noting a (deed.Ask q value code) event) ≡ true → is_proper p (noting a (deed.Ask q value code) event) ≡ true
        → asked_at code value k.served (place q k.points) ≡ Some after → Led after (noting a (deed.Ask q value code) event)
    ask_led q code value touching proper leads =
        let at = then_some (λ i. given (code == calls.answer_to_ask i k.served) (calls.after_ask i value k.served)) (place q k.points) after leads in
        let gives = given_some (code == calls.answer_to_ask at.item k.served) (calls.after_ask at.item value k.served) after at.gives in
        let there = place_at q k.points at.item at.is in
        record {
          follows = record {
            touching = touching;
            proper = proper;
            answers = record {
              unqueued = refl;
              queued = refl;
              calls = ap (λ c. code == c) (answering.ask_same p object k l keeps at.item q there) ∙ gives.holds;
              areas = refl;
              modes = refl;
              admission = admitted p l event (deed.Ask q value code) refl;
              due = refl;
            };
            matching = refl;
          };
          keeping_on = subst (λ c. Keeps p object (with_served k c) (noting a (deed.Ask q value code) event ∷ l)) gives.same (keeping.ask_keeps p object k l keeps a event at.item q code value there gives.holds);
        }

    hear_led : (q code : ℕ) (value : Value) → touches p object (noting a (deed.Answer q code value) event) ≡ true → is_proper p (noting a (deed.Answer q code value) event) ≡ true
        → heard_at code value k.served (place q k.points) ≡ Some after → Led after (noting a (deed.Answer q code value) event)
    hear_led q code value touching proper leads =
        let at = then_some (λ i. given (is_outcome code value (outcome_in (calls.point_at i k.served).stage)) (calls.after_answer i k.served)) (place q k.points) after leads in
        let gives = given_some (is_outcome code value (outcome_in (calls.point_at at.item k.served).stage)) (calls.after_answer at.item k.served) after at.gives in
        let there = place_at q k.points at.item at.is in
        record {
          follows = record {
            touching = touching;
            proper = proper;
            answers = record {
              unqueued = refl;
              queued = refl;
              calls = sym (answering.hear_same p object k l keeps at.item q code value there) ∙ gives.holds;
              areas = refl;
              modes = refl;
              admission = admitted p l event (deed.Answer q code value) refl;
              due = refl;
            };
            matching = refl;
          };
          keeping_on = by_outcome at.item there gives.holds gives.same (outcome_in (calls.point_at at.item k.served).stage) refl;
        }
      where
        by_outcome : (i : ℕ) → slice_get k.points i ≡ Some q → is_outcome code value (outcome_in (calls.point_at i k.served).stage) ≡ true → calls.after_answer i k.served ≡ after
            → (o : Option Outcome) → outcome_in (calls.point_at i k.served).stage ≡ o → Keeps p object (with_served k after) (noting a (deed.Answer q code value) event ∷ l)
        by_outcome i there holds same None is = let no = rw is at holds in absurd (false≢true no)
        by_outcome i there holds same (Some o) is = subst (λ c. Keeps p object (with_served k c) (noting a (deed.Answer q code value) event ∷ l)) (sym (answer_taken i k.served o is) ∙ same)
            (keeping.hear_keeps p object k l keeps a event i q code value o there is)

    result_led : (q code : ℕ) (value : Value) → touches p object (noting a (deed.TakeResult q code value) event) ≡ true → is_proper p (noting a (deed.TakeResult q code value) event) ≡ true
        → taken_at code value k.served (place q k.points) ≡ Some after → Led after (noting a (deed.TakeResult q code value) event)
    result_led q code value touching proper leads =
        let at = then_some (λ i. given (is_result code value (outcome_in (calls.point_at i k.served).stage)) (calls.after_answer i k.served)) (place q k.points) after leads in
        let gives = given_some (is_result code value (outcome_in (calls.point_at at.item k.served).stage)) (calls.after_answer at.item k.served) after at.gives in
        let there = place_at q k.points at.item at.is in
        record {
          follows = record {
            touching = touching;
            proper = proper;
            answers = record {
              unqueued = refl;
              queued = refl;
              calls = sym (answering.result_same p object k l keeps at.item q code value there) ∙ gives.holds;
              areas = refl;
              modes = refl;
              admission = admitted p l event (deed.TakeResult q code value) refl;
              due = refl;
            };
            matching = refl;
          };
          keeping_on = by_outcome at.item there gives.holds gives.same (outcome_in (calls.point_at at.item k.served).stage) refl;
        }
      where
        by_outcome : (i : ℕ) → slice_get k.points i ≡ Some q → is_result code value (outcome_in (calls.point_at i k.served).stage) ≡ true → calls.after_answer i k.served ≡ after
            → (o : Option Outcome) → outcome_in (calls.point_at i k.served).stage ≡ o → Keeps p object (with_served k after) (noting a (deed.TakeResult q code value) event ∷ l)
        by_outcome i there holds same None is =
            let none : is_result code value None ≡ true = ap (is_result code value) (sym is) ∙ holds in
            subst (λ c. Keeps p object (with_served k c) (noting a (deed.TakeResult q code value) event ∷ l)) (sym (answer_left i k.served is) ∙ same)
            (keeping.no_result_keeps p object k l keeps a event q code value (eqb-true code 131 (and_parts (code == 131) (same_words (words_of value) []) none).0))
        by_outcome i there holds same (Some o) is =
            let some : is_result code value (Some o) ≡ true = ap (is_result code value) (sym is) ∙ holds in
            subst (λ c. Keeps p object (with_served k c) (noting a (deed.TakeResult q code value) event ∷ l)) (sym (answer_taken i k.served o is) ∙ same)
            (keeping.result_keeps p object k l keeps a event i q code value o there is (eqb-true code o.code (and_parts (code == o.code) (same_words (words_of value) (words_of o.value)) some).0))

  -- ---- starts and returns

  module _ (key : ActKey) (event : Option ℕ) (after : calls.Kept) where
    start_follows : (e : ℕ) (point : Option ℕ) (value : Value) → touches p object (noting (Act key) (deed.Start e point value) event) ≡ true → is_proper p (noting (Act key) (deed.Start e point value) event) ≡ true
        → starts_request p (Act key) point (words_of value) l ≡ true → is_due p (Act key) e l ≡ true → start_matches p l e (kind_of p e) ≡ true → Follows p object l (noting (Act key) (deed.Start e point value) event)
    start_follows e point value touching proper calls due matching = record {
      touching = touching;
      proper = proper;
      answers = record { unqueued = refl; queued = refl; calls = calls; areas = refl; modes = refl; admission = admitted p l event (deed.Start e point value) refl; due = due };
      matching = matching;
    }

    module _ (e : ℕ) (point : Option ℕ) (value : Value) (touching : touches p object (noting (Act key) (deed.Start e point value) event) ≡ true) (proper : is_proper p (noting (Act key) (deed.Start e point value) event) ≡ true) where
      abbrev n : Noted
      n = noting (Act key) (deed.Start e point value) event

      -- by the server's event
      module _ (same : e ≡ k.event) where
        kind : kind_of p e ≡ Invoked s
        kind = ap (kind_of p) (same ∙ keeps.event) ∙ keeps.is_server.invoked

        home : served_by p (Act key) ≡ Some s
        home = home_of p object keeps.is_server key (same_Some key.runnable (runnable_in p s) (sym (own_event p key e point value event proper) ∙ ap (runnable_of_event p) (same ∙ keeps.event) ∙ keeps.is_server.started))

        next_led : (most : ℕ) → k.served.queue ≡ Some most → started_server (Some most) k key.point point value ≡ Some after → Led after n
        next_led most queue leads = by_own key.point refl leads
          where
            long : queue_of p s ≡ Some most
            long = sym keeps.queue ∙ queue

            by_request : key.point ≡ None → (r : Request) → calls.starting k.served ≡ Some r → given (same_number point (slice_get k.points r.point) && same_words (words_of value) (words_of r.value)) (calls.after_start k.served) ≡ Some after → Led after n
            by_request none r starts gave =
                let gives = given_some (same_number point (slice_get k.points r.point) && same_words (words_of value) (words_of r.value)) (calls.after_start k.served) after gave in
                let tests = and_parts (same_number point (slice_get k.points r.point)) (same_words (words_of value) (words_of r.value)) gives.holds in
                let next = next_start k.served r starts in
                let stands = queue_stands most queue in
                let named = invoked_names p (kind_of p e) s point (words_of value) kind (start_part p (Act key) e point value event proper) in
                let q = named.number in
                let there : slice_get k.points r.point ≡ Some q = sym (same_option point (slice_get k.points r.point) tests.0) ∙ named.names in
                let own = key_is p object keeps.is_server key None home none in
                let first : map (request_at k.points k.served) k.served.waiting ≡ (q, words_of r.value) ∷ map (request_at k.points k.served) next.more =
                ap (map (request_at k.points k.served)) next.first ∙ (λ t. (number_there k.points r.point q there t, words_of_asked (next.asked t)) ∷ map (request_at k.points k.served) next.more) in
                let line : RequestsStand (is_joined_to p s) (record { runnable = runnable_in p s; point = None }) ((q, words_of r.value) ∷ map (request_at k.points k.served) next.more) (option_map (number_at k.points) k.served.serving) l =
                subst (λ us. RequestsStand (is_joined_to p s) (record { runnable = runnable_in p s; point = None }) us (option_map (number_at k.points) k.served.serving) l) first stands.requests in
                let allowed : starts_request p (Act key) (Some q) (words_of value) l ≡ true =
                answering.request_allowed (is_joined_to p s) _ q r.value _ _ l line p (Act key) value (answering.counts_queued p q s most named.joined long) (answering.plain_point key q none) tests.1 in
                let due : is_due p (Act key) e l ≡ true = (λ t. is_due_kind p (Act (record { runnable = key.runnable; point = none t })) e (kind t) l) ∙ answering.there_is (is_joined_to p s) _ q r.value _ _ l line in
                let shut : is_open (serves_any p) l ≡ false = stands.opened ∙ ap is_some next.idle in
                record {
                  follows = start_follows e point value touching proper (subst (λ o. starts_request p (Act key) o (words_of value) l ≡ true) (sym named.names) allowed) due
                      ((λ t. start_matches p l e (kind t)) ∙ (λ t. not (is_some (long t)) || not (shut t)));
                  keeping_on = subst (λ c. Keeps p object (with_served k c) (n ∷ l)) (sym next.after ∙ gives.same)
                      (subst (λ o. Keeps p object (with_served k (record { queue = k.served.queue; waiting = next.more; serving = Some r.point; points = calls.staged r.point Started k.served })) (noting (Act key) (deed.Start e o value) event ∷ l)) (sym named.names)
                      (keeping.next_keeps p object k l keeps key event most e r.point q r.value value next.more queue kind there next.asked next.first next.idle own));
                }

            by_own : (own : Option ℕ) → key.point ≡ own → started_server (Some most) k own point value ≡ Some after → Led after n
            by_own (Some q) at gave = absurd (cc gave)
            by_own None at gave =
                let of = then_some (λ (r : Request). given (same_number point (slice_get k.points r.point) && same_words (words_of value) (words_of r.value)) (calls.after_start k.served)) (calls.starting k.served) after gave in
                by_request at of.item of.is of.gives

        directly_led : k.served.queue ≡ None → started_server None k key.point point value ≡ Some after → Led after n
        directly_led queue leads =
            let none : queue_of p s ≡ None = sym keeps.queue ∙ queue in
            let own = direct_point p object keeps.is_server key (key_part p key (deed.Start e point value) event refl proper) home none in
            let q = own.point in
            let at = then_some {X = ℕ} (λ i. option_and_then (λ w. given (same_number point key.point && same_words (words_of value) (words_of w)) (calls.after_direct_start i k.served)) (value_asked (calls.point_at i k.served).stage)) (own_place k key.point) after leads in
            let i = at.item in
            let of = then_some (λ w. given (same_number point key.point && same_words (words_of value) (words_of w)) (calls.after_direct_start i k.served)) (value_asked (calls.point_at i k.served).stage) after at.gives in
            let gives = given_some (same_number point key.point && same_words (words_of value) (words_of of.item)) (calls.after_direct_start i k.served) after of.gives in
            let tests = and_parts (same_number point key.point) (same_words (words_of value) (words_of of.item)) gives.holds in
            let names : point ≡ Some q = same_option point key.point tests.0 ∙ own.own in
            let there : slice_get k.points i ≡ Some q = place_at q k.points i (sym (ap (own_place k) own.own) ∙ at.is) in
            let is_key = key_is p object keeps.is_server key (Some q) home own.own in
            let line = asked_stands p s k.points k.served l (direct_stands queue) i q of.item there of.is in
            let mine : is_key_point (Act key) q ≡ true = (λ t. is_key_point (Act (record { runnable = key.runnable; point = own.own t })) q) ∙ eq-eqb q q refl in
            let allowed : starts_request p (Act key) (Some q) (words_of value) l ≡ true = answering.request_allowed (λ r. q == r) _ q of.item [] None l line p (Act key) value (answering.counts_direct p q s own.joined none) mine tests.1 in
            let due : is_due p (Act key) e l ≡ true = (λ t. is_due_kind p (Act (record { runnable = key.runnable; point = own.own t })) e (kind t) l) ∙ answering.there_is (λ r. q == r) _ q of.item [] None l line in
            record {
              follows = start_follows e point value touching proper (subst (λ o. starts_request p (Act key) o (words_of value) l ≡ true) (sym names) allowed) due
                  ((λ t. start_matches p l e (kind t)) ∙ (λ t. not (is_some (none t)) || not (is_open (serves_any p) l)));
              keeping_on = subst (λ c. Keeps p object (with_served k c) (n ∷ l)) (sym (direct_started i of.item of.is) ∙ gives.same)
                  (subst (λ o. Keeps p object (with_served k (record { queue = k.served.queue; waiting = k.served.waiting; serving = k.served.serving; points = calls.staged i Started k.served })) (noting (Act key) (deed.Start e o value) event ∷ l)) (sym names)
                  (keeping.direct_keeps p object k l keeps key event e i q of.item value queue kind there of.is is_key));
            }
          where
            direct_started : (i : ℕ) (v : Value) → value_asked (calls.point_at i k.served).stage ≡ Some v
                → calls.after_direct_start i k.served ≡ record { queue = k.served.queue; waiting = k.served.waiting; serving = k.served.serving; points = calls.staged i Started k.served }
            direct_started i v is = rw is refl

        server_led : (o : Option ℕ) → k.served.queue ≡ o → started_server o k key.point point value ≡ Some after → Led after n
        server_led None is leads = directly_led is leads
        server_led (Some most) is leads = next_led most is leads

      -- by a return event
      return_start_led : started_return k.served (awaited_at k e) ≡ Some after → Led after n
      return_start_led leads =
          let at = then_some (λ i. given (calls.point_at i k.served).due (calls.after_return_start i k.served)) (awaited_at k e) after leads in
          let i = at.item in
          let gives = given_some (calls.point_at i k.served).due (calls.after_return_start i k.served) after at.gives in
          let of = awaited p s k keeps.points keeps.returns keeps.awaited e i at.is in
          let q = of.point in
          let there = place_at q k.points i of.there in
          let bare : point ≡ None = returns_unnamed p (kind_of p e) q point (words_of value) of.kind (start_part p (Act key) e point value event proper) in
          let due : is_due p (Act key) e l ≡ true = ap (λ c. is_due_kind p (Act key) e c l) of.kind ∙ (keeps.each i q there).due ∙ gives.holds in
          record {
            follows = start_follows e point value touching proper (ap (λ o. starts_request p (Act key) o (words_of value) l) bare) due (ap (start_matches p l e) of.kind);
            keeping_on = subst (λ c. Keeps p object (with_served k c) (n ∷ l)) gives.same
                (subst (λ o. Keeps p object (with_served k (calls.after_return_start i k.served)) (noting (Act key) (deed.Start e o value) event ∷ l)) (sym bare)
                (keeping.return_start_keeps p object k l keeps key event e i q value of.kind there (apart q of.kind)));
          }
        where
          apart : (q : ℕ) → kind_of p e ≡ Returns q → runnable_in p s ≡ key.runnable → ⊥
          apart q kind same =
              let this : e ≡ event_in p s = keeps.is_server.alone e (own_event p key e point value event proper ∙ ap (λ r. Some r) (sym same)) in
              let both : Returns q ≡ Invoked s = sym kind ∙ ap (kind_of p) this ∙ keeps.is_server.invoked in
              absurd (cc both)

      start_led : lead_of_start k key.point e point value ≡ Some after → Led after n
      start_led leads = by_event (e == k.event) refl leads
        where
          by_event : (b : Bool) → (e == k.event) ≡ b → (if b then started_server k.served.queue k key.point point value else started_return k.served (awaited_at k e)) ≡ Some after → Led after n
          by_event true is gave = server_led (eqb-true e k.event is) k.served.queue refl gave
          by_event false is gave = return_start_led gave

    -- ---- a Return

    module _ (code : ℕ) (value : Value) (touching : touches p object (noting (Act key) (deed.Return code value) event) ≡ true) (proper : is_proper p (noting (Act key) (deed.Return code value) event) ≡ true) where
      abbrev m : Noted
      m = noting (Act key) (deed.Return code value) event

      serves_it : served_by p (Act key) ≡ Some s
      serves_it = server_is p object keeps.is_server (served_by p (Act key)) touching

      reply_made : (i : ℕ) → is_started (calls.point_at i k.served).stage ≡ true → calls.after_reply i (record { code = code; value = value }) k.served ≡ record {
        queue = k.served.queue;
        waiting = k.served.waiting;
        serving = if same_number k.served.serving (Some i) then None else k.served.serving;
        points = set k.served.points i (record { stage = Returned (record { code = code; value = value }); due = true });
      }
      reply_made i started = rw started refl

      return_follows : is_open (serves_by (Act key)) l ≡ true → Follows p object l m
      return_follows opened = record {
        touching = touching;
        proper = proper;
        answers = record { unqueued = refl; queued = refl; calls = refl; areas = refl; modes = refl; admission = admitted p l event (deed.Return code value) refl; due = refl };
        matching = opened;
      }

      return_led : returned_at code value k.served (serving_of k (Act key)) ≡ Some after → Led after m
      return_led leads =
          let at = then_some (λ i. given (is_started (calls.point_at i k.served).stage) (calls.after_reply i (record { code = code; value = value }) k.served)) (serving_of k (Act key)) after leads in
          let gives = given_some (is_started (calls.point_at at.item k.served).stage) (calls.after_reply at.item (record { code = code; value = value }) k.served) after at.gives in
          by_queue k.served.queue refl at.item at.is gives.holds gives.same
        where
          few : nat_lt code 64 ≡ true
          few = (returner p (Act key) event code value proper).few

          by_queue : (o : Option ℕ) → k.served.queue ≡ o → (i : ℕ) → serving_of k (Act key) ≡ Some i → is_started (calls.point_at i k.served).stage ≡ true → calls.after_reply i (record { code = code; value = value }) k.served ≡ after → Led after m
          by_queue (Some most) queue i is started same =
              let long : queue_of p s ≡ Some most = sym keeps.queue ∙ queue in
              let stands = queue_stands most queue in
              let none = queued_point p object keeps.is_server key (key_part p key (deed.Return code value) event refl proper) serves_it most long in
              let own = key_is p object keeps.is_server key None serves_it none in
              let serving : k.served.serving ≡ Some i = sym (serving_next most queue) ∙ is in
              let inside : i < length k.served.points = started_within k.served.points i started in
              let q = number_at k.points i in
              let there : slice_get k.points i ≡ Some q = slice_get-get_or k.points i 0 (omega (arith, inside, keeps.many)) in
              let served : option_map (number_at k.points) k.served.serving ≡ Some q = ap (option_map (number_at k.points)) serving in
              let opened : is_open (serves_by (Act key)) l ≡ true = ap (λ z. is_open (serves_by (Act z)) l) own ∙ stands.requests.opened ∙ ap is_some served in
              record {
                follows = return_follows opened;
                keeping_on = subst (λ c. Keeps p object (with_served k c) (m ∷ l)) (sym (reply_made i started ∙ (λ t. taken i (serving t)) ∙ all_taken i) ∙ same)
                    (keeping.next_return_keeps p object k l keeps key event most i q code value queue serving
                    (record { there = there; started = started; own = λ r. ap (λ z. serves r z l) own ∙ stands.requests.named q served r }) few own);
              }
            where
              serving_next : (most : ℕ) → k.served.queue ≡ Some most → serving_of k (Act key) ≡ k.served.serving
              serving_next most is = rw is refl

              taken : (i : ℕ) → Option ℕ → calls.Kept
              taken i o = record { queue = k.served.queue; waiting = k.served.waiting; serving = if same_number o (Some i) then None else o; points = set k.served.points i (record { stage = Returned (record { code = code; value = value }); due = true }) }

              all_taken : (i : ℕ) → taken i (Some i) ≡ record { queue = k.served.queue; waiting = k.served.waiting; serving = None; points = set k.served.points i (record { stage = Returned (record { code = code; value = value }); due = true }) }
              all_taken i = λ t. record { queue = k.served.queue; waiting = k.served.waiting; serving = if eq-eqb i i refl t then None else Some i; points = set k.served.points i (record { stage = Returned (record { code = code; value = value }); due = true }) }
          by_queue None queue i is started same =
              let none : queue_of p s ≡ None = sym keeps.queue ∙ queue in
              let own = direct_point p object keeps.is_server key (key_part p key (deed.Return code value) event refl proper) serves_it none in
              let q = own.point in
              let is_key = key_is p object keeps.is_server key (Some q) serves_it own.own in
              let there : slice_get k.points i ≡ Some q = place_at q k.points i (sym (serving_own queue ∙ ap (own_place k) own.own) ∙ is) in
              let line = started_stands p s k.points k.served l (direct_stands queue) i q there started in
              record {
                follows = return_follows (ap (λ z. is_open (serves_by (Act z)) l) is_key ∙ line.opened);
                keeping_on = subst (λ c. Keeps p object (with_served k c) (m ∷ l)) (sym (reply_made i started) ∙ same)
                    (keeping.direct_return_keeps p object k l keeps key event i q code value (if same_number k.served.serving (Some i) then None else k.served.serving) queue
                    (record { there = there; started = started; own = λ r. ap (λ z. serves r z l) is_key ∙ line.named q refl r }) few is_key);
              }
            where
              serving_own : k.served.queue ≡ None → serving_of k (Act key) ≡ own_place k key.point
              serving_own is = rw is refl

  -- ---- the whole

  pub entry_led : (a : Actor) (event : Option ℕ) (after : calls.Kept) (d : Deed) → touches p object (noting a d event) ≡ true → is_proper p (noting a d event) ≡ true → lead_of_server k d a ≡ Some after → Led after (noting a d event)
  entry_led a event after (deed.Ask q value code) touching proper leads = ask_led a event after q code value touching proper leads
  entry_led a event after (deed.Answer q code value) touching proper leads = hear_led a event after q code value touching proper leads
  entry_led a event after (deed.TakeResult q code value) touching proper leads = result_led a event after q code value touching proper leads
  entry_led (Act key) event after (deed.Start e point value) touching proper leads = start_led key event after e point value touching proper leads
  entry_led Env event after (deed.Start e point value) touching proper leads = absurd (cc leads)
  entry_led (Machine n) event after (deed.Start e point value) touching proper leads = absurd (cc leads)
  entry_led (Act key) event after (deed.Return code value) touching proper leads = return_led key event after code value touching proper leads
  entry_led Env event after (deed.Return code value) touching proper leads = absurd (cc leads)
  entry_led (Machine n) event after (deed.Return code value) touching proper leads = absurd (cc leads)
  entry_led a event after d touching proper leads = absurd (cc leads)

led : (p : Plan) (object : ℕ) (before after : Kept) (l : Past) (n : Noted) → (keeps : Keeps p object before l) → touches p object n ≡ true → is_proper p n ≡ true → lead before n ≡ Some after → Follows p object l n × Keeps p object after (n ∷ l)
led p object before after l n keeps touching proper leads =
    let of = mapped_some (with_served before) (lead_of_server before n.entry.deed n.entry.actor) after leads in
    let both = entry_led p object before l keeps n.entry.actor n.event of.item n.entry.deed touching proper of.is in
    (both.follows, subst (λ z. Keeps p object z (n ∷ l)) of.gives both.keeping_on)

pub leads_follow : (p : Plan) (object : ℕ) → LeadsFollow p object (Keeps p object) lead
leads_follow p object before after l n stands touching proper leads = (led p object before after l n stands.kept touching proper leads).0

pub leads_keep : (p : Plan) (object : ℕ) → LeadsKeep p object (Keeps p object) lead
leads_keep p object before after l n stands touching proper leads = (led p object before after l n stands.kept touching proper leads).1
