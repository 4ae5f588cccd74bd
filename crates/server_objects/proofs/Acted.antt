-- What the calls of a server answer is what the lead gives.
use Rattle.std.proofs.Common.{◌≡◌, ℕ, ℤ, Bool, true, false, ◌&&◌, ◌==◌, if◌then◌else◌, refl, sym, ◌∙◌, ap, subst, List, [], set, Option, Some, None, is_some}
use Rattle.std.specs.Prelude.{IsSome, unwrap_or, option_map, option_and_then}
use Rattle.bus_semantics.specs.Common.{Contains, slice_get, eq-eqb, eqb-true, false≢true, Value, words_of, same_words, same_number, same_words-Decides, Plan, kind_of, server_of, Wanted}
use Rattle.bus_semantics.specs.Common.{to_ask, to_hear, to_take_result, to_start, to_return, wanted_by, plain_key, start_fits, event_of}
use Rattle.std.proofs.lemmas.List.{set-get_or}
use Rattle.bus_semantics.specs.declared.plan.EventKind.TheVariants.{Invoked}
use Rattle.bus_semantics.specs.declared.entries.Actor.{Actor}
use Rattle.bus_semantics.specs.declared.entries.Actor.TheVariants.{Act}
use Rattle.bus_semantics.specs.declared.entries.Deed.{Deed}
use Rattle.bus_semantics.specs.declared.entries.Deed.TheVariants as deed
use Rattle.client_server.specs.declared.point.Outcome.{Outcome}
use Rattle.client_server.specs.declared.point.Request.{Request}
use Rattle.client_server.specs.Kept as calls
use Rattle.client_server.specs.Points.{is_started, new_point, outcome_in, value_asked}
use Rattle.object_kinds.specs.declared.acted.Acted.{Acted}
use Rattle.object_kinds.specs.declared.acted.Acted.TheVariants.{Done, NotYet}
use Rattle.object_kinds.specs.declared.acted.Shown.{Shown}
use Rattle.object_kinds.specs.Common.{IsAnswerOf, given, place}
use Rattle.server_objects.specs.Acting.{Leads, Holds, IsActed, StartLeads, NoStart, ReturnLeads, IsAskedAt, IsTaken}
use Rattle.server_objects.specs.Kept.{Kept, ServerState, awaited_at, has_next, is_due_at, may_hear, may_start}
use Rattle.server_objects.specs.Layout.{server_in}
use Rattle.server_objects.specs.Leading.{is_outcome, is_result, asked_at, heard_at, taken_at, own_place, started_directly, started_server, started_return, lead_of_start, serving_of}
use Rattle.server_objects.specs.Leading.{returned_at, lead_of_server, heard_by, with_served, lead, why_held}
use Rattle.server_objects.specs.Plans.{IsOfPlan}
use Rattle.server_objects.proofs.Facts.{points_joined}
use Rattle.server_objects.proofs.Hearing.{heard_comes}
use Rattle.server_objects.proofs.Next.{awaited}
use Rattle.server_objects.proofs.Starting.{flags_left, no_start}
use Rattle.server_objects.proofs.Staying.{stays_planned}
use Rattle.server_objects.proofs.Telling.{none_tells}

-- a server by its parts
abbrev pub state : (points : List ℕ) → (event : ℕ) → (returns awaited : List ℕ) → calls.Kept → (woken : List ℕ) → (heard : Option ℕ) → ServerState
state points event returns awaited served woken heard = record { kept = record { points = points; event = event; returns = returns; awaited = awaited; served = served }; woken = woken; heard = heard }

same_itself : (v : Value) → same_words (words_of v) (words_of v) ≡ true
same_itself v = (same_words-Decides (words_of v) (words_of v)).1 refl

-- ---- Ask

pub ask_leads : (a : Actor) (q i code : ℕ) (value : Value) (old new : ServerState) → place q old.kept.points ≡ Some i → IsAskedAt value old new i code → Leads a (to_ask q (words_of value)) old new (record { actor = a; deed = deed.Ask q value code })
ask_leads a q i code value old new there asked = record {
  actor = refl;
  wish = λ event. refl;
  answer = λ p object planned. refl;
  leads = ap (asked_at code value old.kept.served) there ∙ ap (λ b. given b (calls.after_ask i value old.kept.served)) (eq-eqb code (calls.answer_to_ask i old.kept.served) asked.code_is)
      ∙ ap (λ (k : Kept). Some k.served) (sym asked.kept);
  kept = asked.kept ∙ ap (λ (k : Kept). with_served old.kept k.served) (sym asked.kept);
  told = asked.told q;
  heard = asked.heard;
}

pub ask_holds : (a : Actor) (q : ℕ) (ws : List ℤ) (old new : ServerState) (shown : Shown) → shown ≡ why_held old.kept (to_ask q ws) → new ≡ old → place q old.kept.points ≡ None → Holds a (to_ask q ws) old new shown
ask_holds a q ws old new shown why same none = record { why = why; same = same; none = nothing; flag = λ runnable event by is. absurd (cc is) }
  where
    nothing : (d : Deed) (event : ℕ) → wanted_by event d ≡ to_ask q ws → lead_of_server old.kept d a ≡ None
    nothing (deed.Ask r value code) event is = let this : r ≡ q = cc in ap (asked_at code value old.kept.served) (ap (λ n. place n old.kept.points) this ∙ none)
    nothing d event is = absurd (cc is)

-- ---- Answer

pub hear_leads : (a : Actor) (q i : ℕ) (o : Outcome) (k : Kept) (c : calls.Kept) (woken : List ℕ) (heard : Option ℕ) → place q k.points ≡ Some i → Some o ≡ outcome_in (calls.point_at i k.served).stage → c ≡ calls.after_answer i k.served
    → Leads a (to_hear q) (record { kept = k; woken = woken; heard = heard }) (record { kept = with_served k c; woken = woken; heard = heard }) (record { actor = a; deed = deed.Answer q o.code o.value })
hear_leads a q i o k c woken heard there outcome is =
    let test : is_outcome o.code o.value (outcome_in (calls.point_at i k.served).stage) ≡ true = ap (is_outcome o.code o.value) (sym outcome) ∙ (λ t. eq-eqb o.code o.code refl t && same_itself o.value t) in
    let leads : lead_of_server k (deed.Answer q o.code o.value) a ≡ Some c =
    ap (heard_at o.code o.value k.served) there ∙ ap (λ b. given b (calls.after_answer i k.served)) test ∙ ap (λ z. Some z) (sym is) in
    record {
      actor = refl;
      wish = λ event. refl;
      answer = λ p object planned. refl;
      leads = leads;
      kept = refl;
      told = none_tells (record { kept = k; woken = woken; heard = heard }) (record { kept = with_served k c; woken = woken; heard = heard }) (deed.Answer q o.code o.value) refl refl (flags_left k (deed.Answer q o.code o.value) a c leads refl);
      heard = refl;
    }

pub hear_holds : (a : Actor) (q : ℕ) (old new : ServerState) (shown : Shown) → shown ≡ why_held old.kept (to_hear q) → new ≡ old → ((code : ℕ) (value : Value) → heard_at code value old.kept.served (place q old.kept.points) ≡ None) → Holds a (to_hear q) old new shown
hear_holds a q old new shown why same none = record { why = why; same = same; none = nothing; flag = λ runnable event by is. absurd (cc is) }
  where
    nothing : (d : Deed) (event : ℕ) → wanted_by event d ≡ to_hear q → lead_of_server old.kept d a ≡ None
    nothing (deed.Answer r code value) event is = let this : r ≡ q = cc is in ap (λ n. heard_at code value old.kept.served (place n old.kept.points)) this ∙ none code value
    nothing d event is = absurd (cc is)

pub none_heard : (k : calls.Kept) (at : Option ℕ) (i : ℕ) → at ≡ Some i → None ≡ outcome_in (calls.point_at i k).stage → (code : ℕ) (value : Value) → heard_at code value k at ≡ None
none_heard k at i there none code value = ap (heard_at code value k) there ∙ ap (λ o. given (is_outcome code value o) (calls.after_answer i k)) (sym none)

pub nothing_taken : (k : calls.Kept) (i : ℕ) → None ≡ outcome_in (calls.point_at i k).stage → calls.after_answer i k ≡ k
nothing_taken k i none = rw (sym none) refl

-- ---- result

pub outcome_taken : (k : Kept) (c : calls.Kept) (woken : List ℕ) (heard : Option ℕ) (i : ℕ) (o : Outcome) → Some o ≡ outcome_in (calls.point_at i k.served).stage → c ≡ calls.after_answer i k.served
    → IsTaken (record { kept = k; woken = woken; heard = heard }) (record { kept = with_served k c; woken = woken; heard = heard }) i o
outcome_taken k c woken heard i o outcome is =
    let test : is_result o.code o.value (outcome_in (calls.point_at i k.served).stage) ≡ true = ap (is_result o.code o.value) (sym outcome) ∙ (λ t. eq-eqb o.code o.code refl t && same_itself o.value t) in
    record { leads = ap (λ b. given b (calls.after_answer i k.served)) test ∙ ap (λ z. Some z) (sym is); kept = refl; woken = refl; heard = refl }

pub nothing_there : (k : Kept) (c : calls.Kept) (woken : List ℕ) (heard : Option ℕ) (i : ℕ) (v : Value) → words_of v ≡ [] → None ≡ outcome_in (calls.point_at i k.served).stage → c ≡ calls.after_answer i k.served
    → IsTaken (record { kept = k; woken = woken; heard = heard }) (record { kept = with_served k c; woken = woken; heard = heard }) i (record { code = 131; value = v })
nothing_there k c woken heard i v empty outcome is =
    let test : is_result 131 v (outcome_in (calls.point_at i k.served).stage) ≡ true = ap (is_result 131 v) (sym outcome) ∙ (same_words-Decides (words_of v) []).1 empty in
    record { leads = ap (λ b. given b (calls.after_answer i k.served)) test ∙ ap (λ z. Some z) (sym is); kept = refl; woken = refl; heard = refl }

pub result_leads : (a : Actor) (q i : ℕ) (o : Outcome) (old new : ServerState) → place q old.kept.points ≡ Some i → IsTaken old new i o → Leads a (to_take_result q) old new (record { actor = a; deed = deed.TakeResult q o.code o.value })
result_leads a q i o old new there taken =
    let leads : lead_of_server old.kept (deed.TakeResult q o.code o.value) a ≡ Some new.kept.served = ap (taken_at o.code o.value old.kept.served) there ∙ taken.leads in
    record {
      actor = refl;
      wish = λ event. refl;
      answer = λ p object planned. refl;
      leads = leads;
      kept = taken.kept;
      told = none_tells old new (deed.TakeResult q o.code o.value) refl taken.woken
          (λ event off. ap (λ k. may_start k event) taken.kept ∙ flags_left old.kept (deed.TakeResult q o.code o.value) a new.kept.served leads refl event off);
      heard = taken.heard;
    }

pub result_holds : (a : Actor) (q : ℕ) (old new : ServerState) (shown : Shown) → shown ≡ why_held old.kept (to_take_result q) → new ≡ old → place q old.kept.points ≡ None → Holds a (to_take_result q) old new shown
result_holds a q old new shown why same none = record { why = why; same = same; none = nothing; flag = λ runnable event by is. absurd (cc is) }
  where
    nothing : (d : Deed) (event : ℕ) → wanted_by event d ≡ to_take_result q → lead_of_server old.kept d a ≡ None
    nothing (deed.TakeResult r code value) event is = let this : r ≡ q = cc is in ap (taken_at code value old.kept.served) (ap (λ n. place n old.kept.points) this ∙ none)
    nothing d event is = absurd (cc is)

-- ---- starts

pub next_leads : (k : Kept) (c : calls.Kept) (woken : List ℕ) (heard : Option ℕ) (event : ℕ) (r : Request) (q : ℕ) → event ≡ k.event → IsSome k.served.queue → Some r ≡ calls.starting k.served → c ≡ calls.after_start k.served → slice_get k.points r.point ≡ Some q
    → StartLeads None event (record { kept = k; woken = woken; heard = heard }) (record { kept = with_served k c; woken = woken; heard = heard }) (deed.Start event (Some q) r.value)
next_leads k c woken heard event r q same queue starts is there = record {
  point = Some q;
  value = r.value;
  deed = refl;
  answer = λ p object planned.
      let kind : kind_of p event ≡ Invoked (server_in p object) = ap (kind_of p) (same ∙ planned.event) ∙ planned.is_server.invoked in
      let joined : server_of p q ≡ Some (server_in p object) = points_joined p (server_in p object) k.points r.point q planned.points there in
      (λ t. start_fits p (kind t) (Some q) (words_of r.value)) ∙ (λ t. same_number (joined t) (Some (server_in p object))) ∙ eq-eqb (server_in p object) (server_in p object) refl;
  leads = (λ t. if eq-eqb event k.event same t then started_server k.served.queue k None (Some q) r.value else started_return k.served (awaited_at k event)) ∙ by_queue k.served.queue queue;
  kept = refl;
  woken = refl;
  heard = refl;
}
  where
    by_queue : (o : Option ℕ) → IsSome o → started_server o k None (Some q) r.value ≡ Some c
    by_queue None none = absurd (false≢true none)
    by_queue (Some most) some =
        ap (option_and_then (λ (x : Request). given (same_number (Some q) (slice_get k.points x.point) && same_words (words_of r.value) (words_of x.value)) (calls.after_start k.served))) (sym starts)
        ∙ (λ t. given (same_number (Some q) (there t) && same_itself r.value t) (calls.after_start k.served))
        ∙ ap (λ b. given (b && true) (calls.after_start k.served)) (eq-eqb q q refl)
        ∙ ap (λ z. Some z) (sym is)

by_server : (k : Kept) (own : Option ℕ) (event : ℕ) (point : Option ℕ) (value : Value) → event ≡ k.event → lead_of_start k own event point value ≡ started_server k.served.queue k own point value
by_server k own event point value same = λ t. if eq-eqb event k.event same t then started_server k.served.queue k own point value else started_return k.served (awaited_at k event)

no_test : (b : Bool) → (b && false) ≡ false
no_test true = refl
no_test false = refl

by_flag : (k : Kept) (event : ℕ) → event ≡ k.event → may_start k event ≡ has_next k.served
by_flag k event same = λ t. if eq-eqb event k.event same t then has_next k.served else is_due_at k.served (awaited_at k event)

other_event : (k : Kept) (event : ℕ) → (event ≡ k.event → ⊥) → (event == k.event) ≡ false
other_event k event apart = by_test (event == k.event) refl
  where
    by_test : (b : Bool) → (event == k.event) ≡ b → b ≡ false
    by_test false is = refl
    by_test true is = absurd (apart (eqb-true event k.event is))

by_return_flag : (k : Kept) (event : ℕ) → (event ≡ k.event → ⊥) → may_start k event ≡ is_due_at k.served (awaited_at k event)
by_return_flag k event apart = λ t. if other_event k event apart t then has_next k.served else is_due_at k.served (awaited_at k event)

by_return : (k : Kept) (own : Option ℕ) (event : ℕ) (point : Option ℕ) (value : Value) → (event ≡ k.event → ⊥) → lead_of_start k own event point value ≡ started_return k.served (awaited_at k event)
by_return k own event point value apart = λ t. if other_event k event apart t then started_server k.served.queue k own point value else started_return k.served (awaited_at k event)

pub no_point : (o : Option ℕ) → is_some o ≡ false → o ≡ None
no_point None e = refl
no_point (Some q) e = absurd (false≢true (sym e))

-- a key with a point starts no queued server
pub own_starts_none : (q event : ℕ) (old : ServerState) → event ≡ old.kept.event → IsSome old.kept.served.queue → NoStart (Some q) event old old
own_starts_none q event old same queue = record { none = λ point value. by_server old.kept (Some q) event point value same ∙ by_queue old.kept.served.queue queue point value; same = refl; flag = λ none. absurd (cc none) }
  where
    by_queue : (o : Option ℕ) → IsSome o → (point : Option ℕ) (value : Value) → started_server o old.kept (Some q) point value ≡ None
    by_queue None none point value = absurd (false≢true none)
    by_queue (Some most) some point value = refl

pub next_none : (k : Kept) (c : calls.Kept) (woken : List ℕ) (heard : Option ℕ) (event : ℕ) → event ≡ k.event → IsSome k.served.queue → is_some (calls.next_point k.served) ≡ false → c ≡ calls.after_start k.served
    → NoStart None event (record { kept = k; woken = woken; heard = heard }) (record { kept = with_served k c; woken = woken; heard = heard })
next_none k c woken heard event same queue none is = record {
  none = λ point value. by_server k None event point value same ∙ by_queue k.served.queue queue point value;
  same = ap (λ z. record { kept = with_served k z; woken = woken; heard = heard }) (is ∙ left (calls.next_point k.served) refl none);
  flag = λ plain. by_flag k event same ∙ (λ t. is_some k.served.queue && none t) ∙ no_test (is_some k.served.queue);
}
  where
    by_queue : (o : Option ℕ) → IsSome o → (point : Option ℕ) (value : Value) → started_server o k None point value ≡ None
    by_queue None nothing point value = absurd (false≢true nothing)
    by_queue (Some most) some point value =
        ap (option_and_then (λ (x : Request). given (same_number point (slice_get k.points x.point) && same_words (words_of value) (words_of x.value)) (calls.after_start k.served))) (no_start k.served none)

    left : (o : Option ℕ) → calls.next_point k.served ≡ o → is_some o ≡ false → calls.after_start k.served ≡ k.served
    left None at off = rw at refl
    left (Some i) at off = absurd (false≢true (sym off))

pub direct_leads : (k : Kept) (c : calls.Kept) (woken : List ℕ) (heard : Option ℕ) (own : Option ℕ) (event i : ℕ) (v : Value) → event ≡ k.event → k.served.queue ≡ None → own_place k own ≡ Some i → Some v ≡ value_asked (calls.point_at i k.served).stage → c ≡ calls.after_direct_start i k.served
    → ((p : Plan) (object : ℕ) → IsOfPlan p object k → start_fits p (kind_of p event) own (words_of v) ≡ true)
    → StartLeads own event (record { kept = k; woken = woken; heard = heard }) (record { kept = with_served k c; woken = woken; heard = heard }) (deed.Start event own v)
direct_leads k c woken heard own event i v same queue there asked is fits = record {
  point = own;
  value = v;
  deed = refl;
  answer = fits;
  leads = by_server k own event own v same
      ∙ (λ t. started_server (queue t) k own own v)
      ∙ (λ t. started_directly own own v k.served (there t))
      ∙ ap (option_and_then (λ w. given (same_number own own && same_words (words_of v) (words_of w)) (calls.after_direct_start i k.served))) (sym asked)
      ∙ (λ t. given (itself own t && same_itself v t) (calls.after_direct_start i k.served))
      ∙ ap (λ z. Some z) (sym is);
  kept = refl;
  woken = refl;
  heard = refl;
}
  where
    itself : (o : Option ℕ) → same_number o o ≡ true
    itself None = refl
    itself (Some n) = eq-eqb n n refl

-- the point of a key that calls the server
pub own_fits : (k : Kept) (own : Option ℕ) (event i : ℕ) (ws : List ℤ) → event ≡ k.event → own_place k own ≡ Some i → ((q : ℕ) → place q k.points ≡ Some i → slice_get k.points i ≡ Some q)
    → (p : Plan) (object : ℕ) → IsOfPlan p object k → start_fits p (kind_of p event) own ws ≡ true
own_fits k None event i ws same there found p object planned = absurd (cc there)
own_fits k (Some q) event i ws same there found p object planned =
    let kind : kind_of p event ≡ Invoked (server_in p object) = ap (kind_of p) (same ∙ planned.event) ∙ planned.is_server.invoked in
    let joined : server_of p q ≡ Some (server_in p object) = points_joined p (server_in p object) k.points i q planned.points (found q there) in
    (λ t. start_fits p (kind t) (Some q) ws) ∙ (λ t. same_number (joined t) (Some (server_in p object))) ∙ eq-eqb (server_in p object) (server_in p object) refl

pub direct_none : (k : Kept) (c : calls.Kept) (woken : List ℕ) (heard : Option ℕ) (own : Option ℕ) (event i : ℕ) → event ≡ k.event → k.served.queue ≡ None → own_place k own ≡ Some i → None ≡ value_asked (calls.point_at i k.served).stage → c ≡ calls.after_direct_start i k.served
    → NoStart own event (record { kept = k; woken = woken; heard = heard }) (record { kept = with_served k c; woken = woken; heard = heard })
direct_none k c woken heard own event i same queue there none is = record {
  none = λ point value. by_server k own event point value same
      ∙ (λ t. started_server (queue t) k own point value)
      ∙ (λ t. started_directly own point value k.served (there t))
      ∙ ap (option_and_then (λ w. given (same_number point own && same_words (words_of value) (words_of w)) (calls.after_direct_start i k.served))) (sym none);
  same = ap (λ z. record { kept = with_served k z; woken = woken; heard = heard }) (is ∙ left);
  flag = λ plain. by_flag k event same ∙ (λ t. is_some (queue t) && is_some (calls.next_point k.served));
}
  where
    left : calls.after_direct_start i k.served ≡ k.served
    left = rw (sym none) refl

pub direct_nowhere : (old : ServerState) (own : Option ℕ) (event : ℕ) → event ≡ old.kept.event → old.kept.served.queue ≡ None → own_place old.kept own ≡ None → NoStart own event old old
direct_nowhere old own event same queue none = record {
  none = λ point value. by_server old.kept own event point value same ∙ (λ t. started_server (queue t) old.kept own point value) ∙ (λ t. started_directly own point value old.kept.served (none t));
  same = refl;
  flag = λ plain. by_flag old.kept event same ∙ (λ t. is_some (queue t) && is_some (calls.next_point old.kept.served));
}

pub return_start_leads : (k : Kept) (c : calls.Kept) (woken : List ℕ) (heard : Option ℕ) (own : Option ℕ) (event i : ℕ) (v : Value) → (event ≡ k.event → ⊥) → words_of v ≡ [] → awaited_at k event ≡ Some i → true ≡ (calls.point_at i k.served).due → c ≡ calls.after_return_start i k.served
    → StartLeads own event (record { kept = k; woken = woken; heard = heard }) (record { kept = with_served k c; woken = woken; heard = heard }) (deed.Start event None v)
return_start_leads k c woken heard own event i v apart empty there due is = record {
  point = None;
  value = v;
  deed = refl;
  answer = λ p object planned.
      let of = awaited p (server_in p object) k planned.points planned.returns planned.awaited event i there in
      (λ t. start_fits p (of.kind t) None (words_of v)) ∙ (same_words-Decides (words_of v) []).1 empty;
  leads = by_return k own event None v apart ∙ ap (started_return k.served) there ∙ ap (λ b. given b (calls.after_return_start i k.served)) (sym due) ∙ ap (λ z. Some z) (sym is);
  kept = refl;
  woken = refl;
  heard = refl;
}

pub return_start_none : (k : Kept) (c : calls.Kept) (woken : List ℕ) (heard : Option ℕ) (own : Option ℕ) (event i : ℕ) → (event ≡ k.event → ⊥) → awaited_at k event ≡ Some i → false ≡ (calls.point_at i k.served).due → c ≡ calls.after_return_start i k.served
    → NoStart own event (record { kept = k; woken = woken; heard = heard }) (record { kept = with_served k c; woken = woken; heard = heard })
return_start_none k c woken heard own event i apart there due is = record {
  none = λ point value. by_return k own event point value apart ∙ ap (started_return k.served) there ∙ ap (λ b. given b (calls.after_return_start i k.served)) (sym due);
  same = ap (λ z. record { kept = with_served k z; woken = woken; heard = heard }) (is ∙ left);
  flag = λ plain. by_return_flag k event apart ∙ ap (is_due_at k.served) there ∙ sym due;
}
  where
    left : calls.after_return_start i k.served ≡ k.served
    left =
        (λ t. record {
          queue = k.served.queue;
          waiting = k.served.waiting;
          serving = k.served.serving;
          points = set k.served.points i (record { stage = (calls.point_at i k.served).stage; due = due t });
        })
        ∙ (λ t. record { queue = k.served.queue; waiting = k.served.waiting; serving = k.served.serving; points = set-get_or k.served.points i new_point t })

pub return_start_nowhere : (old : ServerState) (own : Option ℕ) (event : ℕ) → (event ≡ old.kept.event → ⊥) → awaited_at old.kept event ≡ None → NoStart own event old old
return_start_nowhere old own event apart none = record { none = λ point value. by_return old.kept own event point value apart ∙ ap (started_return old.kept.served) none; same = refl; flag = λ plain. by_return_flag old.kept event apart ∙ ap (is_due_at old.kept.served) none }

-- ---- a start, by its actor

pub start_leads : (a : Actor) (own : Option ℕ) (event : ℕ) (old new : ServerState) (d : Deed) → ((point : Option ℕ) (value : Value) → lead_of_server old.kept (deed.Start event point value) a ≡ lead_of_start old.kept own event point value)
    → StartLeads own event old new d → Leads a (to_start event) old new (record { actor = a; deed = d })
start_leads a own event old new d by started =
    let leads : lead_of_server old.kept (deed.Start event started.point started.value) a ≡ Some new.kept.served = by started.point started.value ∙ started.leads in
    subst (λ x. Leads a (to_start event) old new (record { actor = a; deed = x })) (sym started.deed) (record {
      actor = refl;
      wish = λ f. refl;
      answer = started.answer;
      leads = leads;
      kept = started.kept;
      told = none_tells old new (deed.Start event started.point started.value) refl started.woken
          (λ f off. ap (λ k. may_start k f) started.kept ∙ flags_left old.kept (deed.Start event started.point started.value) a new.kept.served leads refl f off);
      heard = started.heard;
    })

pub start_holds : (a : Actor) (event : ℕ) (old new : ServerState) (shown : Shown) → shown ≡ why_held old.kept (to_start event) → new ≡ old → ((point : Option ℕ) (value : Value) → lead_of_server old.kept (deed.Start event point value) a ≡ None)
    → ((runnable : ℕ) → a ≡ Act (plain_key runnable) → may_start old.kept event ≡ false) → Holds a (to_start event) old new shown
start_holds a event old new shown why same none flag = record { why = why; same = same; none = nothing; flag = λ runnable f by is. let this : f ≡ event = cc in ap (may_start old.kept) this ∙ flag runnable by }
  where
    nothing : (d : Deed) (f : ℕ) → wanted_by f d ≡ to_start event → lead_of_server old.kept d a ≡ None
    nothing (deed.Start e point value) f is = let this : e ≡ event = cc is in ap (λ n. lead_of_server old.kept (deed.Start n point value) a) this ∙ none point value
    nothing d f is = absurd (cc is)

-- ---- Return

pub return_leads : (a : Actor) (i code : ℕ) (value : Value) (old new : ServerState) → serving_of old.kept a ≡ Some i → ReturnLeads code value old new i → Leads a (to_return code (words_of value)) old new (record { actor = a; deed = deed.Return code value })
return_leads a i code value old new there returned = record {
  actor = refl;
  wish = λ event. refl;
  answer = λ p object planned. refl;
  leads = ap (returned_at code value old.kept.served) there ∙ returned.leads;
  kept = returned.kept;
  told = returned.told;
  heard = returned.heard ∙ sym (ap (option_and_then (λ n. slice_get old.kept.points n)) there);
}

pub return_holds : (a : Actor) (code : ℕ) (ws : List ℤ) (old new : ServerState) (shown : Shown) → shown ≡ why_held old.kept (to_return code ws) → new ≡ old → ((c : ℕ) (v : Value) → returned_at c v old.kept.served (serving_of old.kept a) ≡ None)
    → Holds a (to_return code ws) old new shown
return_holds a code ws old new shown why same none = record { why = why; same = same; none = nothing; flag = λ runnable event by is. absurd (cc is) }
  where
    nothing : (d : Deed) (event : ℕ) → wanted_by event d ≡ to_return code ws → lead_of_server old.kept d a ≡ None
    nothing (deed.Return c v) event is = none c v
    nothing d event is = absurd (cc is)

pub none_returned : (k : calls.Kept) (at : Option ℕ) (i : ℕ) → at ≡ Some i → is_started (calls.point_at i k).stage ≡ false → (c : ℕ) (v : Value) → returned_at c v k at ≡ None
none_returned k at i there off c v = ap (returned_at c v k) there ∙ ap (λ b. given b (calls.after_reply i (record { code = c; value = v }) k)) off

-- ---- the whole

module _ (a : Actor) (w : Wanted) (old new : ServerState) where
  pub acted_answers : (r : Acted) (p : Plan) (object : ℕ) → IsOfPlan p object old.kept → IsActed a w old new r → IsAnswerOf p lead may_start why_held a w old.kept new.kept r
  acted_answers (Done e) p object planned made = record {
    actor = made.actor;
    wish = made.wish (unwrap_or (event_of w) 0);
    answer = made.answer p object planned;
    leads = ap (option_map (with_served old.kept)) (ap (lead_of_server old.kept e.deed) made.actor ∙ made.leads) ∙ ap (λ k. Some k) (sym made.kept);
  }
  acted_answers (NotYet shown) p object planned held = (
    held.why,
    ap (λ (s : ServerState). s.kept) held.same,
    record {
      none = λ n actor wish. ap (option_map (with_served old.kept)) (ap (lead_of_server old.kept n.entry.deed) actor ∙ held.none n.entry.deed (unwrap_or n.event 0) wish);
      flag = held.flag;
    },
  )

  pub acted_planned : (r : Acted) (p : Plan) (object : ℕ) → IsOfPlan p object old.kept → IsActed a w old new r → IsOfPlan p object new.kept
  acted_planned (Done e) p object planned made = stays_planned p object old.kept new.kept e.deed a planned made.leads made.kept
  acted_planned (NotYet shown) p object planned held = subst (λ (s : ServerState). IsOfPlan p object s.kept) (sym held.same) planned

  pub acted_tells : (r : Acted) → IsActed a w old new r → (event : ℕ) → may_start old.kept event ≡ false → may_start new.kept event ≡ true → Contains new.woken event
  acted_tells (Done e) made event off on = made.told.came event off on
  acted_tells (NotYet shown) held event off on = absurd (false≢true (sym off ∙ sym (ap (λ (s : ServerState). may_start s.kept event) held.same) ∙ on))

  pub acted_heard : (r : Acted) → IsActed a w old new r → (q : ℕ) → may_hear old.kept q ≡ false → may_hear new.kept q ≡ true → new.heard ≡ Some q
  acted_heard (Done e) made q off on = made.heard ∙ ap (heard_by old e.deed) made.actor ∙ heard_comes old e.deed a new.kept.served made.leads q off (subst (λ k. may_hear k q ≡ true) made.kept on)
  acted_heard (NotYet shown) held q off on = absurd (false≢true (sym off ∙ sym (ap (λ (s : ServerState). may_hear s.kept q) held.same) ∙ on))
