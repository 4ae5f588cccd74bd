-- No entry changes what a server is of its plan, nor how many points it has.
use Rattle.std.proofs.Common.{◌≡◌, ℕ, Bool, true, false, ◌&&◌, ◌==◌, if◌then◌else◌, refl, sym, ◌∙◌, subst, length, Option, Some, None, is_some}
use Rattle.std.specs.Prelude.{option_and_then}
use Rattle.bus_semantics.specs.Common.{slice_get, length-set, Value, words_of, same_words, same_number, Plan}
use Rattle.bus_semantics.specs.declared.entries.Actor.{Actor}
use Rattle.bus_semantics.specs.declared.entries.Actor.TheVariants.{Env, Machine, Act}
use Rattle.bus_semantics.specs.declared.entries.Deed.{Deed}
use Rattle.bus_semantics.specs.declared.entries.Deed.TheVariants as deed
use Rattle.client_server.specs.declared.point.Outcome.{Outcome}
use Rattle.client_server.specs.declared.point.Request.{Request}
use Rattle.client_server.specs.Kept as calls
use Rattle.client_server.specs.Points.{is_started, outcome_in, value_asked}
use Rattle.object_kinds.specs.Common.{given, place}
use Rattle.object_kinds.proofs.Options.{given_some, then_some}
use Rattle.server_objects.specs.Kept.{Kept, awaited_at}
use Rattle.server_objects.specs.Leading.{is_outcome, is_result, own_place, started_server, started_return, lead_of_start, serving_of, lead_of_server, with_served}
use Rattle.server_objects.specs.Plans.{IsOfPlan}

pub record Same (k c : calls.Kept) : Type 0 where
  pub queue : c.queue ≡ k.queue
  pub many : length c.points ≡ length k.points

itself : (k : calls.Kept) → Same k k
itself k = record { queue = refl; many = refl }

pub ask_same : (i : ℕ) (value : Value) (k : calls.Kept) → Same k (calls.after_ask i value k)
ask_same i value k = by_test (calls.accepts i k)
  where
    by_test : (b : Bool) → Same k (if b then calls.with_request i value k else k)
    by_test true = record { queue = refl; many = length-set k.points i _ }
    by_test false = itself k

pub answer_same : (i : ℕ) (k : calls.Kept) → Same k (calls.after_answer i k)
answer_same i k = by_test (is_some (outcome_in (calls.point_at i k).stage)) refl
  where
    by_test : (b : Bool) → is_some (outcome_in (calls.point_at i k).stage) ≡ b → Same k (calls.after_answer i k)
    by_test true is = rw is (record { queue = refl; many = length-set k.points i _ })
    by_test false is = rw is (itself k)

pub start_same : (k : calls.Kept) → Same k (calls.after_start k)
start_same k = by_point (calls.next_point k) refl
  where
    by_point : (o : Option ℕ) → calls.next_point k ≡ o → Same k (calls.after_start k)
    by_point None is = rw is (itself k)
    by_point (Some i) is = rw is (record { queue = refl; many = length-set k.points i _ })

pub direct_same : (i : ℕ) (k : calls.Kept) → Same k (calls.after_direct_start i k)
direct_same i k = by_test (is_some (value_asked (calls.point_at i k).stage)) refl
  where
    by_test : (b : Bool) → is_some (value_asked (calls.point_at i k).stage) ≡ b → Same k (calls.after_direct_start i k)
    by_test true is = rw is (record { queue = refl; many = length-set k.points i _ })
    by_test false is = rw is (itself k)

pub return_start_same : (i : ℕ) (k : calls.Kept) → Same k (calls.after_return_start i k)
return_start_same i k = record { queue = refl; many = length-set k.points i _ }

pub reply_same : (i : ℕ) (o : Outcome) (k : calls.Kept) → Same k (calls.after_reply i o k)
reply_same i o k = by_test (is_started (calls.point_at i k).stage) refl
  where
    by_test : (b : Bool) → is_started (calls.point_at i k).stage ≡ b → Same k (calls.after_reply i o k)
    by_test true is = rw is (record { queue = refl; many = length-set k.points i _ })
    by_test false is = rw is (itself k)

server_same : (k : Kept) (own point : Option ℕ) (value : Value) (c : calls.Kept) (o : Option ℕ) → started_server o k own point value ≡ Some c → Same k.served c
server_same k own point value c None leads =
    let at = then_some {X = ℕ} (λ i. option_and_then (λ w. given (same_number point own && same_words (words_of value) (words_of w)) (calls.after_direct_start i k.served)) (value_asked (calls.point_at i k.served).stage)) (own_place k own) c leads in
    let of = then_some (λ w. given (same_number point own && same_words (words_of value) (words_of w)) (calls.after_direct_start at.item k.served)) (value_asked (calls.point_at at.item k.served).stage) c at.gives in
    let gives = given_some (same_number point own && same_words (words_of value) (words_of of.item)) (calls.after_direct_start at.item k.served) c of.gives in
    subst (Same k.served) gives.same (direct_same at.item k.served)
server_same k None point value c (Some most) leads =
    let of = then_some (λ (r : Request). given (same_number point (slice_get k.points r.point) && same_words (words_of value) (words_of r.value)) (calls.after_start k.served)) (calls.starting k.served) c leads in
    let gives = given_some (same_number point (slice_get k.points of.item.point) && same_words (words_of value) (words_of of.item.value)) (calls.after_start k.served) c of.gives in
    subst (Same k.served) gives.same (start_same k.served)
server_same k (Some q) point value c (Some most) leads = absurd (cc leads)

start_led_same : (k : Kept) (own : Option ℕ) (event : ℕ) (point : Option ℕ) (value : Value) (c : calls.Kept) → lead_of_start k own event point value ≡ Some c → Same k.served c
start_led_same k own event point value c leads = by_event (event == k.event) leads
  where
    by_event : (b : Bool) → (if b then started_server k.served.queue k own point value else started_return k.served (awaited_at k event)) ≡ Some c → Same k.served c
    by_event true gave = server_same k own point value c k.served.queue gave
    by_event false gave =
        let at = then_some (λ i. given (calls.point_at i k.served).due (calls.after_return_start i k.served)) (awaited_at k event) c gave in
        let gives = given_some (calls.point_at at.item k.served).due (calls.after_return_start at.item k.served) c at.gives in
        subst (Same k.served) gives.same (return_start_same at.item k.served)

led_same : (k : Kept) (d : Deed) (a : Actor) (c : calls.Kept) → lead_of_server k d a ≡ Some c → Same k.served c
led_same k (deed.Ask q value code) a c leads =
    let at = then_some (λ i. given (code == calls.answer_to_ask i k.served) (calls.after_ask i value k.served)) (place q k.points) c leads in
    let gives = given_some (code == calls.answer_to_ask at.item k.served) (calls.after_ask at.item value k.served) c at.gives in
    subst (Same k.served) gives.same (ask_same at.item value k.served)
led_same k (deed.Answer q code value) a c leads =
    let at = then_some (λ i. given (is_outcome code value (outcome_in (calls.point_at i k.served).stage)) (calls.after_answer i k.served)) (place q k.points) c leads in
    let gives = given_some (is_outcome code value (outcome_in (calls.point_at at.item k.served).stage)) (calls.after_answer at.item k.served) c at.gives in
    subst (Same k.served) gives.same (answer_same at.item k.served)
led_same k (deed.TakeResult q code value) a c leads =
    let at = then_some (λ i. given (is_result code value (outcome_in (calls.point_at i k.served).stage)) (calls.after_answer i k.served)) (place q k.points) c leads in
    let gives = given_some (is_result code value (outcome_in (calls.point_at at.item k.served).stage)) (calls.after_answer at.item k.served) c at.gives in
    subst (Same k.served) gives.same (answer_same at.item k.served)
led_same k (deed.Return code value) a c leads =
    let at = then_some (λ i. given (is_started (calls.point_at i k.served).stage) (calls.after_reply i (record { code = code; value = value }) k.served)) (serving_of k a) c leads in
    let gives = given_some (is_started (calls.point_at at.item k.served).stage) (calls.after_reply at.item (record { code = code; value = value }) k.served) c at.gives in
    subst (Same k.served) gives.same (reply_same at.item (record { code = code; value = value }) k.served)
led_same k (deed.Start event point value) (Act key) c leads = start_led_same k key.point event point value c leads
led_same k (deed.Start event point value) Env c leads = absurd (cc leads)
led_same k (deed.Start event point value) (Machine n) c leads = absurd (cc leads)
led_same k d a c leads = absurd (cc leads)

pub stays_planned : (p : Plan) (object : ℕ) (old new : Kept) (d : Deed) (a : Actor) → IsOfPlan p object old → lead_of_server old d a ≡ Some new.served → new ≡ with_served old new.served → IsOfPlan p object new
stays_planned p object old new d a planned leads kept =
    let same = led_same old d a new.served leads in
    subst (IsOfPlan p object) (sym kept) (record {
      is_server = planned.is_server;
      points = planned.points;
      event = planned.event;
      returns = planned.returns;
      awaited = planned.awaited;
      queue = same.queue ∙ planned.queue;
      many = same.many ∙ planned.many;
    })
