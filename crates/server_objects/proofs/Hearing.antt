-- An Answer comes by a Return to its own point, and by nothing else.
use Rattle.std.proofs.Common.{◌≡◌, ◌⊎◌, inl, inr, ℕ, ◌==◌, ◌&&◌, Bool, true, false, if◌then◌else◌, refl, sym, ◌∙◌, ap, subst, List, get_or, set, Option, Some, None, is_some}
use Rattle.std.specs.Prelude.{option_and_then}
use Rattle.bus_semantics.specs.Common.{slice_get, cases_eq, eq-eqb, false≢true, get_or-set_other, Value, words_of, same_words, same_number, same_words-Decides}
use Rattle.bus_semantics.specs.declared.entries.Actor.{Actor}
use Rattle.bus_semantics.specs.declared.entries.Deed.{Deed}
use Rattle.bus_semantics.specs.declared.entries.Deed.TheVariants as deed
use Rattle.client_server.specs.declared.point.Point.{Point}
use Rattle.client_server.specs.declared.point.Outcome.{Outcome}
use Rattle.client_server.specs.declared.point.Stage.TheVariants.{Asked, Returned}
use Rattle.client_server.specs.Kept as calls
use Rattle.client_server.specs.Points.{is_started, new_point, outcome_in}
use Rattle.object_kinds.specs.Common.{given, place}
use Rattle.object_kinds.proofs.Options.{given_some, then_some}
use Rattle.object_kinds.proofs.Placing.{place_at}
use Rattle.server_objects.specs.Kept.{Kept, ServerState, is_returned_at, may_hear}
use Rattle.server_objects.specs.Leading.{is_outcome, heard_at, serving_of, lead_of_server, heard_by, with_served}
use Rattle.server_objects.proofs.Starting.{hushed, server_quiet}

ask_hushes : (k : calls.Kept) (i : ℕ) (value : Value) (at : Option ℕ) → is_returned_at k at ≡ false → is_returned_at (calls.after_ask i value k) at ≡ false
ask_hushes k i value at off = by_test (calls.accepts i k) refl
  where
    by_test : (b : Bool) → calls.accepts i k ≡ b → is_returned_at (calls.after_ask i value k) at ≡ false
    by_test true is = ap (λ b. is_returned_at (if b then calls.with_request i value k else k) at) is ∙ hushed k (calls.with_request i value k) i (Asked value) refl refl at off
    by_test false is = ap (λ b. is_returned_at (if b then calls.with_request i value k else k) at) is ∙ off

return_heard : (k : Kept) (i code : ℕ) (value : Value) (c : calls.Kept) → given (is_started (calls.point_at i k.served).stage) (calls.after_reply i (record { code = code; value = value }) k.served) ≡ Some c
    → (q : ℕ) → may_hear k q ≡ false → may_hear (with_served k c) q ≡ true → slice_get k.points i ≡ Some q
return_heard k i code value c gave q off on = of_place (place q k.points) refl off on
  where
    x : Point
    x = record { stage = Returned (record { code = code; value = value }); due = true }

    points : c.points ≡ set k.served.points i (record { stage = Returned (record { code = code; value = value }); due = true })
    points = let gives = given_some (is_started (calls.point_at i k.served).stage) (calls.after_reply i (record { code = code; value = value }) k.served) c gave in ap (λ (z : calls.Kept). z.points) (sym gives.same ∙ made gives.holds)
      where
        made : is_started (calls.point_at i k.served).stage ≡ true → calls.after_reply i (record { code = code; value = value }) k.served ≡ record {
          queue = k.served.queue;
          waiting = k.served.waiting;
          serving = if same_number k.served.serving (Some i) then None else k.served.serving;
          points = set k.served.points i (record { stage = Returned (record { code = code; value = value }); due = true });
        }
        made started = rw started refl

    of_place : (at : Option ℕ) → place q k.points ≡ at → is_returned_at k.served at ≡ false → is_returned_at c at ≡ true → slice_get k.points i ≡ Some q
    of_place None there off on = absurd (false≢true on)
    of_place (Some j) there off on = by_test (cases_eq j i)
      where
        by_test : (j ≡ i) ⊎ (j ≡ i → ⊥) → slice_get k.points i ≡ Some q
        by_test (inl same) = ap (slice_get k.points) (sym same) ∙ place_at q k.points j there
        by_test (inr other) =
            let left : is_returned_at c (Some j) ≡ is_returned_at k.served (Some j) =
            ap (λ (ts : List Point). is_some (outcome_in (get_or ts j new_point).stage)) points ∙ ap (λ (t : Point). is_some (outcome_in t.stage)) (get_or-set_other k.served.points i j (record { stage = Returned (record { code = code; value = value }); due = true }) new_point other) in
            absurd (false≢true (sym off ∙ sym left ∙ on))

-- what came to be heard was returned by the entry
pub heard_comes : (s : ServerState) (d : Deed) (a : Actor) (c : calls.Kept) → lead_of_server s.kept d a ≡ Some c → (q : ℕ) → may_hear s.kept q ≡ false → may_hear (with_served s.kept c) q ≡ true → heard_by s d a ≡ Some q
heard_comes s (deed.Return code value) a c leads q off on =
    let at = then_some (λ i. given (is_started (calls.point_at i s.kept.served).stage) (calls.after_reply i (record { code = code; value = value }) s.kept.served)) (serving_of s.kept a) c leads in
    ap (option_and_then (λ i. slice_get s.kept.points i)) at.is ∙ return_heard s.kept at.item code value c at.gives q off on
heard_comes s (deed.Ask r value code) a c leads q off on =
    let at = then_some (λ i. given (code == calls.answer_to_ask i s.kept.served) (calls.after_ask i value s.kept.served)) (place r s.kept.points) c leads in
    let gives = given_some (code == calls.answer_to_ask at.item s.kept.served) (calls.after_ask at.item value s.kept.served) c at.gives in
    absurd (false≢true (sym (subst (λ z. is_returned_at z (place q s.kept.points) ≡ false) gives.same (ask_hushes s.kept.served at.item value (place q s.kept.points) off)) ∙ on))
heard_comes s (deed.Answer r code value) a c leads q off on = absurd (false≢true (sym ((server_quiet s.kept (deed.Answer r code value) a c leads refl).hush (place q s.kept.points) off) ∙ on))
heard_comes s (deed.TakeResult r code value) a c leads q off on = absurd (false≢true (sym ((server_quiet s.kept (deed.TakeResult r code value) a c leads refl).hush (place q s.kept.points) off) ∙ on))
heard_comes s (deed.Start event point value) a c leads q off on = absurd (false≢true (sym ((server_quiet s.kept (deed.Start event point value) a c leads refl).hush (place q s.kept.points) off) ∙ on))
heard_comes s d a c leads q off on = absurd (cc leads)

-- ---- an Answer goes by whether something was returned

pub none_heard_by : (c : calls.Kept) (at : Option ℕ) (code : ℕ) (value : Value) → is_returned_at c at ≡ false → heard_at code value c at ≡ None
none_heard_by c None code value off = refl
none_heard_by c (Some i) code value off = of_outcome (outcome_in (calls.point_at i c).stage) off
  where
    of_outcome : (o : Option Outcome) → is_some o ≡ false → given (is_outcome code value o) (calls.after_answer i c) ≡ None
    of_outcome None off = refl
    of_outcome (Some o) off = absurd (false≢true (sym off))

pub record IsHeard (k : Kept) (a : Actor) (q : ℕ) : Type 0 where
  pub code : ℕ
  pub value : Value
  pub after : calls.Kept
  pub leads : lead_of_server k (deed.Answer q code value) a ≡ Some after

pub may_be_heard : (k : Kept) (a : Actor) (q : ℕ) → may_hear k q ≡ true → IsHeard k a q
may_be_heard k a q on = of_place (place q k.points) refl on
  where
    of_place : (at : Option ℕ) → place q k.points ≡ at → is_returned_at k.served at ≡ true → IsHeard k a q
    of_place None there on = absurd (false≢true on)
    of_place (Some i) there on = of_outcome (outcome_in (calls.point_at i k.served).stage) refl on
      where
        of_outcome : (o : Option Outcome) → outcome_in (calls.point_at i k.served).stage ≡ o → is_some o ≡ true → IsHeard k a q
        of_outcome None is on = absurd (false≢true on)
        of_outcome (Some o) is on =
            let same : same_words (words_of o.value) (words_of o.value) ≡ true = (same_words-Decides (words_of o.value) (words_of o.value)).1 refl in
            let test : is_outcome o.code o.value (Some o) ≡ true = λ t. eq-eqb o.code o.code refl t && same t in
            record {
              code = o.code;
              value = o.value;
              after = calls.after_answer i k.served;
              leads = ap (heard_at o.code o.value k.served) there ∙ ap (λ x. given (is_outcome o.code o.value x) (calls.after_answer i k.served)) is ∙ ap (λ b. given b (calls.after_answer i k.served)) test;
            }
