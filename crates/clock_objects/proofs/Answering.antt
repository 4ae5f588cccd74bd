-- What a start answers.
use Rattle.std.proofs.Common.{◌≡◌, ℕ, ℤ, true, false, refl, sym, ◌∙◌, ap, subst, List, [], Option, Some, None, is_some}
use Rattle.std.specs.Prelude.{option_map, unwrap_or}
use Rattle.bus_semantics.specs.Common.{list_all, false≢true, Value, words_of, Plan, kind_of, to_start, start_fits}
use Rattle.bus_semantics.specs.declared.plan.EventKind.{EventKind}
use Rattle.bus_semantics.specs.declared.entries.Actor.{Actor}
use Rattle.bus_semantics.specs.declared.entries.Deed.TheVariants as deed
use Rattle.object_kinds.specs.Common.{IsHeldBy, IsMadeBy, place}
use Rattle.object_kinds.proofs.Events.{events_all}
use Rattle.object_kinds.proofs.Lists.{all_at}
use Rattle.object_kinds.proofs.Placing.{place_at}
use Rattle.clock_objects.specs.Layout.{is_timing, is_init}
use Rattle.clock_objects.specs.Kept.{Kept, may_start}
use Rattle.clock_objects.specs.Leading.{after_start, lead, lead_of_start, with_clock}
use Rattle.clock_objects.specs.Plans.{IsOfPlan}
use Rattle.clock_objects.proofs.Starting.{not_pending, starts_by}
use Rattle.clock_objects.proofs.Timed.{Timed, at_init, at_time, of_init, of_period}

-- what starts is a TimingEvent or an InitEvent
started_timed : (p : Plan) (object : ℕ) (k : Kept) (event : ℕ) → IsOfPlan p object k → is_some (after_start k event) ≡ true → Timed (kind_of p event)
started_timed p object k event planned some = by_place (place event k.timings) (place event k.inits) refl refl some
  where
    by_place : (timing init : Option ℕ) → place event k.timings ≡ timing → place event k.inits ≡ init → is_some (option_map (with_clock k) (lead_of_start timing init k.clock)) ≡ true → Timed (kind_of p event)
    by_place (Some i) init there other gives =
        let timed = subst (λ es. list_all (λ f. is_timing (kind_of p f)) es ≡ true) (sym planned.timing) (events_all p is_timing) in
        let of = of_period (kind_of p event) (all_at (λ f. is_timing (kind_of p f)) k.timings i event timed (place_at event k.timings i there)) in
        at_time of.period of.kind
    by_place None (Some i) none there gives =
        let first = subst (λ es. list_all (λ f. is_init (kind_of p f)) es ≡ true) (sym planned.initial) (events_all p is_init) in
        at_init (of_init (kind_of p event) (all_at (λ f. is_init (kind_of p f)) k.inits i event first (place_at event k.inits i there)))
    by_place None None none nor gives = absurd (false≢true gives)

-- a start with no point and the empty value fits it
bare_fits : (p : Plan) (k : EventKind) (ws : List ℤ) → Timed k → ws ≡ [] → start_fits p k None ws ≡ true
bare_fits p k ws (at_time period is) empty = rw (is, empty) refl
bare_fits p k ws (at_init is) empty = rw (is, empty) refl

given_by : (o : Option Kept) (k : Kept) → is_some o ≡ true → o ≡ Some (unwrap_or o k)
given_by None k some = absurd (false≢true some)
given_by (Some x) k some = refl

pub start_made : (p : Plan) (object : ℕ) (k after : Kept) (a : Actor) (event : ℕ) (value : Value) → IsOfPlan p object k → true ≡ is_some (after_start k event) → after ≡ unwrap_or (after_start k event) k → words_of value ≡ []
    → IsMadeBy p lead a (to_start event) k after (record { actor = a; deed = deed.Start event None value })
start_made p object k after a event value planned some is empty = record {
  actor = refl;
  wish = refl;
  answer = bare_fits p (kind_of p event) (words_of value) (started_timed p object k event planned (sym some)) empty;
  leads = given_by (after_start k event) k (sym some) ∙ ap (λ x. Some x) (sym is);
}

pub start_held : (k after : Kept) (a : Actor) (event : ℕ) → false ≡ is_some (after_start k event) → after ≡ unwrap_or (after_start k event) k → (after ≡ k) × IsHeldBy lead may_start a (to_start event) k
start_held k after a event none is = (
  is ∙ ap (λ o. unwrap_or o k) gone,
  record {
    none = λ n actor wish. starts_by k n (unwrap_or n.event 0) event wish ∙ gone;
    flag = λ runnable other actor same. subst (λ e. may_start k e ≡ false) (event_in same) (not_pending k event gone);
  },
)
  where
    no_value : (o : Option Kept) → false ≡ is_some o → o ≡ None
    no_value None e = refl
    no_value (Some x) e = absurd (false≢true e)

    gone : after_start k event ≡ None
    gone = no_value (after_start k event) none

    event_in : {other : ℕ} → to_start event ≡ to_start other → event ≡ other
    event_in same = cc same
