-- A walk through the events of a moment.
use Rattle.std.proofs.Common.{◌≡◌, ◌<◌, ◌≤◌, ◌+◌, ◌-◌, ℕ, suc, refl, sym, ◌∙◌, ap, arith, Bool, true, false, List, length, get_or, map, set, Option, Some, None, if◌then◌else◌, inl, inr}
use Rattle.std.specs.List.{slice_get, slice_index_or}
use Rattle.std.specs.Option.{option_map_or}
use Rattle.std.proofs.lemmas.Bool.{cases_order, false≢true}
use Rattle.std.proofs.lemmas.List.{get_or-map, get_or_read, length-map}
use Rattle.std.proofs.lemmas.Option.{none-some, same_Some}
use Rattle.rte_value.specs.declared.kinds.Step.{Step}
use Rattle.mode_machine.specs.Common.{AreChains, IsNext, is_at, occurs, idle_event, owed_by, event_at, if_at, is_left, moment_in, Chains, ModeEvent, OwedEvent}
use Rattle.mode_machine.proofs.Each.{all_done, next_done, not_yet, skipped, so_far}
use Rattle.mode_machine.proofs.Moments.{occurs_at, within_moments}
use Rattle.mode_machine.proofs.Nexts.{end_of, passed}

-- what one comes to passes
pub passes_there : (test : ℕ → Bool) (from : ℕ) (found : Option ℕ) → IsNext test from found → (event : ℕ) → found ≡ Some event → test event ≡ true
passes_there test from None none event is = absurd (none-some event is)
passes_there test from (Some at) first event is = ap test (sym (same_Some at event is)) ∙ first.passes

pub goes_on : (test : ℕ → Bool) (from count : ℕ) (found : Option ℕ) → from ≤ count → IsNext test from found → from ≤ end_of count found
goes_on test from count None less none = less
goes_on test from count (Some at) less first = first.behind

-- less is left to go through
pub goes_less : (test : ℕ → Bool) (event count : ℕ) (found : Option ℕ) → event < count → ((at : ℕ) → test at ≡ true → at < count) → IsNext test (event + 1) found → (count + 1) - end_of (count + 1) found < (count + 1) - event
goes_less test event count None within ends none = omega (arith, within)
goes_less test event count (Some at) within ends first = let behind = first.behind in omega (arith, within, behind, ends at first.passes)

module _ (moments : List ModeEvent) (chains : Chains) (are : AreChains moments chains) where
  none_occurs : (event : ℕ) → occurs moments None event ≡ false
  none_occurs event = by (slice_get moments event)
    where
      by : (o : Option ModeEvent) → option_map_or (λ (m : ModeEvent). false) o false ≡ false
      by None = refl
      by (Some m) = refl

  pub next_of : (at : Option ModeEvent) (event : ℕ) → occurs moments at event ≡ true → IsNext (occurs moments at) (event + 1) (slice_index_or chains.next.items event None)
  next_of None event on = absurd (false≢true (sym (none_occurs event) ∙ on))
  next_of (Some a) event on = are.next a event on

module _ (events : List OwedEvent) (at : Option ModeEvent) where
  here_is : (k : ℕ) → k < length events → occurs (map moment_in events) at k ≡ is_at at (event_at events k).moment
  here_is k within = let e = event_at events k in occurs_at (map moment_in events) at k e.moment (omega (arith, within, length-map events moment_in)) (sym (get_or-map moment_in events k idle_event e.moment within))

  pub inside : (k : ℕ) → occurs (map moment_in events) at k ≡ true → k < length events
  inside k on = omega (arith, within_moments (map moment_in events) at k on, length-map events moment_in)

  pub at_moment : (k : ℕ) → occurs (map moment_in events) at k ≡ true → is_at at (event_at events k).moment ≡ true
  at_moment k on = sym (here_is k (inside k on)) ∙ on

  -- and where one stands at the moment one comes to it
  pub occurs_here : (k : ℕ) → k < length events → is_at at (event_at events k).moment ≡ true → occurs (map moment_in events) at k ≡ true
  occurs_here k within on = here_is k within ∙ on

  pub end_within : (found : Option ℕ) → ((event : ℕ) → found ≡ Some event → occurs (map moment_in events) at event ≡ true) → end_of (length events) found ≤ length events
  end_within None here = omega arith
  end_within (Some event) here = let within = inside event (here event refl) in omega (arith, within)

  module _ (s : Step) (settled next : ℕ) where
    others_same : (k : ℕ) → k < length events → occurs (map moment_in events) at k ≡ false → if_at at (owed_by s settled next) (event_at events k) ≡ event_at events k
    others_same k within off = let e = event_at events k in ap (λ (b : Bool). if b then owed_by s settled next e else e) (sym (here_is k within) ∙ off)

    skips : (from : ℕ) (found : Option ℕ) → from ≤ length events → IsNext (occurs (map moment_in events) at) from found → so_far (if_at at (owed_by s settled next)) from events ≡ so_far (if_at at (owed_by s settled next)) (end_of (length events) found) events
    skips from found less is =
        let ends = end_within found (passes_there (occurs (map moment_in events) at) from found is) in
        skipped (if_at at (owed_by s settled next)) from (end_of (length events) found) events idle_event (goes_on (occurs (map moment_in events) at) from (length events) found less is) ends
        (λ k behind before. others_same k (omega (arith, before, ends)) (passed (occurs (map moment_in events) at) from (length events) found is k behind before))

    pub walk_begins : (first : Option ℕ) → IsNext (occurs (map moment_in events) at) 0 first → events ≡ so_far (if_at at (owed_by s settled next)) (end_of (length events) first) events
    walk_begins first is = skips 0 first (omega arith) is

    pub walk_ends : (found : Option ℕ) → found ≡ None → so_far (if_at at (owed_by s settled next)) (end_of (length events) found) events ≡ map (if_at at (owed_by s settled next)) events
    walk_ends found none = ap (λ o. so_far (if_at at (owed_by s settled next)) (end_of (length events) o) events) none ∙ all_done (if_at at (owed_by s settled next)) (length events) events (omega arith)

    pub walk_goes : (event : ℕ) (now : List OwedEvent) (x y : OwedEvent) (found : Option ℕ) → occurs (map moment_in events) at event ≡ true → now ≡ so_far (if_at at (owed_by s settled next)) event events → event < length now → x ≡ get_or now event x → y ≡ owed_by s settled next x
        → IsNext (occurs (map moment_in events) at) (event + 1) found → set now event y ≡ so_far (if_at at (owed_by s settled next)) (end_of (length events) found) events
    walk_goes event now x y found on done there read made is =
        let f = if_at at (owed_by s settled next) in
        let within = inside event on in
        let was : x ≡ event_at events event = get_or_read now event x there read idle_event ∙ ap (λ xs. get_or xs event idle_event) done ∙ not_yet f event events idle_event in
        let owed : owed_by s settled next x ≡ f x = sym (ap (λ (b : Bool). if b then owed_by s settled next x else x) (ap (λ (e : OwedEvent). is_at at e.moment) was ∙ at_moment event on)) in
        let more : suc event ≡ event + 1 = omega arith in
        ap (λ xs. set xs event y) done
        ∙ ap (set (so_far f event events) event) (made ∙ owed ∙ ap f (was ∙ sym (not_yet f event events idle_event)))
        ∙ next_done f event events idle_event within ∙ ap (λ n. so_far f n events) more
        ∙ skips (event + 1) found (omega (arith, within)) is

  -- none is left of those that one goes past
  pub none_left_yet : ((other : ℕ) → is_left events other ≡ true → is_at at (event_at events other).moment ≡ true) → (first : ℕ) (from : Option ℕ) (event : ℕ) (found : Option ℕ) → from ≡ Some event
      → ((place : ℕ) → first ≤ place → place < end_of (length events) from → is_left events place ≡ false) → is_left events event ≡ false → IsNext (occurs (map moment_in events) at) (event + 1) found
      → (place : ℕ) → first ≤ place → place < end_of (length events) found → is_left events place ≡ false
  none_left_yet owed first from event found is none off more place behind before = elim (cases_order place event) [
    | inl same ↦ ap (is_left events) same ∙ off
    | inr (inl early) ↦ none place behind (omega (arith, early, ap (end_of (length events)) is))
    | inr (inr late) ↦ by (is_left events place) refl (passed (occurs (map moment_in events) at) (event + 1) (length events) found more place (omega (arith, late)) before)
  ]
    where
      by : (b : Bool) → is_left events place ≡ b → occurs (map moment_in events) at place ≡ false → b ≡ false
      by true on out =
          let within : place < length events = omega (arith, before, end_within found (passes_there (occurs (map moment_in events) at) (event + 1) found more)) in
          absurd (false≢true (sym out ∙ occurs_here place within (owed place on)))
      by false on out = refl
