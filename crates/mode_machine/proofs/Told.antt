-- Names that are told one after the other: those of the places that pass, and no others.
use Rattle.std.proofs.Common.{◌≡◌, ◌<◌, ◌≤◌, ◌+◌, ◌&&◌, ℕ, not, replicate, if◌then◌else◌, refl, sym, ◌∙◌, ap, subst, arith, Bool, true, false, List, length, Some, ◌⊎◌, inl, inr, Contains}
use Rattle.std.specs.List.{slice_get, slice_index_or}
use Rattle.std.proofs.lemmas.List.{get_or-map, get_or-replicate}
use Rattle.std.proofs.lemmas.Bool.{and_parts, cases_lt, false≢true, not-true}
use Rattle.std.proofs.lemmas.Option.{same_Some, slice_get_within}
use Rattle.rte_value.specs.declared.kinds.Step.{Step}
use Rattle.mode_machine.specs.declared.owed.OwedEvent.{OwedEvent}
use Rattle.mode_machine.specs.Kept.{IsAcknowledged, IsStartable, Kept, acks_after, after_step, is_acked, is_stable, next_after, owed_at}
use Rattle.mode_machine.specs.Owed.{IsNamed, idle_event, is_woken, may_start, owed_by}

-- each of the first places that passes is told
abbrev pub TellsBelow : (names : List ℕ) (test : ℕ → Bool) (at : ℕ) (told : List ℕ) → Type 0
TellsBelow names test at told = (k name : ℕ) → k < at → test k ≡ true → slice_get names k ≡ Some name → Contains told name

-- what is told beside what there was at first are names of places that pass
abbrev pub TellsOnly : (names : List ℕ) (test : ℕ → Bool) (first told : List ℕ) → Type 0
TellsOnly names test first told = (name : ℕ) → Contains told name → Contains first name ⊎ IsNamed names test name

module _ (names : List ℕ) (test : ℕ → Bool) where
  pub tells_next : (at x : ℕ) (told more : List ℕ) → slice_get names at ≡ Some x → (test at ≡ true → Contains more x) → ((name : ℕ) → Contains told name → Contains more name) → TellsBelow names test at told → TellsBelow names test (at + 1) more
  tells_next at x told more there tells kept before k name below passes named = of_place (cases_lt k at)
    where
      of_place : (k < at) ⊎ (at ≤ k) → Contains more name
      of_place (inl earlier) = kept name (before k name earlier passes named)
      of_place (inr past) =
          let same : k ≡ at = omega arith in
          let is : x ≡ name = same_Some x name (sym there ∙ ap (slice_get names) (sym same) ∙ named) in
          subst (Contains more) is (tells (ap test (sym same) ∙ passes))

  -- no place passes that one goes past
  pub tells_past : (at to : ℕ) (told : List ℕ) → ((k : ℕ) → at ≤ k → k < to → test k ≡ false) → TellsBelow names test at told → TellsBelow names test to told
  tells_past at to told fails before k name below passes named = elim (cases_lt k at) [
    | inl earlier ↦ before k name earlier passes named
    | inr past ↦ absurd (false≢true (sym (fails k past below) ∙ passes))
  ]

  pub only_next : (at x : ℕ) (first told more : List ℕ) → slice_get names at ≡ Some x → ((name : ℕ) → Contains more name → Contains told name ⊎ ((test at ≡ true) × (x ≡ name))) → TellsOnly names test first told → TellsOnly names test first more
  only_next at x first told more there added before name among = of_now (added name among)
    where
      of_now : Contains told name ⊎ ((test at ≡ true) × (x ≡ name)) → Contains first name ⊎ IsNamed names test name
      of_now (inl earlier) = before name earlier
      of_now (inr now) = inr (record { place = at; named = there ∙ ap (λ n. Some n) now.1; passes = now.0 })

  pub all_told : (at : ℕ) (told : List ℕ) → length names ≤ at → TellsBelow names test at told → (k name : ℕ) → test k ≡ true → slice_get names k ≡ Some name → Contains told name
  all_told at told past before k name passes named = let within = slice_get_within names k name named in before k name (omega arith) passes named

-- ---- what a phase makes pending

module _ (k : Kept) (s : Step) where
  owed_then : (event : ℕ) → event < length k.owed → owed_at event (after_step s k) ≡ owed_by s k.settled (next_after s k) (owed_at event k)
  owed_then event within = get_or-map (owed_by s k.settled (next_after s k)) k.owed event idle_event idle_event within

  acks_then : (is_stable s && k.was_stable) ≡ true → acks_after s k ≡ replicate (length k.acks) true
  acks_then = by_flags (is_stable s) k.was_stable
    where
      by_flags : (a b : Bool) → (a && b) ≡ true → (if a then (if b then replicate (length k.acks) true else k.acks) else k.acks) ≡ replicate (length k.acks) true
      by_flags true true on = refl
      by_flags true false on = absurd (false≢true on)
      by_flags false b on = absurd (false≢true on)

  acks_stay : (is_stable s && k.was_stable) ≡ false → acks_after s k ≡ k.acks
  acks_stay = by_flags (is_stable s) k.was_stable
    where
      by_flags : (a b : Bool) → (a && b) ≡ false → (if a then (if b then replicate (length k.acks) true else k.acks) else k.acks) ≡ k.acks
      by_flags true true off = absurd (false≢true (sym off))
      by_flags true false off = refl
      by_flags false b off = refl

  module _ (events : List OwedEvent) (settled next : ℕ) (owed_is : events ≡ k.owed) (settled_is : settled ≡ k.settled) (next_is : next ≡ next_after s k) where
    same_test : (event : ℕ) → is_woken s settled next (slice_index_or events event idle_event) ≡ is_woken s k.settled (next_after s k) (owed_at event k)
    same_test event = λ i. is_woken s (settled_is i) (next_is i) (slice_index_or (owed_is i) event idle_event)

    pub is_startable : (event : ℕ) → event < length k.owed → may_start (owed_at event k) ≡ false → may_start (owed_at event (after_step s k)) ≡ true → is_woken s settled next (slice_index_or events event idle_event) ≡ true
    is_startable event within was is = same_test event ∙ (λ i. not (was i) && (ap may_start (sym (owed_then event within)) ∙ is) i)

    pub startable : (names : List ℕ) (name : ℕ) → length names ≡ length k.owed → IsNamed names (λ at. is_woken s settled next (slice_index_or events at idle_event)) name → IsStartable names k (after_step s k) name
    startable names name as_many n =
        let there = slice_get_within names n.place name n.named in
        let within : n.place < length k.owed = omega arith in
        let parts = and_parts (not (may_start (owed_at n.place k))) (may_start (owed_by s k.settled (next_after s k) (owed_at n.place k))) (sym (same_test n.place) ∙ n.passes) in
        record { event = n.place; named = n.named; was = not-true (may_start (owed_at n.place k)) parts.0; is = ap may_start (owed_then n.place within) ∙ parts.1 }

  pub acknowledged : (is_stable s && k.was_stable) ≡ true → (acks : List Bool) → acks ≡ k.acks → (names : List ℕ) (name : ℕ) → length names ≡ length k.acks → IsNamed names (λ at. not (slice_index_or acks at false)) name
      → IsAcknowledged names k (after_step s k) name
  acknowledged on acks acks_is names name as_many n =
      let there = slice_get_within names n.place name n.named in
      let within : n.place < length k.acks = omega arith in
      record {
        event = n.place;
        named = n.named;
        was = ap (λ xs. slice_index_or xs n.place false) (sym acks_is) ∙ not-true (slice_index_or acks n.place false) n.passes;
        is = ap (λ xs. slice_index_or xs n.place false) (acks_then on) ∙ get_or-replicate (length k.acks) n.place true false within;
      }

  -- and no acknowledgement event becomes pending by another phase
  pub none_acknowledged : {X : Type 0} → (is_stable s && k.was_stable) ≡ false → (event : ℕ) → is_acked event k ≡ false → is_acked event (after_step s k) ≡ true → X
  none_acknowledged off event was is = absurd (false≢true (sym was ∙ ap (λ xs. slice_index_or xs event false) (sym (acks_stay off)) ∙ is))
