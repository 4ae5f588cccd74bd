-- What an end makes of a machine, and what it tells.
use Rattle.std.proofs.Common.{◌≡◌, ◌<◌, ℕ, zero, suc, Bool, true, false, not, ◌&&◌, ◌==◌, if◌then◌else◌, refl, sym, ◌∙◌, ap, subst, arith, List, [], ◌∷◌, length, set, Option, Some, None}
use Rattle.bus_semantics.specs.Common.{Contains, slice_get, slice_index_or, eq-eqb, eqb-true, false≢true, same_Some, slice_get-get_or}
use Rattle.std.proofs.Math.Bool.{and-false}
use Rattle.mode_machine.specs.declared.owed.OwedEvent.{OwedEvent}
use Rattle.mode_machine.specs.Kept as machines
use Rattle.mode_machine.specs.Owed as owed
use Rattle.object_kinds.specs.Common.{place, given, is_pending}
use Rattle.object_kinds.proofs.Lists.{set_same}
use Rattle.object_kinds.proofs.Options.{clash}
use Rattle.object_kinds.proofs.Placing.{place_at}
use Rattle.machine_objects.specs.Acting.{IsEnded}
use Rattle.machine_objects.specs.Kept.{may_start_at}
use Rattle.machine_objects.specs.Leading.{ended_at}
use Rattle.machine_objects.proofs.Telling.{state}

-- nothing is told
none_among : {X : Type 0} (event : ℕ) → Contains [] event → X
none_among event among = let within = among.1 in absurd (omega arith)

one_among : (e event : ℕ) → Contains (e ∷ []) event → e ≡ event
one_among e event (zero, within, is) = is
one_among e event (suc i, within, is) = absurd (omega arith)

-- ---- another event stays

other_stays : (os : List OwedEvent) (i j : ℕ) (o : OwedEvent) → (i == j) ≡ false → slice_index_or (set os i o) j owed.idle_event ≡ slice_index_or os j owed.idle_event
other_stays [] i j o off = refl
other_stays (x ∷ os) zero zero o off = absurd (false≢true (sym off ∙ eq-eqb 0 0 refl))
other_stays (x ∷ os) zero (suc j) o off = refl
other_stays (x ∷ os) (suc i) zero o off = refl
other_stays (x ∷ os) (suc i) (suc j) o off = other_stays os i j o (by_test (i == j) refl)
  where
    by_test : (b : Bool) → (i == j) ≡ b → (i == j) ≡ false
    by_test true same = clash (suc i == suc j) (eq-eqb (suc i) (suc j) (ap (λ n. suc n) (eqb-true i j same))) off
    by_test false same = same

module _ (events acks disabled woken : List ℕ) (k : machines.Kept) where
  -- ---- by a SwcModeSwitchEvent

  module _ (e i : ℕ) (there : place e events ≡ Some i) (none : place e acks ≡ None) (new : machines.Kept) (next : new ≡ machines.after_owed i owed.after_end k) where
    pub owed_ended : (told : List ℕ) (due : Bool) → true ≡ (machines.owed_at i k).running → due ≡ owed.may_start (machines.owed_at i new) → told ≡ (if due then e ∷ [] else [])
        → IsEnded true (state events acks disabled k woken) (state events acks disabled new told) (ended_at k (Some i) None)
    owed_ended told due runs is tells = (
      ap (λ b. given b (machines.after_owed i owed.after_end k)) (sym runs) ∙ ap (λ z. Some z) (sym next),
      refl,
      record { came = came; only = λ yes event among. made due is (subst (λ xs. Contains xs event) tells among); left = λ quiet. absurd (false≢true (sym quiet)) },
    )
      where
        -- the event that ended could not start before
        was : owed.may_start (machines.owed_at i k) ≡ false
        was = ap (λ b. (machines.owed_at i k).due && not b) (sym runs) ∙ and-false (machines.owed_at i k).due

        told_if : (b : Bool) → due ≡ b → b ≡ true → Contains told e
        told_if true on always = subst (λ xs. Contains xs e) (sym (tells ∙ ap (λ b. if b then e ∷ [] else []) on)) (0, omega arith, refl)
        told_if false on never = absurd (false≢true never)

        came : (event : ℕ) → may_start_at k (place event events) (place event acks) ≡ false → may_start_at new (place event events) (place event acks) ≡ true → Contains told event
        came event off on = by_places (place event events) (place event acks) refl off on
          where
            by_same : (j : ℕ) → place event events ≡ Some j → (b : Bool) → (i == j) ≡ b → owed.may_start (machines.owed_at j k) ≡ false → owed.may_start (machines.owed_at j new) ≡ true → Contains told event
            by_same j at true same before now =
                let here : i ≡ j = eqb-true i j same in
                let event_is : e ≡ event = same_Some e event (sym (place_at e events i there) ∙ ap (slice_get events) here ∙ place_at event events j at) in
                subst (Contains told) event_is (told_if due refl (is ∙ ap (λ z. owed.may_start (machines.owed_at z new)) here ∙ now))
            by_same j at false other before now =
                let stays : machines.owed_at j new ≡ machines.owed_at j k = ap (λ (z : machines.Kept). machines.owed_at j z) next ∙ other_stays k.owed i j (owed.after_end (machines.owed_at i k)) other in
                clash (owed.may_start (machines.owed_at j k)) (ap owed.may_start (sym stays) ∙ now) before

            by_places : (o r : Option ℕ) → place event events ≡ o → may_start_at k o r ≡ false → may_start_at new o r ≡ true → Contains told event
            by_places (Some j) r at before now = by_same j at (i == j) refl before now
            by_places None r at before now = clash (is_pending k.acks r) (ap (λ (z : machines.Kept). is_pending z.acks r) (sym next) ∙ now) before

        made : {event : ℕ} (b : Bool) → b ≡ owed.may_start (machines.owed_at i new) → Contains (if b then e ∷ [] else []) event
            → (may_start_at k (place event events) (place event acks) ≡ false) × (may_start_at new (place event events) (place event acks) ≡ true)
        made {event} true now among =
            let event_is : e ≡ event = one_among e event among in
            subst (λ z. (may_start_at k (place z events) (place z acks) ≡ false) × (may_start_at new (place z events) (place z acks) ≡ true)) event_is
            (ap (λ o. may_start_at k o (place e acks)) there ∙ was, ap (λ o. may_start_at new o (place e acks)) there ∙ sym now)
        made {event} false now among = none_among event among

    pub owed_not_ended : false ≡ (machines.owed_at i k).running → i < length k.owed → IsEnded false (state events acks disabled k woken) (state events acks disabled new woken) (ended_at k (Some i) None)
    owed_not_ended rests within = (
      ap (λ b. given b (machines.after_owed i owed.after_end k)) (sym rests),
      ap (λ z. state events acks disabled z woken) (next
          ∙ ap (λ o. machines.with_owed (set k.owed i o) k) (ap (λ b. if b then record { moment = (machines.owed_at i k).moment; due = (machines.owed_at i k).due; running = false; begun = (machines.owed_at i k).begun; left = (machines.owed_at i k).left && not (machines.owed_at i k).begun } else machines.owed_at i k) (sym rests))
          ∙ ap (λ os. machines.with_owed os k) (set_same k.owed i (machines.owed_at i k) (slice_get-get_or k.owed i owed.idle_event within))),
    )

  -- ---- by an event that the machine disables

  pub disabled_ended : (d : ℕ) (o : Option ℕ) (new : machines.Kept) → o ≡ Some d → true ≡ (machines.dependency_at d k).admitted → new ≡ machines.after_end_admitted d k
      → IsEnded true (state events acks disabled k woken) (state events acks disabled new []) (ended_at k None o)
  disabled_ended d o new at runs next = (
    ap (ended_at k None) at ∙ ap (λ b. given b (machines.after_end_admitted d k)) (sym runs) ∙ ap (λ z. Some z) (sym next),
    refl,
    record { came = λ event off on. clash (may_start_at k (place event events) (place event acks)) (same (place event events) (place event acks) ∙ on) off; only = λ yes event among. none_among event among; left = λ quiet. absurd (false≢true (sym quiet)) },
  )
    where
      after : new ≡ machines.with_admitted d false k
      after = next ∙ ap (λ b. if b then machines.with_admitted d false k else k) (sym runs)

      same : (p r : Option ℕ) → may_start_at k p r ≡ may_start_at new p r
      same (Some i) r = ap (λ (z : machines.Kept). owed.may_start (machines.owed_at i z)) (sym after)
      same None r = ap (λ (z : machines.Kept). is_pending z.acks r) (sym after)

  pub disabled_not_ended : (d : ℕ) (o : Option ℕ) (new : machines.Kept) → o ≡ Some d → false ≡ (machines.dependency_at d k).admitted → new ≡ machines.after_end_admitted d k
      → IsEnded false (state events acks disabled k woken) (state events acks disabled new woken) (ended_at k None o)
  disabled_not_ended d o new at rests next = (
    ap (ended_at k None) at ∙ ap (λ b. given b (machines.after_end_admitted d k)) (sym rests),
    ap (λ z. state events acks disabled z woken) (next ∙ ap (λ b. if b then machines.with_admitted d false k else k) (sym rests)),
  )
