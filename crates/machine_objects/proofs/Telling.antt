-- What a phase and an end tell is exactly what they made pending.
use Rattle.std.proofs.Common.{◌≡◌, ◌⊎◌, inl, inr, ℕ, zero, suc, Bool, true, false, refl, sym, ◌∙◌, ap, List, [], ◌∷◌, Option, Some, None}
use Rattle.std.specs.Prelude.{is_none}
use Rattle.bus_semantics.specs.Common.{Contains, list_all, slice_get, slice_index_or, false≢true}
use Rattle.bus_semantics.specs.declared.entries.Deed.{Deed}
use Rattle.mode_machine.specs.Kept as machines
use Rattle.mode_machine.specs.Owed as owed
use Rattle.object_kinds.specs.Common.{place, is_set, is_rising}
use Rattle.object_kinds.proofs.Lists.{all_at}
use Rattle.object_kinds.proofs.Options.{clash}
use Rattle.object_kinds.proofs.Placing.{place_at}
use Rattle.object_kinds.proofs.Rising.{place_here}
use Rattle.machine_objects.specs.Acting.{Tells}
use Rattle.machine_objects.specs.Kept.{MachineState, may_start_at, may_start}
use Rattle.machine_objects.specs.Leading.{wakes}

-- a machine by its parts
abbrev pub state : (events acks disabled : List ℕ) → machines.Kept → (woken : List ℕ) → MachineState
state events acks disabled k woken = record { kept = record { owed = events; acks = acks; disabled = disabled; machine = k }; woken = woken }

-- a flag by place
pub set_is : (flags : List Bool) (i : ℕ) → is_set flags i ≡ slice_index_or flags i false
set_is [] i = refl
set_is (b ∷ flags) zero = refl
set_is (b ∷ flags) (suc i) = set_is flags i

-- no event is both a switch and an acknowledgement event
pub none_acked : (events acks : List ℕ) (e i : ℕ) → list_all (λ f. is_none (place f acks)) events ≡ true → place e events ≡ Some i → place e acks ≡ None
none_acked events acks e i apart at = by_place (place e acks) refl
  where
    by_place : (o : Option ℕ) → place e acks ≡ o → place e acks ≡ None
    by_place None none = none
    by_place (Some j) there = absurd (false≢true (ap is_none (sym there) ∙ all_at (λ f. is_none (place f acks)) events i e apart (place_at e events i at)))

pub none_owed : (events acks : List ℕ) (e i : ℕ) → list_all (λ f. is_none (place f acks)) events ≡ true → place e acks ≡ Some i → place e events ≡ None
none_owed events acks e i apart at = by_place (place e events) refl
  where
    by_place : (o : Option ℕ) → place e events ≡ o → place e events ≡ None
    by_place None none = none
    by_place (Some j) there = absurd (false≢true (ap is_none (sym at) ∙ all_at (λ f. is_none (place f acks)) events j e apart (place_at e events j there)))

-- each event has its number in the plan as its name
module _ (events acks disabled names ack_names : List ℕ) (k new : machines.Kept) (before woken : List ℕ) (up : is_rising events ≡ true) (acks_up : is_rising acks ≡ true) (apart : list_all (λ f. is_none (place f acks)) events ≡ true)
    (named : names ≡ events) (acks_named : ack_names ≡ acks)
    (owed_told : (event name : ℕ) → owed.may_start (machines.owed_at event k) ≡ false → owed.may_start (machines.owed_at event new) ≡ true → slice_get names event ≡ Some name → Contains woken name)
    (acks_told : (event name : ℕ) → machines.is_acked event k ≡ false → machines.is_acked event new ≡ true → slice_get ack_names event ≡ Some name → Contains woken name)
    (only : (name : ℕ) → Contains woken name → machines.IsStartable names k new name ⊎ machines.IsAcknowledged ack_names k new name) where
  came : (event : ℕ) → may_start_at k (place event events) (place event acks) ≡ false → may_start_at new (place event events) (place event acks) ≡ true → Contains woken event
  came event off on = by_places (place event events) (place event acks) refl refl off on
    where
      by_places : (o r : Option ℕ) → place event events ≡ o → place event acks ≡ r → may_start_at k o r ≡ false → may_start_at new o r ≡ true → Contains woken event
      by_places (Some i) r at other was now = owed_told i event was now (ap (λ xs. slice_get xs i) named ∙ place_at event events i at)
      by_places None (Some i) none at was now = acks_told i event (sym (set_is k.acks i) ∙ was) (sym (set_is new.acks i) ∙ now) (ap (λ xs. slice_get xs i) acks_named ∙ place_at event acks i at)
      by_places None None none other was now = absurd (false≢true now)

  made : (event : ℕ) → Contains woken event → (may_start_at k (place event events) (place event acks) ≡ false) × (may_start_at new (place event events) (place event acks) ≡ true)
  made event among = elim (only event among) [
    | inl of ↦ of_switch of
    | inr of ↦ of_ack of
  ]
    where
      of_switch : machines.IsStartable names k new event → (may_start_at k (place event events) (place event acks) ≡ false) × (may_start_at new (place event events) (place event acks) ≡ true)
      of_switch of =
          let there : place event events ≡ Some of.event = place_here events of.event event up (sym (ap (λ xs. slice_get xs of.event) named) ∙ of.named) in
          (ap (λ o. may_start_at k o (place event acks)) there ∙ of.was, ap (λ o. may_start_at new o (place event acks)) there ∙ of.is)

      of_ack : machines.IsAcknowledged ack_names k new event → (may_start_at k (place event events) (place event acks) ≡ false) × (may_start_at new (place event events) (place event acks) ≡ true)
      of_ack of =
          let there : place event acks ≡ Some of.event = place_here acks of.event event acks_up (sym (ap (λ xs. slice_get xs of.event) acks_named) ∙ of.named) in
          let none = none_owed events acks event of.event apart there in
          ((λ i. may_start_at k (none i) (there i)) ∙ set_is k.acks of.event ∙ of.was, (λ i. may_start_at new (none i) (there i)) ∙ set_is new.acks of.event ∙ of.is)

  pub phase_tells : (d : Deed) → wakes d ≡ true → Tells (state events acks disabled k before) (state events acks disabled new woken) d
  phase_tells d is = record { came = came; only = λ yes event among. made event among; left = λ not. clash (wakes d) is not }

-- a deed that wakes nothing and leaves what was told
pub none_tells : (old new : MachineState) (d : Deed) → wakes d ≡ false → new.woken ≡ old.woken → ((event : ℕ) → may_start old.kept event ≡ false → may_start new.kept event ≡ false) → Tells old new d
none_tells old new d is same off = record {
  came = λ event was now. clash (may_start new.kept event) now (off event was);
  only = λ yes. clash (wakes d) yes is;
  left = λ not. same;
}
