-- What an entry that touches a machine names: the machine itself, a port of it, or an event that it starts or disables.
use Rattle.std.proofs.Common.{◌≡◌, ◌+◌, ℕ, Bool, true, false, not, ◌==◌, refl, sym, ◌∙◌, ap, arith, Option, Some, None}
use Rattle.bus_semantics.specs.Common.{eq-eqb, eqb-true, false≢true, Step, same_number, Plan, kind_of, machine_of_port, first_machine, machine_object, object_of_kind, disabler_of}
use Rattle.bus_semantics.specs.Common.{machine_of_event, touches}
use Rattle.bus_semantics.specs.declared.plan.EventKind.{EventKind}
use Rattle.bus_semantics.specs.declared.plan.EventKind.TheVariants.{ModeSwitch, Ack}
use Rattle.bus_semantics.specs.declared.plan.Moment.{Moment}
use Rattle.bus_semantics.specs.declared.entries.Actor.{Actor}
use Rattle.bus_semantics.specs.declared.entries.Actor.TheVariants.{Env, Machine, Act}
use Rattle.bus_semantics.specs.declared.entries.Deed.TheVariants as deed
use Rattle.object_kinds.proofs.Lists.{all_at}
use Rattle.object_kinds.proofs.Options.{clash}
use Rattle.object_kinds.proofs.Placing.{Placed, place_at}
use Rattle.object_kinds.proofs.Proper.{noting}
use Rattle.machine_objects.specs.Layout.{IsMachine, machine_of, waits_for_phase, waits_for_end, may_disable, disabled_events, starts_elsewhere}

-- two numbers that a test tells apart
pub differ : (t : ℕ → Bool) (e f : ℕ) → t e ≡ true → t f ≡ false → (e == f) ≡ false
differ t e f on off = by_test (e == f) refl
  where
    by_test : (b : Bool) → (e == f) ≡ b → (e == f) ≡ false
    by_test true same = clash (t e) on (ap t (eqb-true e f same) ∙ off)
    by_test false same = same

-- ---- kinds of events

pub record Switching (m : ℕ) (k : EventKind) : Type 0 where
  pub at : Moment
  pub kind : k ≡ ModeSwitch m at

pub switching : (m : ℕ) (k : EventKind) → waits_for_phase m k ≡ true → Switching m k
switching m (ModeSwitch n at) waits = record { at = at; kind = ap (λ z. ModeSwitch z at) (sym (eqb-true m n waits)) }
switching m k waits = absurd (false≢true waits)

pub acked_kind : (m : ℕ) (k : EventKind) → waits_for_end m k ≡ true → k ≡ Ack m
acked_kind m (Ack n) waits = ap Ack (sym (eqb-true m n waits))
acked_kind m k waits = absurd (false≢true waits)

pub owed_no_ack : (m : ℕ) (k : EventKind) → waits_for_phase m k ≡ true → waits_for_end m k ≡ false
owed_no_ack m k waits = let of = switching m k waits in ap (waits_for_end m) of.kind

pub ack_not_owed : (m : ℕ) (k : EventKind) → waits_for_end m k ≡ true → waits_for_phase m k ≡ false
ack_not_owed m k waits = ap (waits_for_phase m) (acked_kind m k waits)

module _ (p : Plan) (object : ℕ) (is : IsMachine p object) where
  number : first_machine p + machine_of p object ≡ object
  number = let from = is.from in omega arith

  own : same_number (machine_object p (Some (machine_of p object))) (Some object) ≡ true
  own = eq-eqb (first_machine p + machine_of p object) object number

  -- the machine itself
  machine_is : (o : Option ℕ) → same_number (machine_object p o) (Some object) ≡ true → o ≡ Some (machine_of p object)
  machine_is None same = absurd (false≢true same)
  machine_is (Some n) same =
      let at : first_machine p + n ≡ object = eqb-true (first_machine p + n) object same in
      let from = is.from in
      let here : n ≡ machine_of p object = omega arith in
      ap (λ k. Some k) here

  -- what it owes it starts
  pub owed_here : (e : ℕ) → waits_for_phase (machine_of p object) (kind_of p e) ≡ true → starts_elsewhere p object e ≡ false
  owed_here e waits = let of = switching (machine_of p object) (kind_of p e) waits in
      ap (λ k. not (same_number (object_of_kind p k) (Some object))) of.kind ∙ ap not own

  pub acked_here : (e : ℕ) → waits_for_end (machine_of p object) (kind_of p e) ≡ true → starts_elsewhere p object e ≡ false
  acked_here e waits = ap (λ k. not (same_number (object_of_kind p k) (Some object))) (acked_kind (machine_of p object) (kind_of p e) waits) ∙ ap not own

  -- and what it disables it does not start
  pub disabled_elsewhere : (e : ℕ) (i : ℕ) → Placed e (disabled_events p (machine_of p object)) → starts_elsewhere p object e ≡ true
  disabled_elsewhere e i there =
      all_at (starts_elsewhere p object) (disabled_events p (machine_of p object)) there.at e is.apart (place_at e (disabled_events p (machine_of p object)) there.at there.is)

  -- ---- what an entry names

  module _ (a : Actor) (event : Option ℕ) where
    pub switch_itself : (n mode code : ℕ) → touches p object (noting a (deed.Switch n mode code) event) ≡ true → n ≡ machine_of p object
    switch_itself n mode code touching = let same : Some n ≡ Some (machine_of p object) = machine_is (Some n) touching in cc

    pub port_itself : (port mode : ℕ) → touches p object (noting a (deed.Mode port mode) event) ≡ true → machine_of_port p port ≡ Some (machine_of p object)
    port_itself port mode touching = machine_is (machine_of_port p port) touching

    pub start_here : (e : ℕ) (point : Option ℕ) (value : _) → touches p object (noting a (deed.Start e point value) event) ≡ true → starts_elsewhere p object e ≡ false
    start_here e point value touching = ap not touching

  pub phase_itself : (a : Actor) (s : Step) (event : Option ℕ) → touches p object (noting a (deed.Phase s) event) ≡ true → a ≡ Machine (machine_of p object)
  phase_itself Env s event touching = absurd (false≢true touching)
  phase_itself (Act k) s event touching = absurd (false≢true touching)
  phase_itself (Machine n) s event touching = let same : Some n ≡ Some (machine_of p object) = machine_is (Some n) touching in let here : n ≡ machine_of p object = cc in ap Machine here

  pub admit_disabled : (a : Actor) (answer : Bool) (e : ℕ) → touches p object (noting a (deed.Admit answer) (Some e)) ≡ true → may_disable p (machine_of p object) e ≡ true
  admit_disabled a answer e touching = ap (λ o. same_number o (Some (machine_of p object))) (machine_is (disabler_of p e) touching) ∙ eq-eqb (machine_of p object) (machine_of p object) refl

  pub end_matters : (a : Actor) (e : ℕ) → touches p object (noting a deed.End (Some e)) ≡ true → machine_of_event p e ≡ Some (machine_of p object)
  end_matters a e touching = machine_is (machine_of_event p e) touching
