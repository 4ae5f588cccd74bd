-- Only a phase and an end make a start come.
use Rattle.std.proofs.Common.{◌≡◌, ℕ, zero, suc, Bool, true, false, ◌==◌, if◌then◌else◌, refl, sym, subst, List, [], ◌∷◌, ◌++◌, set, Option, Some, None}
use Rattle.bus_semantics.specs.Common.{slice_index_or, false≢true}
use Rattle.bus_semantics.specs.declared.entries.Deed.{Deed}
use Rattle.bus_semantics.specs.declared.entries.Deed.TheVariants as deed
use Rattle.mode_machine.specs.declared.disabling.Admitted.{Admitted}
use Rattle.mode_machine.specs.declared.disabling.Admitted.TheVariants.{Yes, No, Runs}
use Rattle.mode_machine.specs.declared.owed.OwedEvent.{OwedEvent}
use Rattle.mode_machine.specs.Kept as machines
use Rattle.mode_machine.specs.Owed as owed
use Rattle.object_kinds.specs.Common.{OthersWakeNothing, place, given, is_set, is_pending}
use Rattle.object_kinds.proofs.Flags.{pending_cleared}
use Rattle.object_kinds.proofs.Options.{given_some, then_some, mapped_some}
use Rattle.machine_objects.specs.Kept.{Kept, may_start_at, may_start}
use Rattle.machine_objects.specs.Leading.{is_answered, started_at, lead_of_machine, with_machine, lead, wakes}

-- each start that could not come cannot come now
pub record Leaves (k after : machines.Kept) : Type 0 where
  pub owed : (i : ℕ) → owed.may_start (machines.owed_at i k) ≡ false → owed.may_start (machines.owed_at i after) ≡ false
  pub acks : (at : Option ℕ) → is_pending k.acks at ≡ false → is_pending after.acks at ≡ false

stays : (k : machines.Kept) → Leaves k k
stays k = record { owed = λ i off. off; acks = λ at off. off }

-- a start clears the event that it starts
started_off : (o : OwedEvent) → owed.may_start (owed.after_owed_start o) ≡ false
started_off o = by_test (owed.may_start o) refl
  where
    by_test : (b : Bool) → owed.may_start o ≡ b → owed.may_start (if b then record { moment = o.moment; due = false; running = true; begun = true; left = o.left } else o) ≡ false
    by_test true may = refl
    by_test false may = may

cleared : (os : List OwedEvent) (i j : ℕ) (o : OwedEvent) → owed.may_start o ≡ false → owed.may_start (slice_index_or os j owed.idle_event) ≡ false → owed.may_start (slice_index_or (set os i o) j owed.idle_event) ≡ false
cleared [] i j o none off = off
cleared (x ∷ os) zero zero o none off = none
cleared (x ∷ os) zero (suc j) o none off = off
cleared (x ∷ os) (suc i) zero o none off = off
cleared (x ∷ os) (suc i) (suc j) o none off = cleared os i j o none off

owed_start_leaves : (k : machines.Kept) (i : ℕ) → Leaves k (machines.after_owed i owed.after_owed_start k)
owed_start_leaves k i = record { owed = λ j off. cleared k.owed i j (owed.after_owed_start (machines.owed_at i k)) (started_off (machines.owed_at i k)) off; acks = λ at off. off }

switch_leaves : (k : machines.Kept) (mode : ℕ) → Leaves k (machines.after_switch mode k)
switch_leaves k mode = by_place (machines.has_place k)
  where
    by_place : (b : Bool) → Leaves k (if b then machines.with_unbegun (k.unbegun ++ mode ∷ []) k else k)
    by_place true = record { owed = λ i off. off; acks = λ at off. off }
    by_place false = stays k

admit_leaves : (k : machines.Kept) (d : ℕ) → Leaves k (machines.after_admit d k)
admit_leaves k d = by_answer (machines.answer_to_admit d k)
  where
    by_answer : (o : Admitted) → Leaves k (machines.admitted_by o d k)
    by_answer Yes = record { owed = λ i off. off; acks = λ at off. off }
    by_answer No = stays k
    by_answer Runs = stays k

start_leaves : (k after : machines.Kept) (o r : Option ℕ) → started_at k o r ≡ Some after → Leaves k after
start_leaves k after (Some i) r leads =
    let of = given_some (owed.may_start (machines.owed_at i k)) (machines.after_owed i owed.after_owed_start k) after leads in
    subst (Leaves k) of.same (owed_start_leaves k i)
start_leaves k after None (Some i) leads =
    let of = given_some (is_set k.acks i) (machines.with_acks (set k.acks i false) k) after leads in
    subst (Leaves k) of.same (record { owed = λ j off. off; acks = λ at off. pending_cleared k.acks i at off })
start_leaves k after None None leads = absurd (cc leads)

machine_leaves : (k : Kept) (after : machines.Kept) (event : Option ℕ) (d : Deed) → lead_of_machine k event d ≡ Some after → wakes d ≡ false → Leaves k.machine after
machine_leaves k after event (deed.Switch n mode code) leads other =
    let of = given_some (code == machines.answer_to_switch k.machine) (machines.after_switch mode k.machine) after leads in
    subst (Leaves k.machine) of.same (switch_leaves k.machine mode)
machine_leaves k after event (deed.Mode port mode) leads other =
    let of = given_some (mode == machines.mode_of k.machine) k.machine after leads in
    subst (Leaves k.machine) of.same (stays k.machine)
machine_leaves k after event (deed.Start e point value) leads other = start_leaves k.machine after (place e k.owed) (place e k.acks) leads
machine_leaves k after None (deed.Admit answer) leads other = absurd (cc leads)
machine_leaves k after (Some e) (deed.Admit answer) leads other =
    let there = then_some (λ d. given (is_answered answer (machines.answer_to_admit d k.machine)) (machines.after_admit d k.machine)) (place e k.disabled) after leads in
    let of = given_some (is_answered answer (machines.answer_to_admit there.item k.machine)) (machines.after_admit there.item k.machine) after there.gives in
    subst (Leaves k.machine) of.same (admit_leaves k.machine there.item)
machine_leaves k after event (deed.Phase s) leads other = absurd (false≢true (sym other))
machine_leaves k after event deed.End leads other = absurd (false≢true (sym other))
machine_leaves k after event d leads other = absurd (cc leads)

-- where no start could come none can
left_off : (k after : machines.Kept) (o r : Option ℕ) → Leaves k after → may_start_at k o r ≡ false → may_start_at after o r ≡ false
left_off k after (Some i) r leaves off = leaves.owed i off
left_off k after None r leaves off = leaves.acks r off

pub wakes_nothing : OthersWakeNothing wakes may_start lead
wakes_nothing before after n leads other event off =
    let of = mapped_some (with_machine before) (lead_of_machine before n.event n.entry.deed) after leads in
    subst (λ z. may_start z event ≡ false) of.gives (left_off before.machine of.item (place event before.owed) (place event before.acks) (machine_leaves before of.item n.event n.entry.deed of.is other) off)
