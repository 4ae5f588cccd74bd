-- What no call changes of a machine: how many switches may wait, whether Exit waits, the moments of its events, how many
-- acknowledgement events there are, and the modes in which each event is disabled.
use Rattle.std.proofs.Common.{◌≡◌, ℕ, zero, suc, Bool, true, false, not, ◌&&◌, ◌==◌, if◌then◌else◌, refl, ap, subst, List, [], ◌∷◌, ◌++◌, length, map, replicate, set, Option, Some, None}
use Rattle.std.specs.Prelude.{slice_index_or}
use Rattle.rte_value.specs.declared.kinds.Step.{Step}
use Rattle.bus_semantics.specs.declared.entries.Deed.{Deed}
use Rattle.bus_semantics.specs.declared.entries.Deed.TheVariants as deed
use Rattle.mode_machine.specs.declared.disabling.Admitted.{Admitted}
use Rattle.mode_machine.specs.declared.disabling.Admitted.TheVariants.{Yes, No, Runs}
use Rattle.mode_machine.specs.declared.owed.ModeEvent.{ModeEvent}
use Rattle.mode_machine.specs.declared.owed.OwedEvent.{OwedEvent}
use Rattle.mode_machine.specs.Disabling.{Dependency}
use Rattle.mode_machine.specs.Kept as machines
use Rattle.mode_machine.specs.Owed as owed
use Rattle.object_kinds.specs.Common.{given, is_set, place}
use Rattle.object_kinds.proofs.Options.{given_some, then_some}
use Rattle.machine_objects.specs.Kept.{Kept}
use Rattle.machine_objects.specs.Leading.{is_made, is_answered, started_at, ended_at, lead_of_machine}

abbrev moments_in : machines.Kept → List ModeEvent
moments_in k = map (λ (e : OwedEvent). e.moment) k.owed

abbrev modes_in : machines.Kept → List (List ℕ)
modes_in k = map (λ (d : Dependency). d.modes) k.disablings

pub record Fixed (k after : machines.Kept) : Type 0 where
  pub queue : after.queue ≡ k.queue
  pub waits : after.waits ≡ k.waits
  pub moments : moments_in after ≡ moments_in k
  pub acked : length after.acks ≡ length k.acks
  pub disablings : modes_in after ≡ modes_in k

unchanged : (k : machines.Kept) → Fixed k k
unchanged k = record { queue = refl; waits = refl; moments = refl; acked = refl; disablings = refl }

-- an item that is set to one which shows the same
shown_set : {X Y : Type 0} (f : X → Y) (xs : List X) (i : ℕ) (x other : X) → f x ≡ f (slice_index_or xs i other) → map f (set xs i x) ≡ map f xs
shown_set f [] i x other same = refl
shown_set f (y ∷ xs) zero x other same = ap (λ z. z ∷ map f xs) same
shown_set f (y ∷ xs) (suc i) x other same = ap (λ zs. f y ∷ zs) (shown_set f xs i x other same)

length_set : {X : Type 0} (xs : List X) (i : ℕ) (x : X) → length (set xs i x) ≡ length xs
length_set [] i x = refl
length_set (y ∷ xs) zero x = refl
length_set (y ∷ xs) (suc i) x = ap suc (length_set xs i x)

length_replicate : (n : ℕ) → length (replicate n true) ≡ n
length_replicate zero = refl
length_replicate (suc n) = ap suc (length_replicate n)

moments_owed : (s : Step) (settled next : ℕ) (es : List OwedEvent) → map (λ (e : OwedEvent). e.moment) (map (owed.owed_by s settled next) es) ≡ map (λ (e : OwedEvent). e.moment) es
moments_owed s settled next [] = refl
moments_owed s settled next (e ∷ es) = ap (λ ms. e.moment ∷ ms) (moments_owed s settled next es)

start_moment : (e : OwedEvent) → (owed.after_owed_start e).moment ≡ e.moment
start_moment e = by_test (owed.may_start e)
  where
    by_test : (b : Bool) → (if b then record { moment = e.moment; due = false; running = true; begun = true; left = e.left } else e).moment ≡ e.moment
    by_test true = refl
    by_test false = refl

end_moment : (e : OwedEvent) → (owed.after_end e).moment ≡ e.moment
end_moment e = by_test e.running
  where
    by_test : (b : Bool) → (if b then record { moment = e.moment; due = e.due; running = false; begun = e.begun; left = e.left && not e.begun } else e).moment ≡ e.moment
    by_test true = refl
    by_test false = refl

module _ (k : machines.Kept) where
  switched : (mode : ℕ) → Fixed k (machines.after_switch mode k)
  switched mode = by_place (machines.has_place k)
    where
      by_place : (b : Bool) → Fixed k (if b then machines.with_unbegun (k.unbegun ++ mode ∷ []) k else k)
      by_place true = record { queue = refl; waits = refl; moments = refl; acked = refl; disablings = refl }
      by_place false = unchanged k

  stepped : (s : Step) → Fixed k (machines.after_step s k)
  stepped s = record {
    queue = refl;
    waits = refl;
    moments = moments_owed s k.settled (machines.next_after s k) k.owed;
    acked = acks_stay (machines.is_stable s) k.was_stable;
    disablings = refl;
  }
    where
      acks_stay : (stable was : Bool) → length (if stable then (if was then replicate (length k.acks) true else k.acks) else k.acks) ≡ length k.acks
      acks_stay true true = length_replicate (length k.acks)
      acks_stay true false = refl
      acks_stay false was = refl

  owed_changed : (i : ℕ) (f : OwedEvent → OwedEvent) → ((e : OwedEvent) → (f e).moment ≡ e.moment) → Fixed k (machines.after_owed i f k)
  owed_changed i f stays = record {
    queue = refl;
    waits = refl;
    moments = shown_set (λ (e : OwedEvent). e.moment) k.owed i (f (machines.owed_at i k)) owed.idle_event (stays (machines.owed_at i k));
    acked = refl;
    disablings = refl;
  }

  acks_changed : (i : ℕ) (b : Bool) → Fixed k (machines.with_acks (set k.acks i b) k)
  acks_changed i b = record { queue = refl; waits = refl; moments = refl; acked = length_set k.acks i b; disablings = refl }

  admission_changed : (d : ℕ) (runs : Bool) → Fixed k (machines.with_admitted d runs k)
  admission_changed d runs = record {
    queue = refl;
    waits = refl;
    moments = refl;
    acked = refl;
    disablings = shown_set (λ (e : Dependency). e.modes) k.disablings d (record { modes = (machines.dependency_at d k).modes; admitted = runs }) (record { modes = []; admitted = false }) refl;
  }

  started : (after : machines.Kept) (o r : Option ℕ) → started_at k o r ≡ Some after → Fixed k after
  started after (Some i) r leads =
      subst (Fixed k) (given_some (owed.may_start (machines.owed_at i k)) (machines.after_owed i owed.after_owed_start k) after leads).same (owed_changed i owed.after_owed_start start_moment)
  started after None (Some i) leads = subst (Fixed k) (given_some (is_set k.acks i) (machines.with_acks (set k.acks i false) k) after leads).same (acks_changed i false)
  started after None None leads = absurd (cc leads)

  admitted : (d : ℕ) → Fixed k (machines.after_admit d k)
  admitted d = by_answer (machines.answer_to_admit d k)
    where
      by_answer : (o : Admitted) → Fixed k (machines.admitted_by o d k)
      by_answer Yes = admission_changed d true
      by_answer No = unchanged k
      by_answer Runs = unchanged k

  ended : (after : machines.Kept) (o r : Option ℕ) → ended_at k o r ≡ Some after → Fixed k after
  ended after (Some i) r leads = subst (Fixed k) (given_some (machines.owed_at i k).running (machines.after_owed i owed.after_end k) after leads).same (owed_changed i owed.after_end end_moment)
  ended after None (Some d) leads =
      subst (Fixed k) (given_some (machines.dependency_at d k).admitted (machines.after_end_admitted d k) after leads).same (by_test (machines.dependency_at d k).admitted)
    where
      by_test : (b : Bool) → Fixed k (if b then machines.with_admitted d false k else k)
      by_test true = admission_changed d false
      by_test false = unchanged k
  ended after None None leads = absurd (cc leads)

pub fixed_by : (k : Kept) (after : machines.Kept) (event : Option ℕ) (d : Deed) → lead_of_machine k event d ≡ Some after → Fixed k.machine after
fixed_by k after event (deed.Switch n mode code) leads = subst (Fixed k.machine) (given_some (code == machines.answer_to_switch k.machine) (machines.after_switch mode k.machine) after leads).same (switched k.machine mode)
fixed_by k after event (deed.Mode port mode) leads = subst (Fixed k.machine) (given_some (mode == machines.mode_of k.machine) k.machine after leads).same (unchanged k.machine)
fixed_by k after event (deed.Phase s) leads = subst (Fixed k.machine) (given_some (is_made s (machines.answer_to_advance k.machine)) (machines.after_step s k.machine) after leads).same (stepped k.machine s)
fixed_by k after event (deed.Start e point value) leads = started k.machine after (place e k.owed) (place e k.acks) leads
fixed_by k after None (deed.Admit answer) leads = absurd (cc leads)
fixed_by k after (Some e) (deed.Admit answer) leads =
    let there = then_some (λ d. given (is_answered answer (machines.answer_to_admit d k.machine)) (machines.after_admit d k.machine)) (place e k.disabled) after leads in
    subst (Fixed k.machine) (given_some (is_answered answer (machines.answer_to_admit there.item k.machine)) (machines.after_admit there.item k.machine) after there.gives).same (admitted k.machine there.item)
fixed_by k after None deed.End leads = absurd (cc leads)
fixed_by k after (Some e) deed.End leads = ended k.machine after (place e k.owed) (place e k.disabled) leads
fixed_by k after event d leads = absurd (cc leads)
