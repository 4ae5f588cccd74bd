-- What a machine keeps at first is what the definitions give from no entry.
use Rattle.std.proofs.Common.{◌≡◌, ℕ, Bool, false, refl, sym, ◌∙◌, ap, List, [], ◌∷◌, length, map, replicate}
use Rattle.bus_semantics.specs.Common.{or-false, Plan, kind_of, initial_of, waits_of, modes_of, stage_owes}
use Rattle.std.proofs.Math.Bool.{and-true}
use Rattle.rte_value.specs.declared.kinds.Step.TheVariants as step
use Rattle.mode_machine.specs.Common.{idle_dependency, owes, owed_by, never_owed}
use Rattle.machine_objects.specs.Layout.{IsMachine, machine_of, places_of, owed_events, ack_events, disabled_events, moment_in, moment_at, disabling_modes}
use Rattle.machine_objects.specs.Kept.{opening}
use Rattle.machine_objects.specs.Standing.{owed_after, acked_after, dependency_after, kept_after, Keeps}
use Rattle.machine_objects.proofs.Moves.{owes_same}

module _ (p : Plan) (m : ℕ) where
  -- the opening Entry owes the on-entry events of the initial mode
  first_owed : (e : ℕ) → owed_by step.Entry (initial_of p m) (initial_of p m) (never_owed (moment_at p e)) ≡ owed_after p m [] e
  first_owed e = λ i. record { moment = moment_at p e; due = (or-false owed ∙ same) i; running = false; begun = false; left = (same ∙ sym (and-true (stage_owes step.Entry (initial_of p m) (initial_of p m) (moment_in (kind_of p e))))) i }
    where
      owed : Bool
      owed = owes step.Entry (initial_of p m) (initial_of p m) (moment_at p e)

      same : owed ≡ stage_owes step.Entry (initial_of p m) (initial_of p m) (moment_in (kind_of p e))
      same = sym (owes_same step.Entry (initial_of p m) (initial_of p m) (moment_in (kind_of p e)))

  all_owed : (es : List ℕ) → map (owed_by step.Entry (initial_of p m) (initial_of p m)) (map never_owed (map (moment_at p) es)) ≡ map (owed_after p m []) es
  all_owed [] = refl
  all_owed (e ∷ es) = λ i. first_owed e i ∷ all_owed es i

  none_acked : (es : List ℕ) → replicate (length es) false ≡ map (acked_after m []) es
  none_acked [] = refl
  none_acked (e ∷ es) = ap (λ bs. false ∷ bs) (none_acked es)

  all_idle : (es : List ℕ) → map idle_dependency (map (disabling_modes p) es) ≡ map (dependency_after p []) es
  all_idle [] = refl
  all_idle (e ∷ es) = ap (λ ds. dependency_after p [] e ∷ ds) (all_idle es)

  pub opens : opening p m ≡ kept_after p m []
  opens = λ i. record {
    owed = owed_events p m;
    acks = ack_events p m;
    disabled = disabled_events p m;
    machine = record {
      modes = modes_of p m;
      queue = places_of p m;
      waits = waits_of p m;
      stage = step.Entry;
      settled = initial_of p m;
      next = initial_of p m;
      was_stable = false;
      unbegun = [];
      owed = all_owed (owed_events p m) i;
      acks = none_acked (ack_events p m) i;
      disablings = all_idle (disabled_events p m) i;
    };
  }

pub machine_opens : (p : Plan) (object : ℕ) → IsMachine p object → Keeps p object (opening p (machine_of p object)) []
machine_opens p object is = record { is_machine = is; same = opens p (machine_of p object) }
