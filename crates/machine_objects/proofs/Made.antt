-- How the parts of a machine are made of a plan.
use Rattle.std.proofs.Common.{◌≡◌, ◌≤◌, ◌+◌, ℕ, zero, suc, Bool, true, false, ◌||◌, refl, ◌∙◌, ap, subst, arith, List, [], ◌∷◌, length, map, replicate}
use Rattle.std.specs.Prelude.{filter, is_none}
use Rattle.bus_semantics.specs.Common.{list_all, false≢true, Plan, kind_of, positions, first_machine, modes_of, initial_of, waits_of}
use Rattle.rte_value.specs.declared.kinds.Step.TheVariants as step
use Rattle.mode_machine.specs.declared.owed.ModeEvent.{ModeEvent}
use Rattle.mode_machine.specs.declared.owed.OwedEvent.{OwedEvent}
use Rattle.mode_machine.specs.Common.{Dependency, idle_dependency, never_owed, owed_by}
use Rattle.mode_machine.specs.Kept as machines
use Rattle.object_kinds.specs.Common.{place, is_rising}
use Rattle.object_kinds.proofs.Events.{events_all}
use Rattle.object_kinds.proofs.Placing.{place_none}
use Rattle.object_kinds.proofs.Positions.{few_positions}
use Rattle.object_kinds.proofs.Rising.{rising_positions}
use Rattle.machine_objects.specs.Kept.{opening}
use Rattle.machine_objects.specs.Layout.{IsMachine, machine_of, places_of, waits_for_phase, waits_for_end, owed_events, ack_events, moment_at, may_disable, disabled_events, disabling_modes}
use Rattle.machine_objects.specs.Layout.{matters, machine_events}
use Rattle.machine_objects.specs.Plans.{IsOfPlan}
use Rattle.machine_objects.proofs.Picking.{all_picked, picked_again}
use Rattle.machine_objects.proofs.Touches.{owed_no_ack}

module _ (p : Plan) (m : ℕ) where
  left : (a b : Bool) → a ≡ true → (a || b) ≡ true
  left true b is = refl
  left false b is = absurd (false≢true is)

  middle : (a b c : Bool) → b ≡ true → (a || (b || c)) ≡ true
  middle true b c is = refl
  middle false b c is = left b c is

  right : (a b c : Bool) → c ≡ true → (a || (b || c)) ≡ true
  right true b c is = refl
  right false true c is = refl
  right false false c is = is

  -- the lists are picked from the events that matter to the machine
  pub owed_picked : filter (λ e. waits_for_phase m (kind_of p e)) (machine_events p m) ≡ owed_events p m
  owed_picked = picked_again (matters p m) (λ e. waits_for_phase m (kind_of p e)) (positions (length p.events)) (λ e is. left (waits_for_phase m (kind_of p e)) (waits_for_end m (kind_of p e) || may_disable p m e) is)

  pub acks_picked : filter (λ e. waits_for_end m (kind_of p e)) (machine_events p m) ≡ ack_events p m
  acks_picked = picked_again (matters p m) (λ e. waits_for_end m (kind_of p e)) (positions (length p.events)) (λ e is. middle (waits_for_phase m (kind_of p e)) (waits_for_end m (kind_of p e)) (may_disable p m e) is)

  pub disabled_picked : filter (may_disable p m) (machine_events p m) ≡ disabled_events p m
  disabled_picked = picked_again (matters p m) (may_disable p m) (positions (length p.events)) (λ e is. right (waits_for_phase m (kind_of p e)) (waits_for_end m (kind_of p e)) (may_disable p m e) is)

  pub few_disabled : length (disabled_events p m) ≤ length p.events
  few_disabled = few_positions (may_disable p m) (length p.events)

  pub disabled_rise : is_rising (disabled_events p m) ≡ true
  disabled_rise = rising_positions (may_disable p m) (length p.events)

  -- no event is both a switch and an acknowledgement event
  pub lists_apart : list_all (λ e. is_none (place e (ack_events p m))) (owed_events p m) ≡ true
  lists_apart = all_picked (λ e. waits_for_phase m (kind_of p e)) (λ e. is_none (place e (ack_events p m))) (length p.events)
      (λ e within waits. ap is_none (place_none (λ f. waits_for_end m (kind_of p f)) (ack_events p m) e (events_all p (waits_for_end m)) (owed_no_ack m (kind_of p e) waits)))

  -- a machine that is made of its parts
  pub made : (events acks disabled : List ℕ) (count : ℕ) (given_events given_disabled : List ℕ) (k : machines.Kept) → events ≡ owed_events p m → acks ≡ ack_events p m → disabled ≡ disabled_events p m → count ≡ length acks → given_events ≡ events → given_disabled ≡ disabled
      → k ≡ machines.fresh (modes_of p m) (initial_of p m) (places_of p m) (map (moment_at p) given_events) count (map (disabling_modes p) given_disabled) (waits_of p m) → record { owed = events; acks = acks; disabled = disabled; machine = k } ≡ opening p m
  made events acks disabled count given_events given_disabled k owed_is acks_is disabled_is many events_given disabled_given fresh = λ i. record {
    owed = owed_is i;
    acks = acks_is i;
    disabled = disabled_is i;
    machine = (fresh ∙ (λ j. machines.fresh (modes_of p m) (initial_of p m) (places_of p m) (map (moment_at p) ((events_given ∙ owed_is) j)) ((many ∙ ap length acks_is) j) (map (disabling_modes p) ((disabled_given ∙ disabled_is) j)) (waits_of p m))) i;
  }

moments_opened : (initial : ℕ) (moments : List ModeEvent) → map (λ (e : OwedEvent). e.moment) (map (owed_by step.Entry initial initial) (map never_owed moments)) ≡ moments
moments_opened initial [] = refl
moments_opened initial (m ∷ moments) = ap (λ ms. m ∷ ms) (moments_opened initial moments)

modes_opened : (disablings : List (List ℕ)) → map (λ (d : Dependency). d.modes) (map idle_dependency disablings) ≡ disablings
modes_opened [] = refl
modes_opened (ms ∷ disablings) = ap (λ more. ms ∷ more) (modes_opened disablings)

length-replicate : (n : ℕ) → length (replicate n false) ≡ n
length-replicate zero = refl
length-replicate (suc n) = ap suc (length-replicate n)

-- a machine is of its plan before anything has happened
pub opens_planned : (p : Plan) (m : ℕ) → IsMachine p (first_machine p + m) → IsOfPlan p (first_machine p + m) (opening p m)
opens_planned p m is =
    let object = first_machine p + m in
    let own : machine_of p object ≡ m = omega arith in
    subst (λ j. IsOfPlan p object (opening p j)) own (record {
      is_machine = is;
      owed = refl;
      acks = refl;
      disabled = refl;
      modes = refl;
      queue = refl;
      waits = refl;
      moments = moments_opened (initial_of p (machine_of p object)) (map (moment_at p) (owed_events p (machine_of p object)));
      acked = length-replicate (length (ack_events p (machine_of p object)));
      disablings = modes_opened (map (disabling_modes p) (disabled_events p (machine_of p object)));
      settled = is.initial;
      next = is.initial;
      unbegun = refl;
    })
