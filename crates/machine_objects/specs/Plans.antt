-- A machine as it is of a plan: what no call changes, and that each mode in it is one of the plan's.
use Rattle.std.specs.Prelude.{◌≡◌, ℕ, ◌<◌, length, map, true, nat_lt, Some}
use Rattle.bus_semantics.specs.Common.{list_all, same_number, Plan, modes_of, waits_of, object_of, wish_fits, Wanted}
use Rattle.bus_semantics.specs.declared.entries.Actor.{Actor}
use Rattle.mode_machine.specs.declared.owed.OwedEvent.{OwedEvent}
use Rattle.mode_machine.specs.Disabling.{Dependency}
use Rattle.machine_objects.specs.Layout.{IsMachine, machine_of, places_of, owed_events, ack_events, disabled_events, moment_at, disabling_modes, matters, machine_for}
use Rattle.machine_objects.specs.Kept.{Kept}

pub record IsOfPlan (p : Plan) (object : ℕ) (k : Kept) : Type 0 where
  pub is_machine : IsMachine p object
  pub owed : k.owed ≡ owed_events p (machine_of p object)
  pub acks : k.acks ≡ ack_events p (machine_of p object)
  pub disabled : k.disabled ≡ disabled_events p (machine_of p object)
  pub modes : k.machine.modes ≡ modes_of p (machine_of p object)
  pub queue : k.machine.queue ≡ places_of p (machine_of p object)
  pub waits : k.machine.waits ≡ waits_of p (machine_of p object)
  pub moments : map (λ (e : OwedEvent). e.moment) k.machine.owed ≡ map (moment_at p) (owed_events p (machine_of p object))
  pub acked : length k.machine.acks ≡ length (ack_events p (machine_of p object))
  pub disablings : map (λ (d : Dependency). d.modes) k.machine.disablings ≡ map (disabling_modes p) (disabled_events p (machine_of p object))
  pub settled : k.machine.settled < modes_of p (machine_of p object)
  pub next : k.machine.next < modes_of p (machine_of p object)
  pub unbegun : list_all (λ mode. nat_lt mode (modes_of p (machine_of p object))) k.machine.unbegun ≡ true

-- the wish fits its actor and touches the machine
pub record IsAskedOf (p : Plan) (object : ℕ) (a : Actor) (w : Wanted) (k : Kept) : Type 0 where
  pub fits : wish_fits p a w ≡ true
  pub touching : object_of p a w ≡ Some object
  pub planned : IsOfPlan p object k

-- each event matters to one machine at most, which is one of the plan's
pub record AreTheirs (p : Plan) : Type 0 where
  pub one : (event machine : ℕ) → matters p machine event ≡ same_number (machine_for p event) (Some machine)
  pub within : (event machine : ℕ) → machine_for p event ≡ Some machine → machine < length p.machines
