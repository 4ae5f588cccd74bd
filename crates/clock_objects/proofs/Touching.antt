-- What touches the clock: a tick, or a start by a TimingEvent or an InitEvent.
use Rattle.std.proofs.Common.{◌≡◌, ℕ, true, refl, subst, Option}
use Rattle.bus_semantics.specs.declared.plan.EventKind.{EventKind}
use Rattle.bus_semantics.specs.declared.plan.EventKind.TheVariants.{Timing, Init}
use Rattle.bus_semantics.specs.declared.script.Mapping.{Mapping}
use Rattle.bus_semantics.specs.declared.entries.Actor.{Actor}
use Rattle.bus_semantics.specs.declared.entries.Deed.{Deed}
use Rattle.bus_semantics.specs.Common.{Plan, clock, touches, is_proper, IsSound}
use Rattle.object_kinds.proofs.Classes.{On, StartsOn, touching_on}
use Rattle.object_kinds.proofs.Numbers.{the_clock}
use Rattle.object_kinds.proofs.Proper.{noting}
use Rattle.clock_objects.proofs.Timed.{Timed, at_init, at_time}

pub start_on : (p : Plan) (k : EventKind) → StartsOn p the_clock k → Timed k
start_on p (Timing period) on = at_time period refl
start_on p Init on = at_init refl
start_on p k on = absurd on

pub touches_clock : (p : Plan) (m : Mapping) (object : ℕ) (a : Actor) (event : Option ℕ) (d : Deed) → IsSound p m → object ≡ clock p
    → touches p object (noting a d event) ≡ true → is_proper p (noting a d event) ≡ true → On p the_clock a event d
touches_clock p m object a event d sound is touching proper =
    touching_on p m sound the_clock tt a event d (subst (λ o. touches p o (noting a d event) ≡ true) is touching) proper
