-- What touches an area: an Enter or a Leave of it, by an activation.
use Rattle.std.proofs.Common.{◌≡◌, ◌<◌, ◌+◌, ℕ, true, subst, arith, length}
use Rattle.std.specs.Prelude.{Option}
use Rattle.bus_semantics.specs.declared.plan.EventKind.{EventKind}
use Rattle.bus_semantics.specs.declared.plan.EventKind.TheVariants.{Timing}
use Rattle.bus_semantics.specs.declared.script.Mapping.{Mapping}
use Rattle.bus_semantics.specs.declared.entries.Actor.{Actor}
use Rattle.bus_semantics.specs.declared.entries.Deed.{Deed}
use Rattle.bus_semantics.specs.Common.{Plan, first_area, touches, is_proper, IsSound}
use Rattle.object_kinds.proofs.Classes.{On, StartsOn, touching_on}
use Rattle.object_kinds.proofs.Numbers.{an_area}
use Rattle.object_kinds.proofs.Proper.{noting}
use Rattle.area_objects.specs.Layout.{IsArea, area_of}

-- no start touches one
pub no_start : (p : Plan) (x : ℕ) (k : EventKind) → StartsOn p (an_area x) k → ⊥
no_start p x (Timing period) on = on
no_start p x k on = on

pub touches_area : (p : Plan) (m : Mapping) (object : ℕ) (a : Actor) (event : Option ℕ) (d : Deed) → IsSound p m → IsArea p object
    → touches p object (noting a d event) ≡ true → is_proper p (noting a d event) ≡ true → On p (an_area (area_of p object)) a event d
touches_area p m object a event d sound area touching proper =
    let from = area.from in
    let below = area.below in
    let within : area_of p object < length p.areas = omega arith in
    let number : object ≡ first_area p + area_of p object = omega arith in
    touching_on p m sound (an_area (area_of p object)) within a event d (subst (λ n. touches p n (noting a d event) ≡ true) number touching) proper
