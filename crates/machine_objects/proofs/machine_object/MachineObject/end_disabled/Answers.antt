use Rattle.std.proofs.Common.{◌≡◌, ◌<◌, length, arith, sym, ◌∙◌, ap, Some}
use Rattle.object_kinds.specs.Layout.{place}
use Rattle.object_kinds.proofs.Placing.{place_within}
use Rattle.machine_objects.proofs.machine_object.MachineObject.end_disabled.Goals as goal

pub end_admitted-has_ended-requires : goal.end_admitted-has_ended-requires
end_admitted-has_ended-requires c =
    let events = c.self.inside.disabled.items in
    let there : place c.args.event events ≡ Some c.in-Some.place = ap (place c.args.event) (sym c.as_slice.ensures.value) ∙ sym c.find.ensures ∙ c.in-Some.is in
    let within : c.in-Some.place < length events = place_within c.args.event events c.in-Some.place there in
    let same = c.self.invariant.6 in
    omega arith
