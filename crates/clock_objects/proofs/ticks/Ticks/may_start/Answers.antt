use Rattle.std.proofs.Common.{◌≡◌, ◌<◌, length, arith, sym, ◌∙◌, ap, Some}
use Rattle.object_kinds.specs.Layout.{place}
use Rattle.object_kinds.proofs.Placing.{place_within}
use Rattle.clock_objects.proofs.ticks.Ticks.may_start.Goals as goal

pub is_timing_due-requires : goal.is_timing_due-requires
is_timing_due-requires c =
    let timings = c.self.inside.timings.items in
    let there : place c.args.event timings ≡ Some c.in-Some.place = ap (place c.args.event) (sym c.as_slice.ensures.value) ∙ sym c.find.ensures ∙ c.in-Some.is in
    let within : c.in-Some.place < length timings = place_within c.args.event timings c.in-Some.place there in
    let same = c.self.invariant.2 in
    omega arith

pub is_init_due-requires : goal.is_init_due-requires
is_init_due-requires c =
    let inits = c.self.inside.inits.items in
    let there : place c.args.event inits ≡ Some c.in-Some-find.place = ap (place c.args.event) (sym c.as_slice-in-None.ensures.value) ∙ sym c.find-in-None.ensures ∙ c.in-Some-find.is in
    let within : c.in-Some-find.place < length inits = place_within c.args.event inits c.in-Some-find.place there in
    let same = c.self.invariant.3 in
    omega arith
