use Rattle.std.proofs.Common.{◌≡◌, ◌<◌, length, arith, sym, ◌∙◌, ap, Some, None}
use Rattle.std.specs.Prelude.{unwrap_or}
use Rattle.object_kinds.specs.Layout.{place}
use Rattle.object_kinds.proofs.Placing.{place_within}
use Rattle.clock_objects.specs.Kept.{Kept, TicksState}
use Rattle.clock_objects.specs.Leading.{after_start}
use Rattle.clock_objects.proofs.Taking.{timing_taken, init_taken}
use Rattle.clock_objects.proofs.ticks.Ticks.take_start.Goals as goal

pub start_timing-requires : goal.start_timing-requires
start_timing-requires c =
    let timings = c.self.inside.timings.items in
    let there : place c.args.event timings ≡ Some c.in-Some.place = ap (place c.args.event) (sym c.as_slice.ensures.value) ∙ sym c.find.ensures ∙ c.in-Some.is in
    let within : c.in-Some.place < length timings = place_within c.args.event timings c.in-Some.place there in
    let same = c.self.invariant.2 in
    omega arith

pub start_init-requires : goal.start_init-requires
start_init-requires c =
    let inits = c.self.inside.inits.items in
    let there : place c.args.event inits ≡ Some c.in-Some-find.place = ap (place c.args.event) (sym c.as_slice-in-None.ensures.value) ∙ sym c.find-in-None.ensures ∙ c.in-Some-find.is in
    let within : c.in-Some-find.place < length inits = place_within c.args.event inits c.in-Some-find.place there in
    let same = c.self.invariant.3 in
    omega arith

pub returns-in-Some-clause-kept : goal.returns-in-Some-clause-kept
returns-in-Some-clause-kept c =
    let old = c.self.inside in
    let k : Kept = record { timings = old.timings.items; inits = old.inits.items; clock = old.clock } in
    let there : place c.args.event old.timings.items ≡ Some c.in-Some.place = ap (place c.args.event) (sym c.as_slice.ensures.value) ∙ sym c.find.ensures ∙ c.in-Some.is in
    timing_taken k c.start_timing.new.self c.args.event c.in-Some.place c.start_timing.result there c.start_timing.ensures.pending c.start_timing.ensures.kept
    ∙ ap (λ (s : TicksState). unwrap_or (after_start s.kept c.args.event) s.kept) c.self.view_is

pub returns-in-Some-find-clause-kept : goal.returns-in-Some-find-clause-kept
returns-in-Some-find-clause-kept c =
    let old = c.self.inside in
    let k : Kept = record { timings = old.timings.items; inits = old.inits.items; clock = old.clock } in
    let none : place c.args.event old.timings.items ≡ None = ap (place c.args.event) (sym c.as_slice.ensures.value) ∙ sym c.find.ensures ∙ c.in-None.is in
    let there : place c.args.event old.inits.items ≡ Some c.in-Some-find.place = ap (place c.args.event) (sym c.as_slice-in-None.ensures.value) ∙ sym c.find-in-None.ensures ∙ c.in-Some-find.is in
    init_taken k c.start_init.new.self c.args.event c.in-Some-find.place c.start_init.result none there c.start_init.ensures.pending c.start_init.ensures.kept
    ∙ ap (λ (s : TicksState). unwrap_or (after_start s.kept c.args.event) s.kept) c.self.view_is
