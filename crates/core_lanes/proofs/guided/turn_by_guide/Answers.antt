use Rattle.std.proofs.Common.{◌≡◌, refl, sym, ◌∙◌, ap, subst}
use Rattle.std.specs.Prelude.{IfSome}
use Rattle.bus_semantics.specs.Common.{and_parts, plan_of, fits, starts_its_own, touched_by, IsObject}
use Rattle.bus_semantics.specs.declared.entries.Stamped.{Stamped}
use Rattle.port_objects.specs.Benches.{written_last}
use Rattle.core_lanes.proofs.Taken.{stepped_taken, last_is}
use Rattle.core_lanes.proofs.Leaving.{nothing_said, another_held}
use Rattle.core_lanes.proofs.guided.turn_by_guide.Goals as goal

pub wake_after-requires-clause-within : goal.wake_after-requires-clause-within
wake_after-requires-clause-within c =
    let p = plan_of c.args.p.now in
    let turned = c.in-Stepped.ensures.turned in
    let made : c.last_written-made.result.now ≡ turned.0 = last_is c.last_entries_are_last.ensures _ c.args.guide.now.made.items turned.0 _ turned.1.written (ap written_last (sym c.as_slice.ensures.value) ∙ c.last_written-made.ensures) in
    subst (λ (s : Stamped). IfSome (touched_by p (record { entry = s.entry; event = s.event })) (IsObject p)) (sym made)
    (c.sound_plans_have_objects.ensures.entered p c.requires.ready.0 (record { entry = turned.0.entry; event = turned.0.event }) c.requires.ready.1.sound
    (and_parts (fits p turned.0.entry) (starts_its_own p turned.0.entry.actor turned.0.entry.deed) turned.1.apart.step.proper).0)

pub returns-in-Stepped-clause-taken : goal.returns-in-Stepped-clause-taken
returns-in-Stepped-clause-taken c =
    let turned = c.in-Stepped.ensures.turned in
    stepped_taken (plan_of c.args.p.now) c.args.t.now c.args.core.now c.turn_of_awake.new.c c.args.bench.now c.turn_of_awake.new.b c.turn_of_awake.new.c turned.0 c.in-Stepped.ensures.ready turned.1.apart (record { number = refl; slots = refl })

pub returns-in-NothingNow-clause-looked : goal.returns-in-NothingNow-clause-looked
returns-in-NothingNow-clause-looked c = λ none. nothing_said (plan_of c.args.p.now) c.args.t.now c.args.core.now c.turn_of_awake.new.c c.args.bench.now c.turn_of_awake.new.b _ _ c.in-NothingNow.ensures.turned.1 c.in-NothingNow.ensures.counted

pub returns-in-Contended-clause-looked : goal.returns-in-Contended-clause-looked
returns-in-Contended-clause-looked c = λ none. another_held (plan_of c.args.p.now) c.args.t.now c.args.core.now c.turn_of_awake.new.c c.args.bench.now c.turn_of_awake.new.b _ _ c.in-Contended.ensures.turned.1
