use Rattle.std.proofs.Common.{sym, ◌∙◌, ap, subst}
use Rattle.tick_events.specs.Kept as clock_kept
use Rattle.clock_objects.specs.Kept.{Kept, TicksState, may_start}
use Rattle.clock_objects.specs.Leading.{with_clock}
use Rattle.clock_objects.specs.Plans.{IsOfPlan}
use Rattle.clock_objects.proofs.Planned.{tick_planned}
use Rattle.clock_objects.proofs.Telling.{tick_told, tick_only}
use Rattle.clock_objects.proofs.ticks.Ticks.tick.Goals as goal

pub returns-clause-told : goal.returns-clause-told
returns-clause-told c = λ event off on.
    let old = c.self.inside in
    let k : Kept = record { timings = old.timings.items; inits = old.inits.items; clock = old.clock } in
    tick_told k c.as_slice.result.now c.tick_and_tell.new.rung.items c.tick_and_tell.new.self c.as_slice.ensures.value c.tick_and_tell.ensures.kept c.tick_and_tell.ensures.rung event
    (ap (λ (s : TicksState). may_start s.kept event) c.self.view_is ∙ off) on

pub returns-clause-only : goal.returns-clause-only
returns-clause-only c = λ event among.
    let old = c.self.inside in
    let k : Kept = record { timings = old.timings.items; inits = old.inits.items; clock = old.clock } in
    let only = tick_only k c.as_slice.result.now c.tick_and_tell.new.rung.items c.tick_and_tell.new.self c.as_slice.ensures.value c.tick_and_tell.ensures.kept c.self.invariant.0 c.tick_and_tell.ensures.only event among in
    (ap (λ (s : TicksState). may_start s.kept event) (sym c.self.view_is) ∙ only.0, only.1)

pub returns-clause-planned : goal.returns-clause-planned
returns-clause-planned c = λ p object planned.
    let old = c.self.inside in
    let k : Kept = record { timings = old.timings.items; inits = old.inits.items; clock = old.clock } in
    subst (λ (x : clock_kept.Kept). IsOfPlan p object (with_clock k x)) (sym c.tick_and_tell.ensures.kept)
    (tick_planned p object k (subst (λ (s : TicksState). IsOfPlan p object s.kept) (sym c.self.view_is) planned))
