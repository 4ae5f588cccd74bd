use Rattle.std.proofs.Common.{refl, sym, subst}
use Rattle.bus_semantics.specs.declared.entries.Actor.TheVariants.{Env}
use Rattle.bus_semantics.specs.Common.{false≢true, plan_of, to_tick, touched}
use Rattle.object_kinds.specs.declared.acted.Acted.TheVariants.{Done}
use Rattle.object_kinds.specs.declared.acted.Filled.TheVariants as filled
use Rattle.clock_objects.specs.Kept as clocks
use Rattle.clock_objects.specs.Leading as clock_leading
use Rattle.clock_objects.specs.Standing as clock_standing
use Rattle.port_objects.specs.declared.object.Object.TheVariants.{Clock}
use Rattle.port_objects.specs.Common.{of_clock, IsOfPlan, IsAnswer, tick_of_env}
use Rattle.port_objects.proofs.Rows.{clock_row}
use Rattle.port_objects.proofs.Answering.{answered}
use Rattle.port_objects.proofs.acting.tick.Goals as goal

pub returns-in-Clock-clause-lead : goal.returns-in-Clock-clause-lead
returns-in-Clock-clause-lead c = λ yes.
    let p = plan_of c.args.p.now in
    let o = touched p Env to_tick in
    let old = c.in-Clock.ticks in
    let new = c.tick.new.self in
    subst (λ x. IsAnswer p o Env to_tick x (Clock new) (Done tick_of_env)) (sym c.in-Clock.is)
    (answered p Env to_tick of_clock (clock_standing.Keeps p o) clock_leading.lead clocks.may_start clock_leading.why_held (clock_row p o)
    refl refl refl (Clock old) (Clock new) old.kept new.kept filled.Done tick_of_env refl refl
    (c.tick.ensures.answer p Env) (λ shown is. absurd (cc is)) c.tick.ensures.told (λ point off on. absurd (false≢true on)))

pub returns-in-Clock-clause-planned : goal.returns-in-Clock-clause-planned
returns-in-Clock-clause-planned c =
    let p = plan_of c.args.p.now in
    let o = touched p Env to_tick in
    c.tick.ensures.planned p o (subst (IsOfPlan p o) c.in-Clock.is c.requires.planned)

pub returns-in-Clock-clause-done : goal.returns-in-Clock-clause-done
returns-in-Clock-clause-done c = λ m l ask yes.
    let p = plan_of c.args.p.now in
    let o = touched p Env to_tick in
    let old = c.in-Clock.ticks in
    let new = c.tick.new.self in
    let lead = subst (λ x. IsAnswer p o Env to_tick x (Clock new) (Done tick_of_env)) (sym c.in-Clock.is)
    (answered p Env to_tick of_clock (clock_standing.Keeps p o) clock_leading.lead clocks.may_start clock_leading.why_held (clock_row p o)
    refl refl refl (Clock old) (Clock new) old.kept new.kept filled.Done tick_of_env refl refl
    (c.tick.ensures.answer p Env) (λ shown is. absurd (cc is)) c.tick.ensures.told (λ point off on. absurd (false≢true on))) in
    c.answers_are_what_may_come.ensures.made p m Env to_tick c.args.object.now (Clock new) l tick_of_env refl ask lead
