use Rattle.std.proofs.Common.{◌≡◌, ◌+◌, ◌<◌, arith, false, refl, sym, ◌∙◌, ap, subst, length, set, Some}
use Rattle.bus_semantics.specs.Common.{slice_get, length-set, first_machine, plan_of}
use Rattle.no_stall.proofs.Tried.{machine_stuck}
use Rattle.place_set.specs.Places.{NoneBetween}
use Rattle.trace_objects.specs.Resting.{IsPaused}
use Rattle.trace_objects.specs.Unrest.{PhaseHeld, PhasesAmong}
use Rattle.trace_objects.proofs.Pausing.{phase_begins}
use Rattle.trace_objects.proofs.Sets.{without, none_on, none_more}
use Rattle.trace_objects.proofs.resting.no_phase_comes.Goals as goal

pub returns-then-comes-clause-awake : goal.returns-then-comes-clause-awake
returns-then-comes-clause-awake c = λ no m h paused rest.
    let p = plan_of c.args.p.now in
    let loop = c.loop-machine.invariant in
    let n = c.in-Some.machine in
    let inside = c.in-Some.ensures.next.within in
    let less : n < length p.machines = omega (arith, inside, loop.among.count) in
    let now = subst (IsPaused p m h) (sym loop.same) paused in
    c.if-comes.ensures.comes m h now.sound now.legal now.stand (phase_begins p h n) (machine_stuck p m h rest n less)

pub loop-machine-preserved : goal.loop-machine-preserved
loop-machine-preserved c =
    let p = plan_of c.args.p.now in
    let loop = c.loop-machine.invariant in
    let old = c.args.objects.now.items in
    let set_before = c.loop-machine.machines in
    let at = c.in-Some.machine in
    let first = c.in-Some.ensures.next in
    let taken : c.remove.new.self ≡ set set_before at false = c.remove.ensures ∙ ap (λ xs. set xs at false) c.in-Some.ensures.same in
    let held : PhaseHeld p old at = λ o is. (c.comes.ensures.held c.if-comes.false (first_machine p + at) o refl (subst (λ xs. slice_get xs (first_machine p + at) ≡ Some o) (sym loop.same) is)).none in
    record {
      planned = c.comes.ensures.planned;
      same = c.comes.ensures.same c.if-comes.false ∙ loop.same;
      among = subst (PhasesAmong p old) (sym taken) (record { count = length-set set_before at false ∙ loop.among.count; others = without (PhaseHeld p old) set_before at held loop.among.others });
      none = subst (λ xs. NoneBetween xs 0 (at + 1)) (sym taken) (none_more set_before at first.within (none_on set_before c.loop-machine.from at loop.none first.none));
    }

pub returns-clause-none : goal.returns-clause-none
returns-clause-none c = λ yes.
    let loop = c.loop-machine.invariant in
    let row = c.loop-machine.machines in
    subst (λ xs. NoneBetween xs 0 (length xs)) (sym c.in_default.ensures.same) (none_on row c.loop-machine.from (length row) loop.none c.in_default.ensures.next)
