use Rattle.std.proofs.Common.{◌≡◌, ◌+◌, true, false, refl, sym, ◌∙◌, ap, subst, length, set}
use Rattle.bus_semantics.specs.Common.{length-set, plan_of}
use Rattle.place_set.specs.Places.{NoneBetween}
use Rattle.trace_objects.specs.Resting.{IsPaused}
use Rattle.trace_objects.specs.Unrest.{is_mapped, StartHeld, StartsAmong}
use Rattle.trace_objects.proofs.Sets.{without, none_on, none_more}
use Rattle.trace_objects.proofs.resting.no_start_comes.Goals as goal

pub returns-then-mapped_start_comes-clause-awake : goal.returns-then-mapped_start_comes-clause-awake
returns-then-mapped_start_comes-clause-awake c = λ no m h paused.
    c.if-mapped_start_comes.ensures.awake refl m h (subst (IsPaused (plan_of c.args.p.now) m h) (sym c.loop-event.invariant.same) paused)

pub loop-event-preserved : goal.loop-event-preserved
loop-event-preserved c =
    let p = plan_of c.args.p.now in
    let loop = c.loop-event.invariant in
    let old = c.args.objects.now.items in
    let row = c.loop-event.events in
    let at = c.in-Some.event in
    let first = c.in-Some.ensures.next in
    let no = c.if-mapped_start_comes.false in
    let taken : c.remove.new.self ≡ set row at false = c.remove.ensures ∙ ap (λ xs. set xs at false) c.in-Some.ensures.same in
    let held : is_mapped p at ≡ true → StartHeld p old at = λ mapped. subst (λ xs. StartHeld p xs at) loop.same (c.mapped_start_comes.ensures.held no mapped) in
    record {
      planned = c.mapped_start_comes.ensures.planned;
      same = c.mapped_start_comes.ensures.same no ∙ loop.same;
      among = subst (StartsAmong p old) (sym taken) (record {
        count = length-set row at false ∙ loop.among.count;
        others = without (λ e. is_mapped p e ≡ true → StartHeld p old e) row at held loop.among.others;
      });
      none = subst (λ xs. NoneBetween xs 0 (at + 1)) (sym taken) (none_more row at first.within (none_on row c.loop-event.from at loop.none first.none));
    }

pub returns-clause-none : goal.returns-clause-none
returns-clause-none c = λ yes.
    let loop = c.loop-event.invariant in
    let row = c.loop-event.events in
    subst (λ xs. NoneBetween xs 0 (length xs)) (sym c.in_default.ensures.same) (none_on row c.loop-event.from (length row) loop.none c.in_default.ensures.next)
