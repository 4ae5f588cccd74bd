use Rattle.std.proofs.Common.{◌≡◌, ◌+◌, if◌then◌else◌, length, get_or, sym, ◌∙◌, ap, subst, arith}
use Rattle.bus_semantics.specs.Common.{take-length, slice_get-get_or, plan_of, gathered, start_try}
use Rattle.task_slots.specs.Common.{Nothing, waits, Looked, sum_below, event_looks}
use Rattle.task_slots.specs.Waiting.{row_looks}
use Rattle.task_slots.proofs.Counted.{sum_none, sum_next, asleep_looks, awake_looks}
use Rattle.task_slots.proofs.Onward.{looked_as}
use Rattle.task_slots.proofs.Starts.{event_tried, event_made, event_lost}
use Rattle.task_slots.proofs.Written.{look_is, written_on}
use Rattle.task_slots.proofs.Unchanged.{held_more, held_by, unchanged_by, passed_by}
use Rattle.task_slots.proofs.starting.start_first.Goals as goal

pub returns-in-Made-clause-written : goal.returns-in-Made-clause-written
returns-in-Made-clause-written g c = written_on c.args.made.now.items c.loop-at.made.items c.try_event.new.made.items c.loop-at.invariant.written c.in-Made.ensures.written

pub returns-in-Made-clause-looked : goal.returns-in-Made-clause-looked
returns-in-Made-clause-looked g c =
    let p = plan_of c.args.p.now in
    let loop = c.loop-at.invariant in
    let events = c.args.events.now in
    let awake = g.H.Hints.awake c.args.hints.now in
    let at = c.in-Some.at in
    let next = c.in-Some.ensures.next in
    let passed = passed_by p events (g.H.Hints.awake c.loop-at.hints) c.loop-at.from at _ (g.B.Bench.told c.args.bench.now) (g.B.Bench.told c.loop-at.bench) next.behind loop.held next.none loop.looked in
    let look = look_is c.last_entries_are_last.ensures c.loop-at.made.items c.try_event.new.made.items c.in-Made.ensures.written in
    subst (Looked p (gathered (start_try p) events) (row_looks p events awake) _ _) (sym look)
    (event_made p events at next.within _ _ _ _ _ _ _ passed (subst (Looked p _ _ _ _) look c.in-Made.ensures.looked))

pub returns-in-Contended-clause-looked : goal.returns-in-Contended-clause-looked
returns-in-Contended-clause-looked g c =
    let p = plan_of c.args.p.now in
    let loop = c.loop-at.invariant in
    let events = c.args.events.now in
    let awake = g.H.Hints.awake c.args.hints.now in
    let at = c.in-Some.at in
    let next = c.in-Some.ensures.next in
    let passed = passed_by p events (g.H.Hints.awake c.loop-at.hints) c.loop-at.from at _ (g.B.Bench.told c.args.bench.now) (g.B.Bench.told c.loop-at.bench) next.behind loop.held next.none loop.looked in
    event_lost p events at next.within _ _ _ _ _ _ c.in-Contended.object passed c.in-Contended.ensures.looked

pub rest-requires : goal.rest-requires
rest-requires g c =
    let next = c.in-Some.ensures.next in
    (length c.args.events.now, subst (λ h. g.H.Hints.fits h (length c.args.events.now)) (sym c.in-Some.ensures.same) c.loop-at.invariant.width, next.within)

pub loop-at-preserved : goal.loop-at-preserved
loop-at-preserved g c =
    let p = plan_of c.args.p.now in
    let loop = c.loop-at.invariant in
    let events = c.args.events.now in
    let awake = g.H.Hints.awake c.args.hints.now in
    let at = c.in-Some.at in
    let next = c.in-Some.ensures.next in
    let passed = passed_by p events (g.H.Hints.awake c.loop-at.hints) c.loop-at.from at _ (g.B.Bench.told c.args.bench.now) (g.B.Bench.told c.loop-at.bench) next.behind loop.held next.none loop.looked in
    let low = next.behind in
    let less = next.within in
    let same = unchanged_by p _ _ (g.B.Bench.told c.args.bench.now) (g.B.Bench.told c.loop-at.bench) loop.looked in
    let kept : c.next_awake.new.self ≡ c.loop-at.hints = c.in-Some.ensures.same in
    let f = event_looks p events awake in
    let counted : sum_below f (at + 1) ≡ sum_below f c.loop-at.from + (if waits p (get_or events at 0) then 1 else 0) =
    sum_next f c.loop-at.from at low (λ i behind before. asleep_looks p events awake i (sym (loop.later i behind) ∙ next.none i behind before))
    ∙ ap (λ n. sum_below f c.loop-at.from + n) (awake_looks p events awake at (sym (loop.later at low) ∙ next.chosen)) in
    record {
      home = c.in-Nothing.ensures.home ∙ loop.home;
      plan = c.in-Nothing.ensures.plan ∙ loop.plan;
      capacity = c.in-Nothing.ensures.capacity ∙ loop.capacity;
      written = c.in-Nothing.ensures.written ∙ loop.written;
      width = c.rest.ensures.fits (length events) (subst (λ h. g.H.Hints.fits h (length events)) (sym kept) loop.width);
      held = held_more p (g.B.Bench.told c.args.bench.now).objects events (g.H.Hints.awake c.loop-at.hints) (g.H.Hints.awake c.rest.new.self) at (get_or events at 0) (slice_get-get_or events at 0 less)
          (held_by p (start_try p (get_or events at 0)) _ _ _ _ same c.in-Nothing.ensures.looked) (λ i other. c.rest.ensures.others i other ∙ ap (λ h. g.H.Hints.awake h i) kept) loop.held;
      short = omega arith;
      later = λ i behind. c.rest.ensures.others i (λ e. omega (arith, behind, e)) ∙ ap (λ h. g.H.Hints.awake h i) kept ∙ loop.later i (omega (arith, behind, low));
      looked = event_tried p events at less _ _ _ (g.B.Bench.told c.args.bench.now) (g.B.Bench.told c.loop-at.bench) (g.B.Bench.told c.try_event.new.bench) Nothing (sym counted) passed c.in-Nothing.ensures.looked;
    }

pub returns-clause-looked : goal.returns-clause-looked
returns-clause-looked g c =
    let p = plan_of c.args.p.now in
    let loop = c.loop-at.invariant in
    let events = c.args.events.now in
    let awake = g.H.Hints.awake c.args.hints.now in
    let f = event_looks p events awake in
    let none = c.in_default.ensures.next in
    let passed = passed_by p events (g.H.Hints.awake c.loop-at.hints) c.loop-at.from (length events) _ (g.B.Bench.told c.args.bench.now) (g.B.Bench.told c.loop-at.bench) loop.short loop.held none loop.looked in
    let all : sum_below f c.loop-at.from ≡ sum_below f (length events) = sym (sum_none f c.loop-at.from (length events) loop.short
    (λ i behind before. asleep_looks p events awake i (sym (loop.later i behind) ∙ none i behind before))) in
    looked_as p _ _ _ _ _ _ Nothing (ap (gathered (start_try p)) (take-length events)) all passed
