use Rattle.std.proofs.Common.{◌≡◌, ◌≤◌, ◌<◌, ◌++◌, ◌∷◌, [], suc, refl, sym, ◌∙◌, ap, subst, arith, List, length, map, take, Some}
use Rattle.std.specs.Prelude.{sum}
use Rattle.bus_semantics.specs.Common.{slice_get, length-map, length_push, plan_of}
use Rattle.port_objects.specs.declared.object.Object.{Object}
use Rattle.port_objects.specs.Objects.{ArePlans}
use Rattle.live_lanes.specs.declared.caller.Caller.{Caller}
use Rattle.live_lanes.specs.declared.workers.Worker.{Worker}
use Rattle.live_lanes.specs.Beside.{HasServed}
use Rattle.live_lanes.specs.Workers.{HaveWorked, all_outside}
use Rattle.live_lanes.proofs.Beginning.{ground, workers_long, ready, worked, left, left_long, is_done}
use Rattle.live_lanes.proofs.Runs.{last_seat, own_count}
use Rattle.live_lanes.proofs.beside.run_begun.Goals as goal

pub lengths-requires-clause-few : goal.lengths-requires-clause-few
lengths-requires-clause-few g c = c.requires.feeds.few

pub seat_all-workers-requires-clause-seats : goal.seat_all-workers-requires-clause-seats
seat_all-workers-requires-clause-seats g c =
    let b = c.requires.begun in
    let env = last_seat c.args.begun.seats.items c.pop.new.self.items c.pop.result (length c.args.begun.cores.items) c.args.begun.seats.len c.pop.new.self.len c.pop.ensures.items (omega arith) (b.1.opened.seated.count ∙ b.1.opened.number) c.pop.ensures.cases in
    own_count (plan_of c.args.p.now) c.args.t.now b.0 c.args.begun.round c.args.begun.cores.items c.args.begun.seats.items c.pop.new.self.items env.0 b.1.opened env.2

pub join_all-workers-requires : goal.join_all-workers-requires
join_all-workers-requires g c =
    let b = c.requires.begun in
    let env = last_seat c.args.begun.seats.items c.pop.new.self.items c.pop.result (length c.args.begun.cores.items) c.args.begun.seats.len c.pop.new.self.len c.pop.ensures.items (omega arith) (b.1.opened.seated.count ∙ b.1.opened.number) c.pop.ensures.cases in
    let long = workers_long g.F.Feeding.lengths (plan_of c.args.p.now) c.args.t.now c.args.feeds.now b.0 c.args.begun.round c.args.begun.cores.items c.args.begun.seats.items c.pop.new.self.items env.0 c.args.begun.queued
    b.1.opened env.2 b.3 b.1.queue c.seat_all-workers.result.items c.seat_all-workers.ensures.cores in
    omega (arith, long, c.seat_all-workers.ensures.space, b.1.places.workers.1)

pub work_all-requires-clause-ground : goal.work_all-requires-clause-ground
work_all-requires-clause-ground g c = λ κs lives.
    let b = c.requires.begun in
    let env = last_seat c.args.begun.seats.items c.pop.new.self.items c.pop.result (length c.args.begun.cores.items) c.args.begun.seats.len c.pop.new.self.len c.pop.ensures.items (omega arith) (b.1.opened.seated.count ∙ b.1.opened.number) c.pop.ensures.cases in
    ground g.F.Feeding.lengths (plan_of c.args.p.now) c.args.t.now c.args.feeds.now b.0 c.args.begun.round c.args.begun.cores.items c.args.begun.seats.items c.pop.new.self.items env.0 c.args.begun.queued
    b.1.opened env.2 b.3 b.1.queue c.requires.bodies c.requires.lengths c.requires.feeds

pub work_all-requires-clause-few : goal.work_all-requires-clause-few
work_all-requires-clause-few g c = λ κs lives.
    let b = c.requires.begun in
    let env = last_seat c.args.begun.seats.items c.pop.new.self.items c.pop.result (length c.args.begun.cores.items) c.args.begun.seats.len c.pop.new.self.len c.pop.ensures.items (omega arith) (b.1.opened.seated.count ∙ b.1.opened.number) c.pop.ensures.cases in
    let long = workers_long g.F.Feeding.lengths (plan_of c.args.p.now) c.args.t.now c.args.feeds.now b.0 c.args.begun.round c.args.begun.cores.items c.args.begun.seats.items c.pop.new.self.items env.0 c.args.begun.queued
    b.1.opened env.2 b.3 b.1.queue c.seat_all-workers.result.items c.seat_all-workers.ensures.cores in
    let all = ap (λ (ws : List Worker). length ws) c.as_mut_slice.ensures.value ∙ c.join_all-workers.ensures.count in
    let some = c.requires.count.0 in
    let few = c.requires.count.1 in
    (omega (arith, long, all, some), omega (arith, long, all, few))

pub work_all-requires-clause-ready : goal.work_all-requires-clause-ready
work_all-requires-clause-ready g c = λ κs lives i w found.
    let b = c.requires.begun in
    let env = last_seat c.args.begun.seats.items c.pop.new.self.items c.pop.result (length c.args.begun.cores.items) c.args.begun.seats.len c.pop.new.self.len c.pop.ensures.items (omega arith) (b.1.opened.seated.count ∙ b.1.opened.number) c.pop.ensures.cases in
    let caller : Caller = record { pump = c.args.begun.queued.pump; seat = c.pop.result; wishes = c.total.result } in
    let is : c.as_mut_slice.result.now ≡ c.seat_all-workers.result.items ++ all_outside caller c.args.begun.queued.feeders = c.as_mut_slice.ensures.value ∙ c.join_all-workers.ensures.all in
    ready g.F.Feeding.lengths (plan_of c.args.p.now) c.args.t.now c.args.feeds.now b.0 c.args.begun.round c.args.begun.cores.items c.args.begun.seats.items c.pop.new.self.items env.0 c.args.begun.queued
    b.1.opened env.2 b.3 b.1.queue c.seat_all-workers.result.items c.seat_all-workers.ensures.cores caller refl env.1 (c.total.ensures ∙ ap sum (c.lengths.ensures ∙ sym c.requires.lengths)) c.requires.room i w
    (subst (λ (ws : List Worker). slice_get ws i ≡ Some w) is found)

pub close-requires : goal.close-requires
close-requires g c =
    let b = c.requires.begun in
    let p = plan_of c.args.p.now in
    let t = c.args.t.now in
    let feeds = c.args.feeds.now in
    let r = c.args.begun.round in
    let cores = c.args.begun.cores.items in
    let seats = c.args.begun.seats.items in
    let own = c.pop.new.self.items in
    let ls = g.F.Feeding.lengths in
    let env = last_seat seats own c.pop.result (length cores) c.args.begun.seats.len c.pop.new.self.len c.pop.ensures.items (omega arith) (b.1.opened.seated.count ∙ b.1.opened.number) c.pop.ensures.cases in
    let caller : Caller = record { pump = c.args.begun.queued.pump; seat = c.pop.result; wishes = c.total.result } in
    let first = c.seat_all-workers.result.items in
    let is : c.as_mut_slice.result.now ≡ first ++ all_outside caller c.args.begun.queued.feeders = c.as_mut_slice.ensures.value ∙ c.join_all-workers.ensures.all in
    let after : List Worker = c.work_all.new.workers in
    let w = worked ls p t feeds b.0 r cores seats own env.0 c.args.begun.queued b.1.opened env.2 b.3 b.1.queue first c.seat_all-workers.ensures.cores caller refl env.1 (c.total.ensures ∙ ap sum (c.lengths.ensures ∙ sym c.requires.lengths))
    after (subst (λ (ws : List Worker). HaveWorked p t feeds r ws after) is c.work_all.ensures) in
    let same : length after ≡ length c.join_all-workers.result.items = c.work_all.ensures.count ∙ ap (λ (ws : List Worker). length ws) c.as_mut_slice.ensures.value in
    let rest = c.truncate.ensures.items ∙ left ls p t feeds b.0 r cores seats own env.0 c.args.begun.queued b.1.opened env.2 b.3 b.1.queue c.join_all-workers.result.items after c.join_all-workers.result.len c.len-count.result same (omega arith) (omega arith) w in
    let long = left_long ls p t feeds b.0 r cores seats own env.0 c.args.begun.queued b.1.opened env.2 b.3 b.1.queue after w in
    record {
      cores = (b.1.places.cores.0, omega (arith, ap (λ (ws : List Worker). length ws) rest, long, b.1.places.cores.1));
      seats = (b.1.places.seats.0, omega (arith, ap (λ (ws : List Worker). length ws) rest, long, b.1.places.seats.1));
      done = (p, t, feeds, cores, w.lanes, w.caller, is_done ls p t feeds b.0 r cores seats own env.0 c.args.begun.queued b.1.opened env.2 b.3 b.1.queue after w, rest);
    }

pub returns : goal.returns
returns g c = λ objects begun planned.
    let b = c.requires.begun in
    let p = plan_of c.args.p.now in
    let t = c.args.t.now in
    let feeds = c.args.feeds.now in
    let r = c.args.begun.round in
    let cores = c.args.begun.cores.items in
    let seats = c.args.begun.seats.items in
    let own = c.pop.new.self.items in
    let ls = g.F.Feeding.lengths in
    let env = last_seat seats own c.pop.result (length cores) c.args.begun.seats.len c.pop.new.self.len c.pop.ensures.items (omega arith) (b.1.opened.seated.count ∙ b.1.opened.number) c.pop.ensures.cases in
    let caller : Caller = record { pump = c.args.begun.queued.pump; seat = c.pop.result; wishes = c.total.result } in
    let first = c.seat_all-workers.result.items in
    let is : c.as_mut_slice.result.now ≡ first ++ all_outside caller c.args.begun.queued.feeders = c.as_mut_slice.ensures.value ∙ c.join_all-workers.ensures.all in
    let after : List Worker = c.work_all.new.workers in
    let w = worked ls p t feeds b.0 r cores seats own env.0 c.args.begun.queued b.1.opened env.2 b.3 b.1.queue first c.seat_all-workers.ensures.cores caller refl env.1 (c.total.ensures ∙ ap sum (c.lengths.ensures ∙ sym c.requires.lengths))
    after (subst (λ (ws : List Worker). HaveWorked p t feeds r ws after) is c.work_all.ensures) in
    let same : length after ≡ length c.join_all-workers.result.items = c.work_all.ensures.count ∙ ap (λ (ws : List Worker). length ws) c.as_mut_slice.ensures.value in
    let rest = c.truncate.ensures.items ∙ left ls p t feeds b.0 r cores seats own env.0 c.args.begun.queued b.1.opened env.2 b.3 b.1.queue c.join_all-workers.result.items after c.join_all-workers.result.len c.len-count.result same (omega arith) (omega arith) w in
    let done = is_done ls p t feeds b.0 r cores seats own env.0 c.args.begun.queued b.1.opened env.2 b.3 b.1.queue after w in
    let all = subst (ArePlans p) (sym begun.opened.slots) planned in
    subst (λ (os : List Object). HasServed p t feeds cores os c.close.result) begun.opened.slots (c.close.ensures p t feeds cores w.lanes w.caller done rest all)
