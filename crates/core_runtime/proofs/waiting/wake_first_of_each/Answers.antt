use Rattle.std.proofs.Common.{◌<◌, ◌≤◌, arith, length}
use Rattle.core_runtime.specs.Watching.{IsWokenAt}
use Rattle.core_runtime.proofs.Areas.{up_to_next, up_to_all}
use Rattle.latches.proofs.Places.{found_at}
use Rattle.core_runtime.proofs.waiting.wake_first_of_each.Goals as goal

pub wake_first-requires-clause-areas : goal.wake_first-requires-clause-areas
wake_first-requires-clause-areas c =
    let xs = c.loop-number.awake.items in
    let n = c.loop-number.number in
    let within : n < length xs = omega (arith, c.loop-number-test.true, c.loop-number.invariant.count) in
    let at = found_at xs n c.index_mut.result.now within c.index_mut.ensures.value in
    (c.requires n c.index_mut.result.now (c.loop-number.invariant.behind n c.index_mut.result.now (omega arith) at)).areas

pub loop-number-preserved : goal.loop-number-preserved
loop-number-preserved c =
    let xs = c.loop-number.awake.items in
    let n = c.loop-number.number in
    let a = c.index_mut.result.now in
    let within : n < length xs = omega (arith, c.loop-number-test.true, c.loop-number.invariant.count) in
    let told : IsWokenAt c.args.object a c.wake_first.new.self = record { fits = c.wake_first.ensures.fits; starts = c.wake_first.ensures.starts; waiters = c.wake_first.ensures.waiters } in
    up_to_next c.args.object n c.args.awake.now.items xs a c.wake_first.new.self (found_at xs n a within c.index_mut.ensures.value) told c.loop-number.invariant

pub returns : goal.returns
returns c =
    let all : length c.args.awake.now.items ≤ c.loop-number.number = omega (arith, c.loop-number-test.false) in
    up_to_all c.args.object c.loop-number.number c.args.awake.now.items c.loop-number.awake.items all c.loop-number.invariant
