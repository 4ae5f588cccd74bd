use Rattle.std.proofs.Common.{◌≡◌, ◌<◌, ◌≤◌, sym, ◌∙◌, arith, length}
use Rattle.latches.proofs.Places.{found_at}
use Rattle.core_runtime.proofs.Together.{roused_next, roused_all, shaped_at, task_count}
use Rattle.core_runtime.proofs.watch.rouse_all.Goals as goal

pub bounds-cores-number : goal.bounds-cores-number
bounds-cores-number c = omega (arith, c.loop-number-test.true, c.loop-number.invariant.count, c.requires.1.count, task_count c.requires.0 c.args.cores.now c.requires.2)

pub wake_all-requires : goal.wake_all-requires
wake_all-requires c =
    let xs = c.loop-number.awake.items in
    let n = c.loop-number.number in
    let within : n < length xs = omega (arith, c.loop-number-test.true, c.loop-number.invariant.count) in
    let inside : n < length c.args.cores.now = omega (arith, within, c.loop-number.invariant.count, c.requires.1.count, task_count c.requires.0 c.args.cores.now c.requires.2) in
    shaped_at c.requires.0 c.args.cores.now c.args.awake.now.items xs n c.index-cores-number.result c.index_mut.result.now c.requires.1 c.requires.2 c.loop-number.invariant
    (found_at c.args.cores.now n c.index-cores-number.result inside c.index-cores-number.is) (found_at xs n c.index_mut.result.now within c.index_mut.ensures.value)

pub loop-number-preserved : goal.loop-number-preserved
loop-number-preserved c =
    let xs = c.loop-number.awake.items in
    let n = c.loop-number.number in
    let inside : n < length c.args.cores.now = omega (arith, c.loop-number-test.true, c.loop-number.invariant.count, c.requires.1.count, task_count c.requires.0 c.args.cores.now c.requires.2) in
    roused_next c.args.cores.now n c.args.awake.now.items xs c.index-cores-number.result c.wake_all.new.self (found_at c.args.cores.now n c.index-cores-number.result inside c.index-cores-number.is)
    (record { fits = c.wake_all.ensures.fits; held = c.wake_all.ensures.held }) c.loop-number.invariant

pub returns : goal.returns
returns c =
    let same : length c.args.awake.now.items ≡ length c.args.cores.now = c.requires.1.count ∙ sym (task_count c.requires.0 c.args.cores.now c.requires.2) in
    let all : length c.loop-number.awake.items ≤ c.loop-number.number = omega (arith, c.loop-number-test.false, c.loop-number.invariant.count) in
    roused_all c.args.cores.now c.loop-number.number c.args.awake.now.items c.loop-number.awake.items same all c.loop-number.invariant
