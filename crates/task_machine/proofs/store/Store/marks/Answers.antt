use Rattle.std.proofs.Common.{◌≡◌, ◌+◌, ◌-◌, ◌<◌, length, arith}
use Rattle.task_machine.specs.Spots.{store_of}
use Rattle.task_machine.specs.Listed.{has_written}
use Rattle.task_machine.proofs.Listing.{few_marks, marks_end, marks_turn}
use Rattle.task_machine.proofs.store.Store.marks.Goals as goal

pub loop-left-init : goal.loop-left-init
loop-left-init c = record {
  within = omega (arith, c.min-left.ensures);
  few = omega (arith, c.min-left.ensures);
  small = omega arith;
  so_far = marks_end (has_written (store_of c.args.self.now)) c.args.slots.now c.min-left.result c.min-left.ensures;
}

pub loop-left-preserved : goal.loop-left-preserved
loop-left-preserved c =
    let slots = c.args.slots.now in
    let n = c.loop-left.left - 1 in
    let back : c.loop-left.left ≡ n + 1 = omega (arith, c.loop-left-test.true) in
    let within : n < length slots = omega (arith, c.loop-left-test.true, c.loop-left.invariant.within) in
    let few : n < 16 = omega (arith, c.loop-left-test.true, c.loop-left.invariant.few) in
    let test = has_written (store_of c.args.self.now) in
    let so_far = marks_turn test slots n c.loop-left.left 0 c.loop-left.marks c.bit.result c.has_written-written.result back within few c.bit.ensures.bit c.has_written-written.ensures c.loop-left.invariant.so_far in
    record {
      within = omega (arith, c.loop-left.invariant.within);
      few = omega (arith, c.loop-left.invariant.few);
      small = omega (arith, so_far, few_marks test slots n);
      so_far = so_far;
    }
