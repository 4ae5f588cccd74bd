use Rattle.std.proofs.Common.{◌<◌, sym, subst, arith}
use Rattle.trace_reading.proofs.ListMarks.{behind_small}
use Rattle.trace_reading.proofs.lists.marks_in.Goals as goal

pub overflow_mul-marks : goal.overflow_mul-marks
overflow_mul-marks c =
    let small : c.loop-left.marks < 32768 =
    subst (λ n. n < 32768) (sym c.loop-left.invariant.marks) (behind_small c.args.text.now c.loop-left.left c.requires (omega arith) c.loop-left.invariant.within) in
    omega (arith, small)

pub overflow_add-marks : goal.overflow_add-marks
overflow_add-marks c =
    let small : c.loop-left.marks < 32768 =
    subst (λ n. n < 32768) (sym c.loop-left.invariant.marks) (behind_small c.args.text.now c.loop-left.left c.requires (omega arith) c.loop-left.invariant.within) in
    grind (arith, small, c.mark_in.ensures)
