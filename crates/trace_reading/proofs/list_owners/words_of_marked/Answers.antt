use Rattle.std.proofs.Common.{◌≡◌, ◌+◌, ◌*◌, ◌≤◌, drop, arith}
use Rattle.bus_semantics.specs.Common.{marked, words_of_all, plan_of}
use Rattle.trace_reading.proofs.Marks.{words_by_next}
use Rattle.trace_reading.proofs.list_owners.words_of_marked.Goals as goal

pub loop-elem-preserved : goal.loop-elem-preserved
loop-elem-preserved c =
    let loop = c.loop-elem.invariant in
    let step = c.words_if_marked-words.ensures in
    let next = words_by_next (plan_of c.args.p.now) c.loop-elem.marks c.loop-elem.elem-index c.args.elems.now c.loop-elem-test.true in
    record {
      whole = omega (arith, loop.whole, step.words, next);
      few = omega (arith, loop.few, step.few);
    }
