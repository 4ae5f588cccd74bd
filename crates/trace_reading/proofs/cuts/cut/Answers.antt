use Rattle.trace_reading.proofs.Cutting.{cut_is}
use Rattle.trace_reading.proofs.cuts.cut.Goals as goal

pub returns : goal.returns
returns c =
    let is = cut_is c.args.separator c.args.text.now c.cut.result.0.now c.cut.result.1 c.cut.ensures.parts in
    record { before = is.0; behind = is.1 }
