use Rattle.std.proofs.Common.{length, sym, ap, ◌∙◌, ◌+◌, ◌<◌, ◌≤◌, ◌==◌, ◌/◌, ◌^◌, arith}
use Rattle.std.proofs.lemmas.Bool.{le-leb}
use Rattle.trace_reading.proofs.Marks.{none_beyond, all_within}
use Rattle.trace_reading.proofs.list_owners.marks_fit.Goals as goal

pub returns-then-elems-ge16 : goal.returns-then-elems-ge16
returns-then-elems-ge16 c =
    let n = length c.args.elems.now in
    let few : c.args.written < 65536 = omega (arith, c.ranges.written.fits) in
    le-leb 16 n c.if-elems-ge16.true ∙ sym (all_within c.args.written n few c.if-elems-ge16.true)

pub returns-else-elems-ge16 : goal.returns-else-elems-ge16
returns-else-elems-ge16 c =
    ap (λ w. (w / 2 ^ length c.args.elems.now) == 0) c.from.ensures ∙ none_beyond c.args.written (length c.args.elems.now)
