use Rattle.std.proofs.Common.{◌%◌, ◌/◌, ◌==◌, ◌∙◌, sym, ap, subst, cond, ℕ, codes}
use Rattle.trace_text.specs.Appending.{Appends}
use Rattle.trace_text.proofs.Marks.{more_marked, one_less}
use Rattle.trace_text.proofs.lists.write_marks.Goals as goal

pub loop-preserved : goal.loop-preserved
loop-preserved c =
    let w = c.args.written in
    let i = c.loop.counter in
    let loop = c.loop.invariant in
    record {
      text = more_marked w i c.args.elems.now c.args.out.now c.loop.out c.write_mark.new.out c.loop-test.true loop.text
          (subst (λ (n : ℕ). Appends c.loop.out c.write_mark.new.out (cond (n % 2 == 1) (codes "1") (codes "0"))) loop.marks c.write_mark.ensures);
      marks = ap (λ n. n / 2) loop.marks ∙ sym (one_less i w);
    }
