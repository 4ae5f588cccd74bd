use Rattle.std.proofs.Common.{pos, rules, w64, get_or, FitsSigned}
use Rattle.std.proofs.lemmas.Int.{to_z-of_z}
use Rattle.trace_text.proofs.Words.{more_short, more_written}
use Rattle.trace_text.proofs.fields.write_more_words.Goals as goal

pub loop-word-preserved : goal.loop-word-preserved
loop-word-preserved c =
    let ws = c.args.words.now in
    let i = c.loop-word.word-index in
    let fits : FitsSigned w64 (get_or ws i (pos 0)) = search rules in
    let word = rw (to_z-of_z w64 (get_or ws i (pos 0)) fits) at c.write_word.ensures.text in
    let small = rw (to_z-of_z w64 (get_or ws i (pos 0)) fits) at c.write_word.ensures.short in
    record {
      text = more_written ws i (pos 0) c.args.out.now c.loop-word.out c.write_text.new.out c.write_word.new.out c.loop-word-test.true c.loop-word.invariant.text c.write_text.ensures word;
      short = more_short ws i (pos 0) c.loop-word-test.true c.loop-word.invariant.short small;
    }
