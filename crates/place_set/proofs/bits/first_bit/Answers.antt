use Rattle.std.proofs.Common.{◌*◌, arith, inl, inr}
use Rattle.std.proofs.lemmas.Bool.{cases_lt}
use Rattle.place_set.proofs.Words.{first_in, none_in, clear_past}
use Rattle.place_set.proofs.bits.first_bit.Goals as goal

pub returns-in-Some : goal.returns-in-Some
returns-in-Some c =
    first_in c.args.words.now c.args.from c.loop-word.word c.loop-word.behind c.in-Some.at c.loop-word.invariant.behind c.loop-word.invariant.none c.in-Some.ensures

pub loop-word-preserved : goal.loop-word-preserved
loop-word-preserved c =
    let is = c.loop-word.invariant.behind in
    let small = c.loop-word.invariant.small in
    record {
      behind = omega arith;
      small = omega arith;
      none = λ place after before. none_in c.args.words.now c.args.from c.loop-word.word c.loop-word.behind is c.loop-word.invariant.none c.in_default.ensures place after (omega arith);
    }

pub returns : goal.returns
returns c = λ place after. elim (cases_lt place (c.loop-word.word * 64)) [
  | inl low ↦ c.loop-word.invariant.none place after low
  | inr high ↦ clear_past c.args.words.now place (omega arith)
]
