use Rattle.std.proofs.Common.{rules}
use Rattle.place_set.proofs.Words.{none_left, first_left}
use Rattle.place_set.proofs.bits.first_of_word.Goals as goal

pub returns-then-rest-eq0 : goal.returns-then-rest-eq0
returns-then-rest-eq0 c = λ place after before. none_left c.args.word c.args.from (search rules) place after

pub returns : goal.returns
returns c = first_left c.args.word c.args.from (search rules) (search rules) (search rules)
