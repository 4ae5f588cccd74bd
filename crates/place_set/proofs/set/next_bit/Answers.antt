use Rattle.std.proofs.Common.{◌+◌, ◌*◌, ◌/◌, ◌%◌, arith}
use Rattle.place_set.proofs.Words.{first_in, none_in, beyond, clear_past}
use Rattle.place_set.proofs.set.next_bit.Goals as goal

pub returns-then-word-words : goal.returns-then-word-words
returns-then-word-words c = λ place after. clear_past c.args.words.now place (omega arith)

pub returns-in-Some : goal.returns-in-Some
returns-in-Some c = first_in c.args.words.now c.args.from (c.args.from / 64) (c.args.from % 64) c.in-Some.at (omega arith) (λ place after before. absurd (omega arith)) c.in-Some.ensures

pub returns-in-None : goal.returns-in-None
returns-in-None c =
    beyond c.args.words.now c.args.from (c.args.from / 64 * 64 + 64) c.first_behind.result (omega arith)
    (none_in c.args.words.now c.args.from (c.args.from / 64) (c.args.from % 64) (omega arith) (λ place after before. absurd (omega arith)) c.in-None.ensures)
    c.first_behind.ensures
