use Rattle.std.proofs.Common.{ℕ, ◌+◌, ◌*◌, ◌/◌, length, get_or, Some, arith, inl, inr, rules, w64}
use Rattle.std.proofs.lemmas.Bool.{cases_lt}
use Rattle.std.proofs.lemmas.Nat.Bits.{bit_at-trailing_zeros}
use Rattle.std.specs.Int.{trailing_zeros}
use Rattle.place_set.proofs.Words.{first_in, none_marked, beyond, clear_past}
use Rattle.place_set.proofs.set.first_behind.Goals as goal

pub returns-in-Some : goal.returns-in-Some
returns-in-Some c =
    let words = c.args.words.now in
    let word : ℕ = c.in-Some.word in
    let found = c.in-Some.ensures in
    let after = found.0 in
    let lowest = bit_at-trailing_zeros w64 (get_or words word 0) (c.requires.summary.some word c.if-word-words.true found.1) (search rules) in
    beyond words (c.args.behind * 64 + 64) (word * 64) (Some (word * 64 + trailing_zeros w64 (get_or words word 0))) (omega arith)
    (λ place after before. none_marked c.args.len words c.args.summary.now c.requires.summary (c.args.behind + 1) word found.2 place (omega arith) before)
    (first_in words (word * 64) word 0 (trailing_zeros w64 (get_or words word 0)) (omega arith) (λ place after before. absurd (omega arith)) (
      omega arith,
      lowest.0,
      lowest.1,
      λ place after before. lowest.2 place before,
    ))

pub returns-in_default : goal.returns-in_default
returns-in_default c = λ place after.
    let words = c.args.words.now in
    let past = c.if-word-words.false in elim (cases_lt place (length words * 64)) [
      | inl low ↦
          none_marked c.args.len words c.args.summary.now c.requires.summary (c.args.behind + 1) (length words)
          (λ word first last. c.in-Some.ensures.2 word first (omega arith)) place (omega arith) low
      | inr high ↦ clear_past words place high
    ]

pub returns-in_default-2 : goal.returns-in_default-2
returns-in_default-2 c = λ place after.
    none_marked c.args.len c.args.words.now c.args.summary.now c.requires.summary (c.args.behind + 1) (place / 64 + 1)
    (λ word first last. c.in_default.ensures word first) place (omega arith) (omega arith)
