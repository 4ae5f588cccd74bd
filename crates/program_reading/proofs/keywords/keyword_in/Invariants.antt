use Rattle.std.proofs.Common.{◌≡◌, map, drop}
use Rattle.program_reading.specs.declared.keywords.Keyword.TheVariants as keyword
use Rattle.program_reading.specs.Keywords.{statement_word}
use Rattle.program_reading.specs.Words.{meaning}
use Rattle.program_reading.proofs.keywords.keyword_in.Given as goal

abbrev pub invariant-loop-known : goal.invariant-loop-known
invariant-loop-known l = meaning (map statement_word (drop l.known-index l.words)) keyword.Set l.word ≡ meaning (map statement_word l.words) keyword.Set l.word
