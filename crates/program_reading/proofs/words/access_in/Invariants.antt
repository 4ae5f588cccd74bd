use Rattle.std.proofs.Common.{◌≡◌, map, drop}
use Rattle.runnable_lang.specs.declared.program.AccessKind.TheVariants as kind
use Rattle.program_reading.specs.Words.{access_word, meaning}
use Rattle.program_reading.proofs.words.access_in.Given as goal

abbrev pub invariant-loop-known : goal.invariant-loop-known
invariant-loop-known l = meaning (map access_word (drop l.known-index l.words)) kind.Write l.word ≡ meaning (map access_word l.words) kind.Write l.word
