use Rattle.std.proofs.Common.{◌≡◌, take}
use Rattle.arrayvec.specs.ArrayVec.{array_vec_len}
use Rattle.task_machine.specs.Words.{words_given}
use Rattle.task_machine.proofs.given.Given.value_of_all.Given as goal

abbrev pub invariant-loop-word : goal.invariant-loop-word
invariant-loop-word l = record {
  so_far : l.words.items ≡ words_given l.vars (take l.word-index l.self.words.items);
  counted : array_vec_len l.words ≡ l.word-index;
}
