use Rattle.pair_run.proofs.Moments as by
use Rattle.pair_run.proofs.coherence.values_have_their_words.Goals as goal

pub returns-clause-words : goal.returns-clause-words
returns-clause-words c = by.words

pub returns-clause-few : goal.returns-clause-few
returns-clause-few c = by.few
