use Rattle.std.proofs.Common.{◌≡◌, IsTrue, ◌↔◌, sym, ◌∙◌, subst}
use Rattle.rte_value.specs.Values.{words_of, same_words}
use Rattle.rte_value.specs.EqualValues.{pointwise-same_words, same_words-Decides, same_value-Decides}
use Rattle.rte_value.proofs.value.ValuePartialEq.eq.Goals as goal

-- the two slices are compared as the definition does
told : (c : goal.After-eq) → c.eq.result ≡ same_words (words_of c.args.self.now) (words_of c.args.other.now)
told c = c.eq.ensures ∙ rw c.words.ensures.words (rw c.words-2.ensures.words (pointwise-same_words (words_of c.args.self.now) (words_of c.args.other.now)))

pub returns-clause-same_words : goal.returns-clause-same_words
returns-clause-same_words c =
    subst (λ r. IsTrue r ↔ (words_of c.args.self.now ≡ words_of c.args.other.now)) (sym (told c))
    (same_words-Decides (words_of c.args.self.now) (words_of c.args.other.now))

pub returns-clause-same_value : goal.returns-clause-same_value
returns-clause-same_value c =
    subst (λ r. IsTrue r ↔ (c.args.self.now ≡ c.args.other.now)) (sym (told c))
    (same_value-Decides c.args.self.now c.args.other.now)
