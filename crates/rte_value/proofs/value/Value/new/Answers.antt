use Rattle.std.proofs.Common.{pos, ◌++◌, length, drop, replicate, refl, ◌∙◌, ap}
use Rattle.rte_value.proofs.Padded.{append-drop_zeros, padded-itself}
use Rattle.rte_value.proofs.value.Value.new.Goals as goal

pub invariant_of-result-clause-padded : goal.invariant_of-result-clause-padded
invariant_of-result-clause-padded c =
    let words = c.args.words.now in
    padded-itself _ words (length words) refl
    (ap (λ ws. ws ++ drop (length words) (replicate 16 (pos 0))) c.copy_from_slice.ensures.after ∙ append-drop_zeros words)
