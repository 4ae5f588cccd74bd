use Rattle.std.proofs.Common.{◌≡◌, ℕ, ℤ, List, [], ◌∷◌, ◌⊎◌, inl, inr, refl, sym, ◌∙◌}
use Rattle.bus_semantics.specs.Common.{either_empty_from_Zip, stored}
use Rattle.task_machine.proofs.store.put_words.Goals as goal

-- nothing is left of the numbers or of the words
at_end : (numbers : List ℕ) (words vars : List ℤ) → (numbers ≡ []) ⊎ (words ≡ []) → stored numbers words vars ≡ vars
at_end [] words vars none = refl
at_end (n ∷ numbers) [] vars none = refl
at_end (n ∷ numbers) (w ∷ words) vars (inl none) = cc
at_end (n ∷ numbers) (w ∷ words) vars (inr none) = cc

pub returns-clause-vars : goal.returns-clause-vars
returns-clause-vars c =
    sym (at_end c.loop-number.number-iterator.a.rest.now c.loop-number.number-iterator.b.rest.now c.loop-number.vars.items
    (either_empty_from_Zip c.loop-number.number-iterator c.next.new.self c.next.result c.in-None.is c.next.ensures.steps)) ∙ c.loop-number.invariant.left
