use Rattle.std.proofs.Common.{◌≡◌, ℤ, List, [], ◌∷◌, ◌++◌, ◌⊎◌, inl, inr, map, refl, sym, ap, ◌∙◌}
use Rattle.bus_semantics.specs.Common.{append-nil, either_empty_from_Zip, Limits, clamped_each, Expr, worth, exprs}
use Rattle.task_machine.specs.Words.{words_given}
use Rattle.task_generator.proofs.generator.Generator.given_words.Goals as goal

-- nothing is left of the limits or of the values
at_end : (vars : List ℤ) (limits : List Limits) (values : List Expr) → (limits ≡ []) ⊎ (values ≡ []) → clamped_each limits (map (worth vars) (exprs values)) ≡ []
at_end vars [] values none = refl
at_end vars (l ∷ limits) [] none = refl
at_end vars (l ∷ limits) (v ∷ values) (inl none) = cc
at_end vars (l ∷ limits) (v ∷ values) (inr none) = cc

pub returns-clause-words : goal.returns-clause-words
returns-clause-words c s =
    let none = at_end s.vars c.loop-limits.limits-iterator.a.rest.now c.loop-limits.limits-iterator.b.rest.now
    (either_empty_from_Zip c.loop-limits.limits-iterator c.next.new.self c.next.result c.in-None.is c.next.ensures.steps) in
    let words = words_given s.vars c.loop-limits.words.items in
    sym (append-nil words) ∙ ap (λ ws. words ++ ws) (sym none) ∙ c.loop-limits.invariant.given s
