-- The parts of a text, as sound plans and as lines have them.
use Rattle.std.proofs.Common.{◌≡◌, ℕ, Bool, true, false, ◌==◌, List, [], ◌∷◌, refl, sym, ◌∙◌}
use Rattle.bus_semantics.specs.SoundNames as sound
use Rattle.bus_semantics.specs.Spelling.{Letters}
use Rattle.line_fields.specs.Texts.{parts}

pub same_parts : (s : ℕ) (t : Letters) → sound.parts s t ≡ parts s t
same_parts s [] = refl
same_parts s (c ∷ cs) = step (c == s) refl (parts s cs) (same_parts s cs) refl
  where
    step : (b : Bool) → (c == s) ≡ b → (us : List Letters) → sound.parts s cs ≡ us → parts s cs ≡ us → sound.parts s (c ∷ cs) ≡ parts s (c ∷ cs)
    step true is us e f =
        let left : sound.parts s (c ∷ cs) ≡ [] ∷ us = rw (is, e) refl in
        let right : parts s (c ∷ cs) ≡ [] ∷ us = rw (is, f) refl in
        left ∙ sym right
    step false is [] e f =
        let left : sound.parts s (c ∷ cs) ≡ (c ∷ []) ∷ [] = rw (is, e) refl in
        let right : parts s (c ∷ cs) ≡ (c ∷ []) ∷ [] = rw (is, f) refl in
        left ∙ sym right
    step false is (u ∷ us) e f =
        let left : sound.parts s (c ∷ cs) ≡ (c ∷ u) ∷ us = rw (is, e) refl in
        let right : parts s (c ∷ cs) ≡ (c ∷ u) ∷ us = rw (is, f) refl in
        left ∙ sym right
