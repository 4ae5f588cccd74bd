-- What the first part of a text is, and what is taken of a value.
use Rattle.std.specs.Prelude.{◌≡◌, ℕ, ℤ, ◌≤◌, List, [], ◌∷◌, ◌++◌, length, Bool, true, false, ◌⊎◌, MatchOption, Option}
use Rattle.bus_semantics.specs.Common.{Bor, Letters}
use Rattle.line_fields.specs.Texts.{parts}
use Rattle.line_fields.specs.Numbers.{is_held}

-- the first part, and what stands after the separator
abbrev pub IsCut : (separator : ℕ) → Letters → Bor Letters × Option (Bor Letters) → Type 0
IsCut s t r = MatchOption r.1 (parts s t ≡ r.0.now ∷ []) (λ rest. parts s t ≡ r.0.now ∷ parts s rest.now)

-- the word was appended; if not, it has more than 64 bits, or there are 16 words
abbrev pub HasTaken : List ℤ → List ℤ → ℤ → Bool → Type 0
HasTaken old new x true = (new ≡ old ++ x ∷ []) × (is_held x ≡ true)
HasTaken old new x false = (is_held x ≡ false) ⊎ (16 ≤ length old)
