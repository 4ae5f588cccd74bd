-- A text that begins with a line has it as its first one.
use Rattle.std.proofs.Common.{◌≡◌, true, not, ◌==◌, [], ◌++◌, codes, refl, inl, inr, sym, ap, ◌∙◌, subst, append_assoc}
use Rattle.bus_semantics.specs.Common.{and_parts, false≢true, append-nil, list_all-append, Letters, header}
use Rattle.bus_semantics.specs.declared.version.Version.{Version}
use Rattle.bus_semantics.specs.declared.version.Version.TheVariants.{One, Two}
use Rattle.trace_reading.proofs.TextCuts.{cut}
use Rattle.trace_reading.specs.Reads.{IsOneLine}
use Rattle.trace_check.specs.FirstLines.{Ends, IsFirstLine, is_unbroken}

ends_not : (t rest : Letters) → is_unbroken ((t ++ codes "\n") ++ rest) ≡ true → ⊥
ends_not t rest all =
    let one = and_parts (is_unbroken (t ++ codes "\n")) (is_unbroken rest) (sym (list_all-append (λ c. not (c == 10)) (t ++ codes "\n") rest) ∙ all) in
    let two = and_parts (is_unbroken t) (is_unbroken (codes "\n")) (sym (list_all-append (λ c. not (c == 10)) t (codes "\n")) ∙ one.0) in
    false≢true two.1

-- the first line is this one
pub first_is : (line more whole rest : Letters) → IsFirstLine line more → IsOneLine whole → line ++ more ≡ whole ++ rest → (line ≡ whole) × (more ≡ rest)
first_is line more whole rest first one e = elim first [ inl ends ↦ ended ends | inr rest ↦ opened rest.0 rest.1 ]
  where
    parted : line ++ more ≡ (one.line ++ codes "\n") ++ rest
    parted = e ∙ ap (λ t. t ++ rest) one.whole

    ended : Ends line → (line ≡ whole) × (more ≡ rest)
    ended ends =
        let cuts = cut ends.before one.line more rest ends.unbroken one.unbroken
        (sym (append_assoc ends.before (codes "\n") more) ∙ ap (λ t. t ++ more) (sym ends.is) ∙ parted ∙ append_assoc one.line (codes "\n") rest) in
        (ends.is ∙ ap (λ t. t ++ codes "\n") cuts.0 ∙ sym one.whole, cuts.1)

    opened : is_unbroken line ≡ true → more ≡ [] → (line ≡ whole) × (more ≡ rest)
    opened unbroken none =
        let all : line ≡ (one.line ++ codes "\n") ++ rest = sym (append-nil line) ∙ ap (λ t. line ++ t) (sym none) ∙ parted in
        absurd (ends_not one.line rest (subst (λ t. is_unbroken t ≡ true) all unbroken))

-- a header is one line
pub header_is_line : (v : Version) → IsOneLine (header v)
header_is_line One = record { line = codes "rte-trace 1"; whole = refl; unbroken = refl }
header_is_line Two = record { line = codes "rte-trace 2"; whole = refl; unbroken = refl }
