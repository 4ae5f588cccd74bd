use Rattle.std.proofs.Common.{◌≡◌, [], ◌∷◌, ◌++◌, length, decimal, sym, ap, ◌∙◌, subst, arith, lit<}
use Rattle.std.proofs.lemmas.Fmt.{decimal_digit}
use Rattle.trace_text.specs.Appending.{Appends}
use Rattle.trace_text.proofs.fields.write_code.Goals as goal

pub returns-then-code-eq0-clause-text : goal.returns-then-code-eq0-clause-text
returns-then-code-eq0-clause-text c =
    let zero : decimal c.args.code ≡ 48 ∷ [] = ap decimal c.if-code-eq0.true ∙ decimal_digit 0 (lit< tt) in
    subst (λ t. Appends c.args.out.now c.write_text.new.out (32 ∷ (t ++ 32 ∷ []))) (sym zero) c.write_text.ensures

pub returns-then-code-eq0-clause-short : goal.returns-then-code-eq0-clause-short
returns-then-code-eq0-clause-short c =
    let digit : length (decimal c.args.code) ≡ 1 = ap (λ n. length (decimal n)) c.if-code-eq0.true ∙ ap length (decimal_digit 0 (lit< tt)) in
    omega (arith, digit)
