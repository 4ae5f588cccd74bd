use Rattle.std.proofs.Common.{◌≡◌, ◌*◌, ◌+◌, ◌-◌, ◌&&◌, ℕ, ℤ, Fits, sym, ap, ◌∙◌, subst, arith}
use Rattle.std.proofs.lemmas.Int.{of_z-to_z}
use Rattle.std.specs.Int.{w64, cast_signed, cast_unsigned}
use Rattle.std.specs.Int.RustNames.{int_le}
use Rattle.signal_link.proofs.Heads.{greatest, greatest_fits, least, open_where_reached, span_fits, span_pos}
use Rattle.signal_link.proofs.word_head.WordHead.may_be_within.Goals as goal

pub pow-span-requires : goal.pow-span-requires
pow-span-requires c = span_fits c.args.self c.requires.some

pub overflow_mul-least : goal.overflow_mul-least
overflow_mul-least c =
    let fits = greatest_fits c.args.self c.requires.head in
    subst (λ (s : ℕ). Fits w64 (c.args.self.number * s)) (sym c.pow-span.ensures) (omega arith)

pub overflow_sub-greatest : goal.overflow_sub-greatest
overflow_sub-greatest c = let pos = span_pos c.args.self in let e = c.pow-span.ensures in omega arith

pub overflow_add-greatest : goal.overflow_add-greatest
overflow_add-greatest c =
    let fits = greatest_fits c.args.self c.requires.head in
    subst (λ (s : ℕ). Fits w64 (c.args.self.number * s + (s - 1))) (sym c.pow-span.ensures) (omega arith)

pub returns-clause-open : goal.returns-clause-open
returns-clause-open c =
    let h = c.args.self in
    let fits = greatest_fits c.args.self c.requires.head in
    let low : c.cast_signed.result ≡ cast_signed w64 (least c.args.self) =
    c.cast_signed.ensures ∙ ap (λ (s : ℕ). cast_signed w64 (c.args.self.number * s)) c.pow-span.ensures in
    let high : c.cast_signed-2.result ≡ cast_signed w64 (greatest c.args.self) =
    c.cast_signed-2.ensures ∙ ap (λ (s : ℕ). cast_signed w64 (c.args.self.number * s + (s - 1))) c.pow-span.ensures in
    let low_back : cast_signed w64 (cast_unsigned w64 c.cast_signed.result) ≡ cast_signed w64 (least c.args.self) =
    ap (λ (z : ℤ). cast_signed w64 (cast_unsigned w64 z)) low ∙ ap (λ (n : ℕ). cast_signed w64 n) (of_z-to_z w64 (least c.args.self) (omega arith)) in
    let high_back : cast_signed w64 (cast_unsigned w64 c.cast_signed-2.result) ≡ cast_signed w64 (greatest c.args.self) =
    ap (λ (z : ℤ). cast_signed w64 (cast_unsigned w64 z)) high ∙ ap (λ (n : ℕ). cast_signed w64 n) (of_z-to_z w64 (greatest c.args.self) fits) in
    open_where_reached c.args.limits.now c.args.self c.requires.head c.requires.some c.reach.ensures.low c.reach.ensures.high c.requires.ordered c.reach.result
    (c.reach.ensures.reach ∙ (λ i. int_le c.args.limits.now.low (high_back i) && int_le (low_back i) c.args.limits.now.high))
