-- A piece that is written in several calls.
use Rattle.std.proofs.Common.{◌≡◌, ◌+◌, ◌-◌, ◌≤◌, ℕ, List, take, drop, take-add, length, subst, arith}
use Rattle.std.specs.Prelude.{Option}
use Rattle.std.proofs.lemmas.Grind.{common_steps}
use Rattle.std.proofs.lemmas.List.{take_rest}
use Rattle.std.specs.Io.KnownBytes.{Appends}
use Rattle.std.proofs.KnownBytes.{Appends-trans}

-- the rest of a piece behind what is written of it, as a call is given it
abbrev pub rest_of : List ℕ → ℕ → List ℕ
rest_of piece written = take (length piece - written) (drop written piece)

-- a call has written the first bytes of the rest
pub written_more : (old now new : Option (List ℕ)) (piece : List ℕ) (written count : ℕ)
    → written ≤ length piece → count ≤ length (rest_of piece written)
    → Appends old now (take written piece) → Appends now new (take count (rest_of piece written))
    → (written + count ≤ length piece) × Appends old new (take (written + count) piece)
written_more old now new piece written count within fits p q =
    let whole : rest_of piece written ≡ drop written piece = take_rest piece written in
    let some : count ≤ length (drop written piece) = subst (λ l. count ≤ length l) whole fits in
    let more : Appends now new (take count (drop written piece)) = subst (λ l. Appends now new (take count l)) whole q in
    (grind (arith, common_steps), rw (take-add written count piece) (Appends-trans old now new (take written piece) (take count (drop written piece)) p more))
