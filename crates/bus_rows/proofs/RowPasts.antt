-- The entries of a session part into pasts of the objects, by computing.
use Rattle.std.specs.Prelude.{◌≡◌, ℕ, List, [], ◌∷◌, Bool, true, ◌&&◌}
use Rattle.bus_semantics.specs.Common.{and_parts, Plan, Past, history_of, Session, answers, is_proper, matches, touches, entries_of, IsPastOf}
use Rattle.bus_laws.proofs.Computing.{answered}
use Rattle.bus_rows.specs.RowParts.{EachIsPast}

abbrev pub is_past : Plan → (object : ℕ) → Past → Bool
is_past p o [] = true
is_past p o (n ∷ l) = is_past p o l && (touches p o n && (is_proper p n && (answers p l n && matches p l n)))

abbrev pub are_pasts : Plan → Session → List ℕ → Bool
are_pasts p s [] = true
are_pasts p s (o ∷ os) = is_past p o (entries_of p (history_of s) o) && are_pasts p s os

past_of : (p : Plan) (o : ℕ) (l : Past) → is_past p o l ≡ true → IsPastOf p o l
past_of p o [] e = tt
past_of p o (n ∷ l) e =
    let a = and_parts (is_past p o l) (touches p o n && (is_proper p n && (answers p l n && matches p l n))) e in
    let b = and_parts (touches p o n) (is_proper p n && (answers p l n && matches p l n)) a.1 in
    let c = and_parts (is_proper p n) (answers p l n && matches p l n) b.1 in
    let d = and_parts (answers p l n) (matches p l n) c.1 in
    (past_of p o l a.0, record { touching = b.0; proper = c.0; answers = answered p l n d.0; matching = d.1 })

pub pasts_of : (p : Plan) (s : Session) (os : List ℕ) → are_pasts p s os ≡ true → EachIsPast p s os
pasts_of p s [] e = tt
pasts_of p s (o ∷ os) e = let a = and_parts (is_past p o (entries_of p (history_of s) o)) (are_pasts p s os) e in (past_of p o (entries_of p (history_of s) o) a.0, pasts_of p s os a.1)
