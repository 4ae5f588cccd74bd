-- Two seats, taken from the end of a list.
use Rattle.std.proofs.Common.{◌≡◌, suc, List, [], ◌∷◌, ◌++◌, length, Some, refl, ap, ◌∙◌, arith}
use Rattle.std.specs.List.{slice_get}

pub record ArePopped {X : Type 0} (xs rest : List X) (a b : X) : Type 0 where
  pub first : slice_get xs 0 ≡ Some a
  pub second : slice_get xs 1 ≡ Some b
  pub none : rest ≡ []

pub two_popped : {X : Type 0} (xs ys rest : List X) (a b : X) → length xs ≡ 2 → xs ≡ ys ++ b ∷ [] → ys ≡ rest ++ a ∷ [] → ArePopped xs rest a b
two_popped {X} xs ys [] a b two e f =
    let all : xs ≡ a ∷ b ∷ [] = e ∙ ap (λ zs. zs ++ b ∷ []) f in
    record { first = ap (λ zs. slice_get zs 0) all; second = ap (λ zs. slice_get zs 1) all; none = refl }
two_popped {X} xs ys (r ∷ []) a b two e f = let three : length xs ≡ 3 = ap length (e ∙ ap (λ zs. zs ++ b ∷ []) f) in absurd (omega (arith, two, three))
two_popped {X} xs ys (r ∷ (s ∷ rest)) a b two e f =
    let more : length xs ≡ suc (suc (length ((rest ++ a ∷ []) ++ b ∷ []))) = ap length (e ∙ ap (λ zs. zs ++ b ∷ []) f) in
    let some : length ((rest ++ a ∷ []) ++ b ∷ []) ≡ suc (suc (length rest)) = count rest in
    absurd (omega (arith, two, more, some))
  where
    count : (zs : List X) → length ((zs ++ a ∷ []) ++ b ∷ []) ≡ suc (suc (length zs))
    count [] = refl
    count (z ∷ zs) = ap suc (count zs)
