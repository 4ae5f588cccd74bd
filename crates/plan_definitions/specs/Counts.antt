-- How often something is among others.
use Rattle.std.specs.Prelude.{ℕ, zero, suc, List, [], ◌∷◌, Bool, if◌then◌else◌, ◌&&◌, nat_eq}

abbrev pub count : {X : Type 0} → (X → Bool) → List X → ℕ
count test [] = zero
count test (x ∷ xs) = if test x then suc (count test xs) else count test xs

-- an operation of a port, by the positions of the port and of the operation
abbrev pub same_operation : ℕ × ℕ → ℕ × ℕ → Bool
same_operation a b = nat_eq a.0 b.0 && nat_eq a.1 b.1
