-- Slots: an element has the slot of its first place among the elements of its runnable, so two accesses to one element share it.
use Rattle.std.specs.Prelude.{ℕ, suc, List, [], ◌∷◌, map, ◌==◌, if◌then◌else◌}

-- the first place of an element; the number of elements if it has none
abbrev pub slot_of : ℕ → List ℕ → ℕ
slot_of x [] = 0
slot_of x (y ∷ ys) = if y == x then 0 else suc (slot_of x ys)

-- the slots of elements, after that of element 0, which an access names that there is not
abbrev pub slots_of : List ℕ → List ℕ
slots_of xs = map (λ x. slot_of x xs) (0 ∷ xs)
