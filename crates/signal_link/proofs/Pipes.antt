-- What a pipe gives.
use Rattle.std.proofs.Common.{◌≡◌, ◌≤◌, ℕ, List, ◌++◌, length, take, drop, sym, ap, ◌∙◌, arith, append_assoc}
use Rattle.std.proofs.lemmas.List.{drop-append-le, length-take-le, take-append-drop}

-- what was put into the beginning of the room stands before the rest of the room
pub filled : (way room : List ℕ) (most gave : ℕ) → most ≤ length room → gave ≤ most
    → (take gave way ++ drop gave (take most room)) ++ drop most room ≡ take gave way ++ drop gave room
filled way room most gave within few =
    let long = length-take-le most room within in
    append_assoc (take gave way) (drop gave (take most room)) (drop most room)
    ∙ ap (λ (l : List ℕ). take gave way ++ l)
    (sym (drop-append-le gave (take most room) (drop most room) (omega (arith, long)))
    ∙ ap (λ (l : List ℕ). drop gave l) (take-append-drop most room))
