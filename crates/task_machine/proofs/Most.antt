-- The most that a body has, one body further, and of one of the bodies.
use Rattle.std.proofs.Common.{◌≡◌, ℕ, zero, suc, ◌+◌, ◌<◌, ◌≤◌, max, List, [], ◌∷◌, Some, length, drop, get_or, sym, ap, ◌∙◌, arith}
use Rattle.std.specs.Prelude.{slice_get}
use Rattle.std.proofs.lemmas.List.{drop_more, drop_all}
use Rattle.task_machine.specs.declared.instr.Body.{Body}
use Rattle.task_machine.specs.Frames.{most}

pub most_turn : (f : Body → ℕ) (bodies : List Body) (i found : ℕ) (d : Body) → i < length bodies
    → max (max found (f (get_or bodies i d))) (most f (drop (i + 1) bodies)) ≡ max found (most f (drop i bodies))
most_turn f bodies i found d below =
    let next = ap (most f) (drop_more bodies i d below) in
    let merged : max (max found (f (get_or bodies i d))) (most f (drop (i + 1) bodies)) ≡ max found (max (f (get_or bodies i d)) (most f (drop (i + 1) bodies))) = omega arith in
    merged ∙ ap (max found) (sym next)

pub most_end : (f : Body → ℕ) (bodies : List Body) (i found : ℕ) → length bodies ≤ i → max found (most f (drop i bodies)) ≡ found
most_end f bodies i found past =
    let none = ap (most f) (drop_all i bodies past) in
    ap (max found) none ∙ omega arith

-- each body has no more
pub le-most : (f : Body → ℕ) (bodies : List Body) (i : ℕ) (b : Body) → slice_get bodies i ≡ Some b → f b ≤ most f bodies
le-most f [] i b at = absurd (cc)
le-most f (c ∷ bodies) zero b at =
    let same : c ≡ b = cc in
    let first : f c ≡ f b = ap f same in omega arith
le-most f (c ∷ bodies) (suc i) b at =
    let later = le-most f bodies i b at in omega arith
