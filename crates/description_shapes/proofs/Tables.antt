-- One more line of a table is looked at.
use Rattle.std.proofs.Common.{◌≡◌, ℕ, ◌+◌, ◌<◌, List, map, drop, length, get_or, Bool, ◌&&◌, ◌||◌, Some, cond}
use Rattle.std.proofs.lemmas.List.{at_drop_more}
use Rattle.std.specs.List.{list_any, list_all, find}

pub any_turn : {X Y : Type 0} (test : X → Bool) (seen : Y → X) (ys : List Y) (i : ℕ) (d : Y) → i < length ys
    → list_any test (map seen (drop i ys)) ≡ (test (seen (get_or ys i d)) || list_any test (map seen (drop (i + 1) ys)))
any_turn test seen ys i d h = at_drop_more (λ zs. list_any test (map seen zs)) ys i d h

pub all_turn : {X Y : Type 0} (test : X → Bool) (seen : Y → X) (ys : List Y) (i : ℕ) (d : Y) → i < length ys
    → list_all test (map seen (drop i ys)) ≡ (test (seen (get_or ys i d)) && list_all test (map seen (drop (i + 1) ys)))
all_turn test seen ys i d h = at_drop_more (λ zs. list_all test (map seen zs)) ys i d h

pub find_turn : {X Y : Type 0} (test : X → Bool) (seen : Y → X) (ys : List Y) (i : ℕ) (d : Y) → i < length ys
    → find test (map seen (drop i ys)) ≡ cond (test (seen (get_or ys i d))) (Some (seen (get_or ys i d))) (find test (map seen (drop (i + 1) ys)))
find_turn test seen ys i d h = at_drop_more (λ zs. find test (map seen zs)) ys i d h
