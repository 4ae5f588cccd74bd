-- The turn of a loop that gathers a list from the items of another one.
use Rattle.std.proofs.Common.{◌≡◌, ◌∙◌, ◌+◌, ◌<◌, ◌≤◌, ◌++◌, ◌∷◌, [], ℕ, List, length, get_or, take, map, ap, sym, append_assoc}
use Rattle.std.specs.List.{flat_map}
use Rattle.std.proofs.lemmas.List.{flat_map_more, map-append, take_all, take_more}

-- ---- several things of each item

-- an item that is copied stands at its place with any default
pub gathered_at : {X Y : Type 0} (xs : List X) (i : ℕ) (d : X) → i < length xs → (f : X → List Y) (start found new : List Y)
    → found ≡ start ++ flat_map f (take i xs) → new ≡ found ++ f (get_or xs i d) → new ≡ start ++ flat_map f (take (i + 1) xs)
gathered_at {X} {Y} xs i d within f start found new so_far put =
    put ∙ ap (λ (l : List Y). l ++ f (get_or xs i d)) so_far ∙ flat_map_more f start (take i xs) (get_or xs i d) ∙ ap (λ (l : List X). start ++ flat_map f l) (sym (take_more xs i d within))

pub gathered : {X Y : Type 0} (xs : List X) (i : ℕ) (x : X) → i < length xs → x ≡ get_or xs i x → (f : X → List Y) (start found new : List Y)
    → found ≡ start ++ flat_map f (take i xs) → new ≡ found ++ f x → new ≡ start ++ flat_map f (take (i + 1) xs)
gathered {X} {Y} xs i x within is f start found new so_far put = gathered_at xs i x within f start found new so_far (put ∙ ap (λ (y : X). found ++ f y) is)

pub all_gathered : {X Y : Type 0} (xs : List X) (i : ℕ) → length xs ≤ i → (f : X → List Y) (start found : List Y) → found ≡ start ++ flat_map f (take i xs) → found ≡ start ++ flat_map f xs
all_gathered {X} xs i past f start found so_far = so_far ∙ ap (λ (l : List X). start ++ flat_map f l) (take_all i xs past)

-- ---- one thing of each item

pub mapped_at : {X Y : Type 0} (xs : List X) (i : ℕ) (d : X) → i < length xs → (f : X → Y) (start found new : List Y) (y : Y)
    → found ≡ start ++ map f (take i xs) → new ≡ found ++ y ∷ [] → y ≡ f (get_or xs i d) → new ≡ start ++ map f (take (i + 1) xs)
mapped_at {X} {Y} xs i d within f start found new y so_far put same =
    put ∙ ap (λ (l : List Y). l ++ y ∷ []) so_far ∙ ap (λ (z : Y). (start ++ map f (take i xs)) ++ z ∷ []) same
    ∙ append_assoc start (map f (take i xs)) (f (get_or xs i d) ∷ []) ∙ ap (λ (l : List Y). start ++ l) (sym (map-append f (take i xs) (get_or xs i d ∷ [])))
    ∙ ap (λ (l : List X). start ++ map f l) (sym (take_more xs i d within))

pub mapped : {X Y : Type 0} (xs : List X) (i : ℕ) (x : X) → i < length xs → x ≡ get_or xs i x → (f : X → Y) (start found new : List Y) (y : Y)
    → found ≡ start ++ map f (take i xs) → new ≡ found ++ y ∷ [] → y ≡ f x → new ≡ start ++ map f (take (i + 1) xs)
mapped {X} {Y} xs i x within is f start found new y so_far put same = mapped_at xs i x within f start found new y so_far put (same ∙ ap f is)

pub all_mapped : {X Y : Type 0} (xs : List X) (i : ℕ) → length xs ≤ i → (f : X → Y) (start found : List Y) → found ≡ start ++ map f (take i xs) → found ≡ start ++ map f xs
all_mapped {X} xs i past f start found so_far = so_far ∙ ap (λ (l : List X). start ++ map f l) (take_all i xs past)
