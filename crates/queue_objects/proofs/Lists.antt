-- Two lists of which one function gives the same by place, and what is picked of what was picked.
use Rattle.std.proofs.Common.{◌≡◌, Bool, true, false, ◌&&◌, ◌||◌, if◌then◌else◌, refl, sym, ◌∙◌, ap, List, [], ◌∷◌, map}
use Rattle.std.specs.Prelude.{filter}
use Rattle.bus_semantics.specs.Common.{list_all, list_any, and_parts, false≢true}

module _ {A B C : Type 0} (f : A → C) (g : B → C) (ok : B → Bool) where
  -- what follows by place follows of the whole
  pub both_mapped : {D : Type 0} (h : A → D) (k : B → D) (xs : List A) (ys : List B) → map f xs ≡ map g ys → list_all ok ys ≡ true → ((x : A) (y : B) → ok y ≡ true → f x ≡ g y → h x ≡ k y) → map h xs ≡ map k ys
  both_mapped h k [] [] same all each = refl
  both_mapped h k [] (y ∷ ys) same all each = absurd (cc same)
  both_mapped h k (x ∷ xs) [] same all each = absurd (cc same)
  both_mapped h k (x ∷ xs) (y ∷ ys) same all each =
      let parts = and_parts (ok y) (list_all ok ys) all in
      let here : f x ≡ g y = cc in
      let rest : map f xs ≡ map g ys = cc in
      λ i. each x y parts.0 here i ∷ both_mapped h k xs ys rest parts.1 each i

  pub both_any : (t : A → Bool) (u : B → Bool) (xs : List A) (ys : List B) → map f xs ≡ map g ys → list_all ok ys ≡ true → ((x : A) (y : B) → ok y ≡ true → f x ≡ g y → t x ≡ u y) → list_any t xs ≡ list_any u ys
  both_any t u [] [] same all each = refl
  both_any t u [] (y ∷ ys) same all each = absurd (cc same)
  both_any t u (x ∷ xs) [] same all each = absurd (cc same)
  both_any t u (x ∷ xs) (y ∷ ys) same all each =
      let parts = and_parts (ok y) (list_all ok ys) all in
      let here : f x ≡ g y = cc in
      let rest : map f xs ≡ map g ys = cc in
      λ i. each x y parts.0 here i || both_any t u xs ys rest parts.1 each i

-- one of the picked passes where one of all is picked and passes
pub any_picked : {X : Type 0} (ok u : X → Bool) (xs : List X) → list_any u (filter ok xs) ≡ list_any (λ x. ok x && u x) xs
any_picked ok u [] = refl
any_picked ok u (x ∷ xs) = by_test (ok x) (any_picked ok u xs)
  where
    by_test : (b : Bool) → list_any u (filter ok xs) ≡ list_any (λ z. ok z && u z) xs → list_any u (if b then x ∷ filter ok xs else filter ok xs) ≡ ((b && u x) || list_any (λ z. ok z && u z) xs)
    by_test true rest = ap (λ b. u x || b) rest
    by_test false rest = rest

-- picking twice by tests of which the second implies the first
pub picked_twice : {X : Type 0} (t u : X → Bool) (xs : List X) → ((x : X) → u x ≡ true → t x ≡ true) → filter u (filter t xs) ≡ filter u xs
picked_twice t u [] implies = refl
picked_twice t u (x ∷ xs) implies = by_tests (t x) (u x) refl refl (picked_twice t u xs implies)
  where
    by_tests : (a b : Bool) → t x ≡ a → u x ≡ b → filter u (filter t xs) ≡ filter u xs → filter u (filter t (x ∷ xs)) ≡ filter u (x ∷ xs)
    by_tests true true first second rest = rw (first, second) (ap (λ zs. x ∷ zs) rest)
    by_tests true false first second rest = rw (first, second) rest
    by_tests false true first second rest = absurd (false≢true (sym first ∙ implies x second))
    by_tests false false first second rest = rw (first, second) rest
