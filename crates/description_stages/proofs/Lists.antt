-- What is in a list.
use Rattle.std.proofs.Common.{◌≡◌, ℕ, zero, suc, ◌<◌, List, [], ◌∷◌, Bool, true, Some, refl, sym, subst, arith, ◌⊎◌, inl, inr}
use Rattle.bus_semantics.specs.Common.{list_all, slice_get, and_parts, and_from, none-some, same_Some}
use Rattle.serde_json.specs.Data.{Data, Items, no_items, item}
use Rattle.serde_json.specs.Events.{items_len}
use Rattle.serde_json.specs.Find.{get_item}

abbrev pub IsIn : {X : Type 0} → X → List X → Type 0
IsIn x [] = ⊥
IsIn x (y ∷ ys) = (x ≡ y) ⊎ IsIn x ys

pub list_all_in : {X : Type 0} (test : X → Bool) (xs : List X) (y : X) → list_all test xs ≡ true → IsIn y xs → test y ≡ true
list_all_in test [] y h is = absurd is
list_all_in test (x ∷ xs) y h (inl e) = subst (λ z. test z ≡ true) (sym e) (and_parts _ _ h).0
list_all_in test (x ∷ xs) y h (inr is) = list_all_in test xs y (and_parts _ _ h).1 is

pub list_all_more : {X : Type 0} (test other : X → Bool) → ((x : X) → test x ≡ true → other x ≡ true) → (xs : List X) → list_all test xs ≡ true → list_all other xs ≡ true
list_all_more test other more [] h = refl
list_all_more test other more (x ∷ xs) h = and_from _ _ (more x (and_parts (test x) _ h).0) (list_all_more test other more xs (and_parts (test x) _ h).1)

-- what stands at a place of a list is in it
pub at_place : {X : Type 0} (xs : List X) (n : ℕ) (x : X) → slice_get xs n ≡ Some x → IsIn x xs
at_place [] n x h = absurd (none-some x h)
at_place (y ∷ xs) zero x h = inl (sym (same_Some y x h))
at_place (y ∷ xs) (suc n) x h = inr (at_place xs n x h)

-- an array has an item at each place below its length
pub some_item : (ps : Items) (n : ℕ) → n < items_len ps → (x : Data) × (get_item n ps ≡ Some x)
some_item no_items n h = absurd (omega arith)
some_item (item d ps) zero h = (d, refl)
some_item (item d ps) (suc n) h = some_item ps n (omega arith)
