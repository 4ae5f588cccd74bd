-- How the counts of a feed grow, and that feeds within their lengths are within the sum of them.
use Rattle.std.proofs.Common.{◌≡◌, ◌≢◌, ◌<◌, ◌≤◌, ◌+◌, ◌-◌, ℕ, zero, suc, Bool, true, false, ◌==◌, cond, List, [], ◌∷◌, ◌++◌, map, set, length, length-append, refl, sym, ◌∙◌, ap, subst}
use Rattle.std.proofs.Common.{arith, eq-eqb, ne_eqb}
use Rattle.std.specs.Prelude.{sum}
use Rattle.std.specs.List.{filter, range_with_len}
use Rattle.bus_semantics.specs.Common.{append-nil, map-append, length-map, get_or-set_same, get_or-set_other, filter-append}
use Rattle.std.proofs.lemmas.List.Sums.{sum_by-set}
use mathlib.Core.Logic.{dite}
use native.Mathlib.Decide.{ℕ_discrete}
use Rattle.feed_queue.specs.declared.views.Item.{Item}
use Rattle.feed_queue.specs.Feeds.{length_of, times, numbers_of}

-- ---- how often a feed is named

times_here : (f : ℕ) (fs : List ℕ) → times f (f ∷ fs) ≡ suc (times f fs)
times_here f fs = ap (λ b. length (cond b (f ∷ filter (λ g. g == f) fs) (filter (λ g. g == f) fs))) (eq-eqb f f refl)

times_there : (f g : ℕ) (fs : List ℕ) → f ≢ g → times f (g ∷ fs) ≡ times f fs
times_there f g fs ne = ap (λ b. length (cond b (g ∷ filter (λ x. x == f) fs) (filter (λ x. x == f) fs))) (ne_eqb g f (λ e. ne (sym e)))

times_append : (f : ℕ) (fs gs : List ℕ) → times f (fs ++ gs) ≡ times f fs + times f gs
times_append f fs gs = ap length (filter-append (λ x. x == f) fs gs) ∙ length-append (filter (λ x. x == f) fs) (filter (λ x. x == f) gs)

pub times_last : (f : ℕ) (fs : List ℕ) → times f (fs ++ f ∷ []) ≡ suc (times f fs)
times_last f fs = omega (arith, times_append f fs (f ∷ []), times_here f [])

pub times_other : (f g : ℕ) (fs : List ℕ) → f ≢ g → times f (fs ++ g ∷ []) ≡ times f fs
times_other f g fs ne = omega (arith, times_append f fs (g ∷ []), times_there f g [] ne)

-- ---- the numbers of a feed

abbrev is_of : ℕ → Item → Bool
is_of f x = x.feed == f

abbrev number : Item → ℕ
number x = x.number

pub numbers_here : (x : Item) (xs : List Item) → numbers_of x.feed (x ∷ xs) ≡ x.number ∷ numbers_of x.feed xs
numbers_here x xs = ap (λ b. map number (cond b (x ∷ filter (is_of x.feed) xs) (filter (is_of x.feed) xs))) (eq-eqb x.feed x.feed refl)

pub numbers_there : (f : ℕ) (x : Item) (xs : List Item) → f ≢ x.feed → numbers_of f (x ∷ xs) ≡ numbers_of f xs
numbers_there f x xs ne = ap (λ b. map number (cond b (x ∷ filter (is_of f) xs) (filter (is_of f) xs))) (ne_eqb x.feed f (λ e. ne (sym e)))

numbers_append : (f : ℕ) (xs ys : List Item) → numbers_of f (xs ++ ys) ≡ numbers_of f xs ++ numbers_of f ys
numbers_append f xs ys = ap (map number) (filter-append (is_of f) xs ys) ∙ map-append number (filter (is_of f) xs) (filter (is_of f) ys)

pub numbers_last : (x : Item) (xs : List Item) → numbers_of x.feed (xs ++ x ∷ []) ≡ numbers_of x.feed xs ++ x.number ∷ []
numbers_last x xs = numbers_append x.feed xs (x ∷ []) ∙ ap (λ ns. numbers_of x.feed xs ++ ns) (numbers_here x [])

pub numbers_other : (f : ℕ) (x : Item) (xs : List Item) → f ≢ x.feed → numbers_of f (xs ++ x ∷ []) ≡ numbers_of f xs
numbers_other f x xs ne = numbers_append f xs (x ∷ []) ∙ ap (λ ns. numbers_of f xs ++ ns) (numbers_there f x [] ne) ∙ append-nil (numbers_of f xs)

-- so many numbers from one on, and the next one
pub range_last : (a n : ℕ) → range_with_len a (suc n) ≡ range_with_len a n ++ (a + n) ∷ []
range_last a zero = let e : a ≡ a + 0 = omega arith in ap (λ (b : ℕ). b ∷ []) e
range_last a (suc n) = let e : (a + 1) + n ≡ a + suc n = omega arith in
    ap (λ (ns : List ℕ). a ∷ ns) (range_last (a + 1) n ∙ ap (λ (b : ℕ). range_with_len (a + 1) n ++ b ∷ []) e)

-- ---- within the lengths, within their sum

within : (lengths : List ℕ) (f : ℕ) → 0 < length_of lengths f → f < length lengths
within [] f h = absurd (omega arith)
within (l ∷ ls) zero h = omega arith
within (l ∷ ls) (suc f) h = omega (arith, within ls f h)

pub times_within : (lengths order : List ℕ) → ((f : ℕ) → times f order ≤ length_of lengths f) → length order ≤ sum lengths
times_within lengths [] h = omega arith
times_within lengths (g ∷ gs) h =
    let e : sum less + length_of lengths g ≡ sum lengths + (length_of lengths g - 1) = sum_by-set (λ (x : ℕ). x) lengths g (length_of lengths g - 1) 0 there in
    let rest : length gs ≤ sum less = times_within less gs fewer in
    omega (arith, e, rest, some)
  where
    some : 0 < length_of lengths g
    some = omega (arith, h g, times_here g gs)

    there : g < length lengths
    there = within lengths g some

    less : List ℕ
    less = set lengths g (length_of lengths g - 1)

    fewer : (f : ℕ) → times f gs ≤ length_of less f
    fewer f = dite (ℕ_discrete f g)
        (λ is. subst (λ (x : ℕ). times x gs ≤ length_of less x) (sym is) (omega (arith, h g, times_here g gs, get_or-set_same lengths g (length_of lengths g - 1) 0 there)))
        (λ ne. omega (arith, h f, times_there f g gs ne, get_or-set_other lengths g f (length_of lengths g - 1) 0 ne))

-- the feeds of items
abbrev feeds_of : List Item → List ℕ
feeds_of items = map (λ (x : Item). x.feed) items

feeds_counted : (f : ℕ) (items : List Item) → times f (feeds_of items) ≡ length (numbers_of f items)
feeds_counted f [] = refl
feeds_counted f (x ∷ xs) = by_test (x.feed == f) (feeds_counted f xs)
  where
    by_test : (b : Bool) → times f (feeds_of xs) ≡ length (numbers_of f xs)
        → length (cond b (x.feed ∷ filter (λ g. g == f) (feeds_of xs)) (filter (λ g. g == f) (feeds_of xs))) ≡ length (map number (cond b (x ∷ filter (is_of f) xs) (filter (is_of f) xs)))
    by_test true e = ap suc e
    by_test false e = e

pub items_within : (lengths : List ℕ) (items : List Item) → ((f : ℕ) → length (numbers_of f items) ≤ length_of lengths f) → length items ≤ sum lengths
items_within lengths items h = omega (arith, times_within lengths (feeds_of items) (λ f. omega (arith, h f, feeds_counted f items)), length-map items (λ (x : Item). x.feed))
