-- The flags that a list names are told, one after the other.
use Rattle.std.proofs.Common.{◌≡◌, ℕ, sym, ◌∙◌, ap, arith, false, true≢false, List, [], ◌∷◌, set, Some, ◌⊎◌, inl, inr}
use Rattle.std.specs.List.{slice_get, Contains}
use Rattle.std.proofs.lemmas.Bool.{cases_eq}
use Rattle.latches.specs.Latches.{IsNamedIn, Latch, set_in}
use Rattle.latches.specs.Noted.{IsListed}
use Rattle.latches.proofs.Places.{Placed, here, there, placed, set_there}

-- each flag of the group that was clear is so still, or its name was told
abbrev pub Tells : (group : ℕ) (names : List ℕ) (old new : List Latch) (told : List ℕ) → Type 0
Tells group names old new told = (at name : ℕ) (l : Latch) → slice_get old at ≡ Some l → l.group ≡ group → l.is_set ≡ false → slice_get names at ≡ Some name → (slice_get new at ≡ Some l) ⊎ Contains told name

pub tells_on : (group : ℕ) (names : List ℕ) (old xs : List Latch) (told more : List ℕ) (p : ℕ) (y : Latch) → Tells group names old xs told → ((l : Latch) (name : ℕ) → slice_get xs p ≡ Some l → l.is_set ≡ false → slice_get names p ≡ Some name → Contains more name) → ((name : ℕ) → Contains told name → Contains more name) → Tells group names old (set xs p y) more
tells_on group names old xs told more p y tells first kept at name l was of clear named = of_now (tells at name l was of clear named)
  where
    of_place : slice_get xs at ≡ Some l → (at ≡ p) ⊎ (at ≡ p → ⊥) → (slice_get (set xs p y) at ≡ Some l) ⊎ Contains more name
    of_place now (inl same) = inr (first l name (ap (slice_get xs) (sym same) ∙ now) clear (ap (slice_get names) (sym same) ∙ named))
    of_place now (inr other) = inl (set_there xs p at l y other now)

    of_now : (slice_get xs at ≡ Some l) ⊎ Contains told name → (slice_get (set xs p y) at ≡ Some l) ⊎ Contains more name
    of_now (inl now) = of_place now (cases_eq at p)
    of_now (inr before) = inr (kept name before)

pub tells_all : (group : ℕ) (names : List ℕ) (old new : List Latch) (places told : List ℕ) → places ≡ [] → IsListed group new places → Tells group names old new told → (at name : ℕ) (l : Latch) → slice_get old at ≡ Some l → l.group ≡ group → l.is_set ≡ false → slice_get names at ≡ Some name → Contains told name
tells_all group names old new (p ∷ places) told empty all tells at name l was of clear named = absurd (cc empty)
tells_all group names old new [] told empty all tells at name l was of clear named = of_now (tells at name l was of clear named)
  where
    of_now : (slice_get new at ≡ Some l) ⊎ Contains told name → Contains told name
    of_now (inl now) = let among = all.listed at l now of clear in let less = among.1 in absurd (omega arith)
    of_now (inr before) = before

-- ---- and nothing else

-- a flag that is clear was so before
abbrev pub Stays : (old new : List Latch) → Type 0
Stays old new = (at : ℕ) (l : Latch) → slice_get new at ≡ Some l → l.is_set ≡ false → slice_get old at ≡ Some l

pub stays_on : (old xs : List Latch) (p group : ℕ) → Stays old xs → Stays old (set xs p (set_in group))
stays_on old xs p group stays at l is clear = of_place (placed xs p (set_in group) at l is)
  where
    of_place : Placed Latch xs p (set_in group) at l → slice_get old at ≡ Some l
    of_place (here same now) = absurd (true≢false (sym (ap (λ (m : Latch). m.is_set) now) ∙ clear))
    of_place (there other was) = stays at l was clear

pub only_on : (group : ℕ) (names : List ℕ) (old xs : List Latch) (first told more : List ℕ) (p : ℕ) (x : Latch) → slice_get xs p ≡ Some x → x.group ≡ group → Stays old xs
    → ((name : ℕ) → Contains told name → Contains first name ⊎ IsNamedIn group old names name)
    → ((name : ℕ) → Contains more name → Contains told name ⊎ ((x.is_set ≡ false) × (slice_get names p ≡ Some name)))
    → (name : ℕ) → Contains more name → Contains first name ⊎ IsNamedIn group old names name
only_on group names old xs first told more p x is of stays only told_here name among = of_now (told_here name among)
  where
    of_now : Contains told name ⊎ ((x.is_set ≡ false) × (slice_get names p ≡ Some name)) → Contains first name ⊎ IsNamedIn group old names name
    of_now (inl before) = only name before
    of_now (inr now) = inr (record { at = p; latch = x; is = stays p x is now.0; group_is = of; clear = now.0; named = now.1 })
