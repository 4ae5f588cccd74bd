-- How a gift joins the list of its feed.
use Rattle.std.proofs.Common.{◌≡◌, ◌≢◌, ◌<◌, ℕ, zero, suc, List, [], ◌∷◌, ◌++◌, map, length, get_or, Bool, if◌then◌else◌, Some, Vec, slice_get, slice_set, refl, sym, ap, ◌∙◌, subst, eq-eqb, ne_eqb}
use Rattle.bus_semantics.specs.Common.{Global, append-nil, slice_get-get_or, Wanted, wanted_of}
use mathlib.Core.Logic.{dite}
use native.Mathlib.Decide.{ℕ_discrete}
use Rattle.bus_semantics.specs.declared.entries.Wish.{Wish}
use Rattle.feed_queue.specs.Gifts.{wishes_at}
use Rattle.feed_queue.specs.Stimuli.{gives}
use Rattle.feed_queue.specs.Reading.{given_to}

pub found_at : (lists : List (Vec Wish Global)) (i : ℕ) (v : Vec Wish Global) → i < length lists → v ≡ get_or lists i v → slice_get lists i ≡ Some v
found_at lists i v within is = slice_get-get_or lists i v within ∙ ap (λ y. Some y) (sym is)

there : (lists : List (Vec Wish Global)) (i : ℕ) (old : Vec Wish Global) → slice_get lists i ≡ Some old → wishes_at lists i ≡ old.items
there [] i old e = absurd (cc e)
there (x ∷ xs) zero old e = let same : x ≡ old = cc e in ap (λ (v : Vec Wish Global). v.items) same
there (x ∷ xs) (suc i) old e = there xs i old e

set_there : (lists : List (Vec Wish Global)) (i : ℕ) (old new : Vec Wish Global) → slice_get lists i ≡ Some old → wishes_at (slice_set lists i new) i ≡ new.items
set_there [] i old new e = absurd (cc e)
set_there (x ∷ xs) zero old new e = refl
set_there (x ∷ xs) (suc i) old new e = set_there xs i old new e

set_elsewhere : (lists : List (Vec Wish Global)) (i f : ℕ) (new : Vec Wish Global) → f ≢ i → wishes_at (slice_set lists i new) f ≡ wishes_at lists f
set_elsewhere [] i f new ne = refl
set_elsewhere (x ∷ xs) zero zero new ne = absurd (ne refl)
set_elsewhere (x ∷ xs) zero (suc f) new ne = refl
set_elsewhere (x ∷ xs) (suc i) zero new ne = refl
set_elsewhere (x ∷ xs) (suc i) (suc f) new ne = set_elsewhere xs i f new (λ e. ne (ap suc e))

pub gave : (lists : List (Vec Wish Global)) (i : ℕ) (old new : Vec Wish Global) (ws : List Wanted) → slice_get lists i ≡ Some old → map wanted_of new.items ≡ map wanted_of old.items ++ ws
    → (f : ℕ) → map wanted_of (wishes_at (slice_set lists i new) f) ≡ map wanted_of (wishes_at lists f) ++ given_to f (gives i ws)
gave lists i old new ws e added f = dite (ℕ_discrete f i) (λ is. subst (λ (g : ℕ). map wanted_of (wishes_at (slice_set lists i new) g) ≡ map wanted_of (wishes_at lists g) ++ given_to g (gives i ws)) (sym is) here)
    (λ ne. ap (map wanted_of) (set_elsewhere lists i f new ne) ∙ sym (append-nil (map wanted_of (wishes_at lists f)))
    ∙ ap (λ (b : Bool). map wanted_of (wishes_at lists f) ++ (if b then ws else [])) (sym (ne_eqb i f (λ q. ne (sym q)))))
  where
    here : map wanted_of (wishes_at (slice_set lists i new) i) ≡ map wanted_of (wishes_at lists i) ++ given_to i (gives i ws)
    here = ap (map wanted_of) (set_there lists i old new e) ∙ added ∙ ap (λ (xs : List Wish). map wanted_of xs ++ ws) (sym (there lists i old e))
        ∙ ap (λ (b : Bool). map wanted_of (wishes_at lists i) ++ (if b then ws else [])) (sym (eq-eqb i i refl))
