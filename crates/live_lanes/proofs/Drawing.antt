-- One wish more is drawn.
use Rattle.std.proofs.Common.{◌≡◌, ◌<◌, ◌≤◌, ◌+◌, ◌⊎◌, inl, inr, ⊎_elim, ℕ, zero, suc, refl, sym, ◌∙◌, ap, subst, arith, List, [], ◌∷◌, ◌++◌, map, take, length, Some, None}
use Rattle.bus_semantics.specs.Common.{slice_get, All, length_push, take_all, map-append, take-append_seam, Wanted}
use Rattle.std.proofs.lemmas.List.{take-append-le}
use Rattle.bus_semantics.specs.declared.entries.Stamped.{Stamped}
use Rattle.feed_queue.specs.Feeds.{times}
use Rattle.feed_queue.specs.declared.feeds.Feeds.{Feeds}
use Rattle.live_lanes.specs.Calls.{wish_in, wishes_in}
use Rattle.live_lanes.specs.Drawn.{IsDrawn, wanted_at}

-- ---- a list with one item more

-- what stands at a place of it
pub pushed_at : {X : Type 0} (xs : List X) (x : X) (k : ℕ) (y : X) → slice_get (xs ++ x ∷ []) k ≡ Some y → ((k < length xs) × (slice_get xs k ≡ Some y)) ⊎ ((k ≡ length xs) × (x ≡ y))
pushed_at [] x zero y found = inr (refl, cc found)
pushed_at [] x (suc k) y found = absurd (cc found)
pushed_at (z ∷ xs) x zero y found = inl (omega arith, found)
pushed_at (z ∷ xs) x (suc k) y found = ⊎_elim
    (λ a. let less = a.0 in inl (omega (arith, less), a.1))
    (λ b. inr (ap suc b.0, b.1)) (pushed_at xs x k y found)

before_end : {X : Type 0} (xs : List X) (x : X) (k : ℕ) → k < length xs → slice_get (xs ++ x ∷ []) k ≡ slice_get xs k
before_end [] x k less = absurd (omega arith)
before_end (z ∷ xs) x zero less = refl
before_end (z ∷ xs) x (suc k) less = before_end xs x k (omega arith)

at_end : {X : Type 0} (xs : List X) (x : X) → slice_get (xs ++ x ∷ []) (length xs) ≡ Some x
at_end [] x = refl
at_end (z ∷ xs) x = at_end xs x

-- ---- wishes

pub none_drawn : (feeds : Feeds) → IsDrawn feeds [] []
none_drawn feeds = record { count = refl; each = λ k f found. absurd (cc found) }

pub drawn_on : (feeds : Feeds) (order : List ℕ) (f : ℕ) (ws : List Wanted) (w : Wanted) → IsDrawn feeds order ws → slice_get (wanted_at feeds f) (times f order) ≡ Some w → IsDrawn feeds (order ++ f ∷ []) (ws ++ w ∷ [])
drawn_on feeds order f ws w drawn wish = record {
  count = length_push ws w ∙ ap (λ n. n + 1) drawn.count ∙ sym (length_push order f);
  each = λ k g found. ⊎_elim (λ a. earlier k g a.0 a.1) (λ b. last k g b.0 b.1) (pushed_at order f k g found);
}
  where
    earlier : (k g : ℕ) → k < length order → slice_get order k ≡ Some g → slice_get (ws ++ w ∷ []) k ≡ slice_get (wanted_at feeds g) (times g (take k (order ++ f ∷ [])))
    earlier k g less found =
        before_end ws w k (omega (arith, less, drawn.count)) ∙ drawn.each k g found
        ∙ ap (λ o. slice_get (wanted_at feeds g) (times g o)) (sym (take-append-le k order (f ∷ []) (omega (arith, less))))

    last : (k g : ℕ) → k ≡ length order → f ≡ g → slice_get (ws ++ w ∷ []) k ≡ slice_get (wanted_at feeds g) (times g (take k (order ++ f ∷ [])))
    last k g is same =
        ap (slice_get (ws ++ w ∷ [])) (is ∙ sym drawn.count) ∙ at_end ws w ∙ sym wish
        ∙ ap (λ o. slice_get (wanted_at feeds f) (times f o)) (sym (ap (λ n. take n (order ++ f ∷ [])) is ∙ take-append_seam order (f ∷ [])))
        ∙ ap (λ x. slice_get (wanted_at feeds x) (times x (take k (order ++ f ∷ [])))) same

-- so of entries
pub wishes_on : (made : List Stamped) (s : Stamped) → wishes_in (made ++ s ∷ []) ≡ wishes_in made ++ wish_in s ∷ []
wishes_on made s = map-append wish_in made (s ∷ [])
