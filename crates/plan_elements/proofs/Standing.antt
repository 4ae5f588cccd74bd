-- Each element stands at its own number: no two sites have one key.
use Rattle.std.proofs.Common.{◌≡◌, ℕ, zero, suc, ◌+◌, ◌<◌, List, [], ◌∷◌, length, get_or, Bool, true, false, cond, Some, inl, inr, refl, sym, ap, ◌∙◌, arith}
use Rattle.std.specs.List.{position_from}
use Rattle.plan_definitions.specs.Common.{Description, Flat, Among, is_element, key_of, keys_of, same_key, sites, elements_of}
use Rattle.plan_definitions.specs.declared.site.Site.{Site}
use Rattle.plan_definitions.proofs.Apart.{Apart, apart_filter}
use Rattle.plan_definitions.proofs.Keys.{same_key_is, same_key_refl}
use Rattle.plan_definitions.proofs.Sites.{sites_apart}

among_at : (xs : List Site) (n : ℕ) (d : Site) → n < length xs → Among (get_or xs n d) xs
among_at [] n d within = absurd (omega arith)
among_at (s ∷ xs) zero d within = inl refl
among_at (s ∷ xs) (suc n) d within = inr (among_at xs n d (omega arith))

-- where a key stands
stands : (xs : List Site) → Apart key_of xs → (i n : ℕ) (d : Site) → n < length xs → position_from (same_key (key_of (get_or xs n d))) i (keys_of xs) ≡ Some (i + n)
stands [] apart i n d within = absurd (omega arith)
stands (s ∷ xs) apart i zero d within = ap (λ b. cond b (Some i) (position_from (same_key (key_of s)) (i + 1) (keys_of xs))) (same_key_refl (key_of s)) ∙ ap (λ m. Some m) (omega arith)
stands (s ∷ xs) apart i (suc n) d within = ap (λ b. cond b (Some i) (position_from (same_key (key_of t)) (i + 1) (keys_of xs))) (by (same_key (key_of t) (key_of s)) refl)
    ∙ stands xs apart.1 (i + 1) n d (omega arith) ∙ ap (λ m. Some m) (omega arith)
  where
    t : Site
    t = get_or xs n d

    by : (b : Bool) → same_key (key_of t) (key_of s) ≡ b → same_key (key_of t) (key_of s) ≡ false
    by true same = absurd (apart.0 t (among_at xs n d (omega arith)) (sym (same_key_is (key_of t) (key_of s) same)))
    by false same = same

-- an element stands at its number
pub own_place : (d : Description) (f : Flat) (n : ℕ) (s : Site) → n < length (elements_of d f) → position_from (same_key (key_of (get_or (elements_of d f) n s))) 0 (keys_of (elements_of d f)) ≡ Some n
own_place d f n s within = stands (elements_of d f) (apart_filter key_of (λ t. is_element t.kind) (sites d f) (sites_apart d f)) 0 n s within ∙ ap (λ m. Some m) (omega arith)
