-- A text and its parts: these with the separator between them are the text, and a text with no separator is one part.
use Rattle.std.proofs.Common.{◌≡◌, ℕ, ◌<◌, Bool, true, false, not, ◌&&◌, cond, ◌==◌, List, [], ◌∷◌, ◌++◌, length, refl, sym, ap, ◌∙◌, subst, arith}
use Rattle.bus_semantics.specs.Common.{list_all, and_parts, and_from, eqb-true, eq-eqb, list_all-append}
use Rattle.line_fields.specs.Texts.{onto_first, parts}
use Rattle.line_fields.proofs.Cutting.{parts-some}

-- the parts after the first, each behind a separator; and all of them
abbrev pub more : ℕ → List (List ℕ) → List ℕ
more s [] = []
more s (t ∷ ts) = s ∷ (t ++ more s ts)

abbrev pub joined : ℕ → List (List ℕ) → List ℕ
joined s [] = []
joined s (t ∷ ts) = t ++ more s ts

joined-onto : (s c : ℕ) (ts : List (List ℕ)) → joined s (onto_first c ts) ≡ c ∷ joined s ts
joined-onto s c [] = refl
joined-onto s c (t ∷ ts) = refl

more-joined : (s : ℕ) (ts : List (List ℕ)) → 0 < length ts → more s ts ≡ s ∷ joined s ts
more-joined s [] h = absurd (omega arith)
more-joined s (t ∷ ts) h = refl

pub joined-parts : (s : ℕ) (t : List ℕ) → joined s (parts s t) ≡ t
joined-parts s [] = refl
joined-parts s (c ∷ cs) = step (c == s) refl (joined-parts s cs)
  where
    step : (b : Bool) → (c == s) ≡ b → joined s (parts s cs) ≡ cs → joined s (cond b ([] ∷ parts s cs) (onto_first c (parts s cs))) ≡ c ∷ cs
    step true is ih = more-joined s (parts s cs) (parts-some s cs) ∙ ap (λ x. x ∷ joined s (parts s cs)) (sym (eqb-true c s is)) ∙ ap (λ ts. c ∷ ts) ih
    step false is ih = joined-onto s c (parts s cs) ∙ ap (λ ts. c ∷ ts) ih

-- ---- texts with no separator

abbrev pub lacks : ℕ → List ℕ → Bool
lacks s t = list_all (λ c. not (c == s)) t

pub parts-one : (s : ℕ) (t : List ℕ) → lacks s t ≡ true → parts s t ≡ t ∷ []
parts-one s [] h = refl
parts-one s (c ∷ cs) h = step (c == s) h (parts-one s cs)
  where
    step : (b : Bool) → (not b && lacks s cs) ≡ true → (lacks s cs ≡ true → parts s cs ≡ cs ∷ []) → cond b ([] ∷ parts s cs) (onto_first c (parts s cs)) ≡ (c ∷ cs) ∷ []
    step true h ih = absurd (cc)
    step false h ih = ap (onto_first c) (ih h)

pub parts-join : (s : ℕ) (a b : List ℕ) → lacks s a ≡ true → parts s (a ++ s ∷ b) ≡ a ∷ parts s b
parts-join s [] b h = ap (λ t. cond t ([] ∷ parts s b) (onto_first s (parts s b))) (eq-eqb s s refl)
parts-join s (c ∷ cs) b h = step (c == s) h (parts-join s cs b)
  where
    step : (t : Bool) → (not t && lacks s cs) ≡ true → (lacks s cs ≡ true → parts s (cs ++ s ∷ b) ≡ cs ∷ parts s b)
        → cond t ([] ∷ parts s (cs ++ s ∷ b)) (onto_first c (parts s (cs ++ s ∷ b))) ≡ (c ∷ cs) ∷ parts s b
    step true h ih = absurd (cc)
    step false h ih = ap (onto_first c) (ih h)

-- ---- tests of each letter

pub all_more : {X : Type 0} (p q : X → Bool) → ((x : X) → p x ≡ true → q x ≡ true) → (xs : List X) → list_all p xs ≡ true → list_all q xs ≡ true
all_more {X} p q f [] h = refl
all_more {X} p q f (x ∷ xs) h = let two = and_parts (p x) (list_all p xs) h in and_from (q x) (list_all q xs) (f x two.0) (all_more {X = X} p q f xs two.1)

pub all-append : (q : ℕ → Bool) (a b : List ℕ) → list_all q a ≡ true → list_all q b ≡ true → list_all q (a ++ b) ≡ true
all-append q a b h k = list_all-append q a b ∙ and_from (list_all q a) (list_all q b) h k

all-more : (q : ℕ → Bool) (s : ℕ) → q s ≡ true → (ts : List (List ℕ)) → list_all (λ t. list_all q t) ts ≡ true → list_all q (more s ts) ≡ true
all-more q s h [] k = refl
all-more q s h (t ∷ ts) k = let two = and_parts (list_all q t) (list_all (λ u. list_all q u) ts) k in
    and_from (q s) (list_all q (t ++ more s ts)) h (all-append q t (more s ts) two.0 (all-more q s h ts two.1))

all-joined : (q : ℕ → Bool) (s : ℕ) → q s ≡ true → (ts : List (List ℕ)) → list_all (λ t. list_all q t) ts ≡ true → list_all q (joined s ts) ≡ true
all-joined q s h [] k = refl
all-joined q s h (t ∷ ts) k = let two = and_parts (list_all q t) (list_all (λ u. list_all q u) ts) k in all-append q t (more s ts) two.0 (all-more q s h ts two.1)

-- what holds of the separator and of each part's letters holds of all letters
pub all-parts : (q : ℕ → Bool) (s : ℕ) → q s ≡ true → (p : List ℕ → Bool) → ((u : List ℕ) → p u ≡ true → list_all q u ≡ true) → (t : List ℕ) → list_all p (parts s t) ≡ true → list_all q t ≡ true
all-parts q s h p f t k = subst (λ u. list_all q u ≡ true) (joined-parts s t) (all-joined q s h (parts s t) (all_more p (λ u. list_all q u) f (parts s t) k))

-- a letter of which it holds is not one of which it does not
pub apart : (p : ℕ → Bool) (s : ℕ) → p s ≡ false → (c : ℕ) → p c ≡ true → not (c == s) ≡ true
apart p s h c k = step (c == s) refl
  where
    step : (b : Bool) → (c == s) ≡ b → not b ≡ true
    step true is = let same : p c ≡ p s = ap p (eqb-true c s is) in absurd (cc)
    step false is = refl
