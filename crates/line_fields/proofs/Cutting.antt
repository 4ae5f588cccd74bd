-- A text at the place of its first separator.
use Rattle.std.proofs.Common.{◌≡◌, ℕ, suc, ◌+◌, ◌<◌, ◌≤◌, Bool, true, false, not, cond, ◌==◌, List, [], ◌∷◌, length, take, drop, refl, sym, ap, ◌∙◌, subst, Some, None, nat_lt, arith}
use Rattle.bus_semantics.specs.Common.{ltb-true, ltb-false, position, position_or_len}
use Rattle.line_fields.specs.Texts.{parts}
use Rattle.line_fields.specs.Texts.{lines_of, onto_first}

-- where the first separator stands
abbrev pub place : ℕ → List ℕ → ℕ
place s t = position_or_len (λ b. b == s) t

pub place_found : (s : ℕ) (t : List ℕ) (at : ℕ) → Some at ≡ position (λ b. b == s) t → (place s t ≡ at) × (at < length t)
place_found s t at e = found (nat_lt (place s t) (length t)) (place s t) refl e
  where
    found : (b : Bool) (n : ℕ) → nat_lt n (length t) ≡ b → Some at ≡ cond b (Some n) None → (n ≡ at) × (at < length t)
    found true n is e = let same : n ≡ at = cc in (same, subst (λ k. k < length t) same (ltb-true n (length t) is))
    found false n is e = absurd (cc)

pub place_none : (s : ℕ) (t : List ℕ) → None ≡ position (λ b. b == s) t → length t ≤ place s t
place_none s t e = ltb-false (place s t) (length t) (none (nat_lt (place s t) (length t)) (place s t) e)
  where
    none : (b : Bool) (n : ℕ) → None ≡ cond b (Some n) None → b ≡ false
    none true n e = absurd (cc)
    none false n e = refl

stepped : (c : ℕ) (cs : List ℕ) (n : ℕ) (f : List ℕ → List (List ℕ)) → (c ∷ take n cs) ∷ f (drop (n + 1) cs) ≡ take (1 + n) (c ∷ cs) ∷ f (drop (1 + n + 1) (c ∷ cs))
stepped c cs n f = let one : 1 + n ≡ suc n = omega arith in let two : 1 + n + 1 ≡ suc (n + 1) = omega arith in
    ap (λ k. take k (c ∷ cs) ∷ f (drop (n + 1) cs)) (sym one) ∙ ap (λ k. take (1 + n) (c ∷ cs) ∷ f (drop k (c ∷ cs))) (sym two)

-- ---- parts

parts-cut_at : (s : ℕ) (t : List ℕ) → place s t < length t → parts s t ≡ take (place s t) t ∷ parts s (drop (place s t + 1) t)
parts-cut_at s [] h = absurd (omega arith)
parts-cut_at s (c ∷ cs) h = step (c == s) (place s cs) h (parts-cut_at s cs)
  where
    step : (b : Bool) (n : ℕ) → cond (not b) (1 + n) 0 < suc (length cs) → (n < length cs → parts s cs ≡ take n cs ∷ parts s (drop (n + 1) cs))
        → cond b ([] ∷ parts s cs) (onto_first c (parts s cs)) ≡ take (cond (not b) (1 + n) 0) (c ∷ cs) ∷ parts s (drop (cond (not b) (1 + n) 0 + 1) (c ∷ cs))
    step true n h ih = refl
    step false n h ih = ap (onto_first c) (ih (omega arith)) ∙ stepped c cs n (parts s)

parts-uncut : (s : ℕ) (t : List ℕ) → length t ≤ place s t → parts s t ≡ t ∷ []
parts-uncut s [] h = refl
parts-uncut s (c ∷ cs) h = step (c == s) (place s cs) h (parts-uncut s cs)
  where
    step : (b : Bool) (n : ℕ) → suc (length cs) ≤ cond (not b) (1 + n) 0 → (length cs ≤ n → parts s cs ≡ cs ∷ [])
        → cond b ([] ∷ parts s cs) (onto_first c (parts s cs)) ≡ (c ∷ cs) ∷ []
    step true n h ih = absurd (omega arith)
    step false n h ih = ap (onto_first c) (ih (omega arith))

pub parts-found : (s : ℕ) (t : List ℕ) (at : ℕ) → Some at ≡ position (λ b. b == s) t → parts s t ≡ take at t ∷ parts s (drop (at + 1) t)
parts-found s t at e =
    let found = place_found s t at e in
    subst (λ n. parts s t ≡ take n t ∷ parts s (drop (n + 1) t)) found.0 (parts-cut_at s t (subst (λ n. n < length t) (sym found.0) found.1))

pub parts-none : (s : ℕ) (t : List ℕ) → None ≡ position (λ b. b == s) t → parts s t ≡ t ∷ []
parts-none s t e = parts-uncut s t (place_none s t e)

-- there is always one
pub parts-some : (s : ℕ) (t : List ℕ) → 0 < length (parts s t)
parts-some s [] = omega arith
parts-some s (c ∷ cs) = step (parts s cs) (parts-some s cs) (c == s)
  where
    step : (ts : List (List ℕ)) → 0 < length ts → (b : Bool) → 0 < length (cond b ([] ∷ ts) (onto_first c ts))
    step [] h b = absurd (omega arith)
    step (t ∷ ts) h true = omega arith
    step (t ∷ ts) h false = omega arith

-- ---- lines

lines-cut_at : (t : List ℕ) → place 10 t < length t → lines_of t ≡ take (place 10 t) t ∷ lines_of (drop (place 10 t + 1) t)
lines-cut_at [] h = absurd (omega arith)
lines-cut_at (c ∷ cs) h = step (c == 10) (place 10 cs) h (lines-cut_at cs)
  where
    step : (b : Bool) (n : ℕ) → cond (not b) (1 + n) 0 < suc (length cs) → (n < length cs → lines_of cs ≡ take n cs ∷ lines_of (drop (n + 1) cs))
        → cond b ([] ∷ lines_of cs) (onto_first c (lines_of cs)) ≡ take (cond (not b) (1 + n) 0) (c ∷ cs) ∷ lines_of (drop (cond (not b) (1 + n) 0 + 1) (c ∷ cs))
    step true n h ih = refl
    step false n h ih = ap (onto_first c) (ih (omega arith)) ∙ stepped c cs n lines_of

lines-uncut : (c : ℕ) (cs : List ℕ) → length (c ∷ cs) ≤ place 10 (c ∷ cs) → lines_of (c ∷ cs) ≡ (c ∷ cs) ∷ []
lines-uncut c [] h = step (c == 10) h
  where
    step : (b : Bool) → 1 ≤ cond (not b) 1 0 → cond b ([] ∷ []) ((c ∷ []) ∷ []) ≡ (c ∷ []) ∷ []
    step true h = absurd (omega arith)
    step false h = refl
lines-uncut c (d ∷ cs) h = step (c == 10) (place 10 (d ∷ cs)) h (lines-uncut d cs)
  where
    step : (b : Bool) (n : ℕ) → suc (length (d ∷ cs)) ≤ cond (not b) (1 + n) 0 → (length (d ∷ cs) ≤ n → lines_of (d ∷ cs) ≡ (d ∷ cs) ∷ [])
        → cond b ([] ∷ lines_of (d ∷ cs)) (onto_first c (lines_of (d ∷ cs))) ≡ (c ∷ d ∷ cs) ∷ []
    step true n h ih = absurd (omega arith)
    step false n h ih = ap (onto_first c) (ih (omega arith))

pub lines-found : (t : List ℕ) (at : ℕ) → Some at ≡ position (λ b. b == 10) t → lines_of t ≡ take at t ∷ lines_of (drop (at + 1) t)
lines-found t at e =
    let found = place_found 10 t at e in
    subst (λ n. lines_of t ≡ take n t ∷ lines_of (drop (n + 1) t)) found.0 (lines-cut_at t (subst (λ n. n < length t) (sym found.0) found.1))

pub lines-none : (t : List ℕ) → 0 < length t → None ≡ position (λ b. b == 10) t → lines_of t ≡ t ∷ []
lines-none [] h e = absurd (omega arith)
lines-none (c ∷ cs) h e = lines-uncut c cs (place_none 10 (c ∷ cs) e)
