-- A text at its first newline.
use Rattle.std.proofs.Common.{◌≡◌, ℕ, suc, ◌+◌, ◌<◌, ◌≤◌, Bool, true, false, not, ◌&&◌, cond, ◌==◌, List, [], ◌∷◌, length, take, refl, sym, ap, ◌∙◌, subst, Some, None, nat_lt, arith}
use Rattle.bus_semantics.specs.Common.{and_from, eqb-true, ltb-true, ltb-false, position, position_or_len}
use Rattle.trace_check.specs.FirstLines.{Ends, is_unbroken}

abbrev place : List ℕ → ℕ
place t = position_or_len (λ b. b == 10) t

found_at : (t : List ℕ) (at : ℕ) → Some at ≡ position (λ b. b == 10) t → (place t ≡ at) × (at < length t)
found_at t at e = found (nat_lt (place t) (length t)) (place t) refl e
  where
    found : (b : Bool) (n : ℕ) → nat_lt n (length t) ≡ b → Some at ≡ cond b (Some n) None → (n ≡ at) × (at < length t)
    found true n is e = let same : n ≡ at = cc in (same, subst (λ k. k < length t) same (ltb-true n (length t) is))
    found false n is e = absurd (cc)

found_none : (t : List ℕ) → None ≡ position (λ b. b == 10) t → length t ≤ place t
found_none t e = ltb-false (place t) (length t) (none (nat_lt (place t) (length t)) (place t) e)
  where
    none : (b : Bool) (n : ℕ) → None ≡ cond b (Some n) None → b ≡ false
    none true n e = absurd (cc)
    none false n e = refl

deeper : (c : ℕ) (cs : List ℕ) (n : ℕ) → not (c == 10) ≡ true → Ends (take (n + 1) cs) → Ends (take (1 + n + 1) (c ∷ cs))
deeper c cs n other e =
    let two : suc (n + 1) ≡ 1 + n + 1 = omega arith in
    record {
      before = c ∷ e.before;
      is = ap (λ k. take k (c ∷ cs)) (sym two) ∙ ap (λ t. c ∷ t) e.is;
      unbroken = and_from (not (c == 10)) (is_unbroken e.before) other e.unbroken;
    }

cut_at : (t : List ℕ) → place t < length t → Ends (take (place t + 1) t)
cut_at [] h = absurd (omega arith)
cut_at (c ∷ cs) h = step (c == 10) refl (place cs) h (cut_at cs)
  where
    step : (b : Bool) → (c == 10) ≡ b → (n : ℕ) → cond (not b) (1 + n) 0 < suc (length cs) → (n < length cs → Ends (take (n + 1) cs)) → Ends (take (cond (not b) (1 + n) 0 + 1) (c ∷ cs))
    step true is n h ih = record { before = []; is = ap (λ x. x ∷ []) (eqb-true c 10 is); unbroken = refl }
    step false is n h ih = deeper c cs n (ap not is) (ih (omega arith))

uncut : (t : List ℕ) → length t ≤ place t → is_unbroken t ≡ true
uncut [] h = refl
uncut (c ∷ cs) h = step (c == 10) refl (place cs) h (uncut cs)
  where
    step : (b : Bool) → (c == 10) ≡ b → (n : ℕ) → suc (length cs) ≤ cond (not b) (1 + n) 0 → (length cs ≤ n → is_unbroken cs ≡ true) → (not (c == 10) && is_unbroken cs) ≡ true
    step true is n h ih = absurd (omega arith)
    step false is n h ih = and_from (not (c == 10)) (is_unbroken cs) (ap not is) (ih (omega arith))

pub ends_at : (t : List ℕ) (at : ℕ) → Some at ≡ position (λ b. b == 10) t → Ends (take (at + 1) t)
ends_at t at e = let found = found_at t at e in subst (λ n. Ends (take (n + 1) t)) found.0 (cut_at t (subst (λ n. n < length t) (sym found.0) found.1))

pub ends_not : (t : List ℕ) → None ≡ position (λ b. b == 10) t → is_unbroken t ≡ true
ends_not t e = uncut t (found_none t e)
