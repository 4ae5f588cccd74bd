-- Targets that come again, and those that are new.
use Rattle.std.proofs.Common.{◌≡◌, List, [], ◌∷◌, ◌++◌, Bool, true, false, cond, not, ◌&&◌, ◌||◌, filter, refl, sym, ap, ◌∙◌}
use Rattle.std.proofs.lemmas.List.Folds.{list_any-append}
use Rattle.plan_text.specs.Listing.{each_once}
use Rattle.plan_text.specs.Noting.{is_among}
use Rattle.plan_text.specs.Targets.{Target, same_target}
use Rattle.plan_text.proofs.Names.{same_is, same_refl}

-- each of these once, but for those that come before
abbrev pub unseen : List Target → List Target → List Target
unseen before ts = filter (λ u. not (is_among before u)) (each_once ts)

filter_passing : (ts : List Target) → filter (λ u. not (is_among [] u)) ts ≡ ts
filter_passing [] = refl
filter_passing (t ∷ ts) = ap (λ us. t ∷ us) (filter_passing ts)

pub none_seen : (ts : List Target) → unseen [] ts ≡ each_once ts
none_seen ts = filter_passing (each_once ts)

-- a filter behind another
filter_again : (p q r : Target → Bool) → ((t : Target) → r t ≡ (q t && p t)) → (ts : List Target) → filter p (filter q ts) ≡ filter r ts
filter_again p q r both [] = refl
filter_again p q r both (t ∷ ts) = by (q t) (p t) refl refl (filter_again p q r both ts)
  where
    by : (b c : Bool) → q t ≡ b → p t ≡ c → filter p (filter q ts) ≡ filter r ts → filter p (cond (q t) (t ∷ filter q ts) (filter q ts)) ≡ cond (r t) (t ∷ filter r ts) (filter r ts)
    by false c isq isp rest = ap (λ b. filter p (cond b (t ∷ filter q ts) (filter q ts))) isq ∙ rest ∙ ap (λ b. cond b (t ∷ filter r ts) (filter r ts)) (sym (both t ∙ ap (λ b. b && p t) isq))
    by true false isq isp rest = ap (λ b. filter p (cond b (t ∷ filter q ts) (filter q ts))) isq ∙ ap (λ b. cond b (t ∷ filter p (filter q ts)) (filter p (filter q ts))) isp ∙ rest
        ∙ ap (λ b. cond b (t ∷ filter r ts) (filter r ts)) (sym (both t ∙ (λ j. isq j && isp j)))
    by true true isq isp rest = ap (λ b. filter p (cond b (t ∷ filter q ts) (filter q ts))) isq ∙ ap (λ b. cond b (t ∷ filter p (filter q ts)) (filter p (filter q ts))) isp ∙ ap (λ us. t ∷ us) rest
        ∙ ap (λ b. cond b (t ∷ filter r ts) (filter r ts)) (sym (both t ∙ (λ j. isq j && isp j)))

not_known : (before : List Target) (t u : Target) → is_among before t ≡ true → not (is_among before u) ≡ (not (same_target t u) && not (is_among before u))
not_known before t u known = by (same_target t u) refl
  where
    by : (same : Bool) → same_target t u ≡ same → not (is_among before u) ≡ (not same && not (is_among before u))
    by false is = refl
    by true is = ap not (ap (is_among before) (sym (same_is t u is)) ∙ known)

-- one that comes before is passed over
pub unseen_known : (before : List Target) (t : Target) (ts : List Target) → is_among before t ≡ true → unseen before (t ∷ ts) ≡ unseen before ts
unseen_known before t ts known =
    let rest : List Target = filter (λ u. not (is_among before u)) (filter (λ u. not (same_target t u)) (each_once ts)) in
    ap (λ b. cond (not b) (t ∷ rest) rest) known
    ∙ filter_again (λ u. not (is_among before u)) (λ u. not (same_target t u)) (λ u. not (is_among before u)) (λ u. not_known before t u known) (each_once ts)

not_new : (b s : Bool) → not (b || (s || false)) ≡ (not s && not b)
not_new true true = refl
not_new true false = refl
not_new false true = refl
not_new false false = refl

same_flips : (a b : Target) → same_target a b ≡ same_target b a
same_flips a b = by (same_target a b) (same_target b a) refl refl
  where
    by : (x y : Bool) → same_target a b ≡ x → same_target b a ≡ y → x ≡ y
    by true true isx isy = refl
    by false false isx isy = refl
    by true false isx isy = sym (ap (λ c. same_target c a) (sym (same_is a b isx)) ∙ same_refl a) ∙ isy
    by false true isx isy = sym isx ∙ ap (λ c. same_target a c) (same_is b a isy) ∙ same_refl a

-- any other is the next
pub unseen_new : (before : List Target) (t : Target) (ts : List Target) → is_among before t ≡ false → unseen before (t ∷ ts) ≡ t ∷ unseen (before ++ t ∷ []) ts
unseen_new before t ts new =
    let rest : List Target = filter (λ u. not (is_among before u)) (filter (λ u. not (same_target t u)) (each_once ts)) in
    ap (λ b. cond (not b) (t ∷ rest) rest) new
    ∙ ap (λ us. t ∷ us) (filter_again (λ u. not (is_among before u)) (λ u. not (same_target t u)) (λ u. not (is_among (before ++ t ∷ []) u)) both (each_once ts))
  where
    both : (u : Target) → not (is_among (before ++ t ∷ []) u) ≡ (not (same_target t u) && not (is_among before u))
    both u = ap not (list_any-append (same_target u) before (t ∷ [])) ∙ ap (λ s. not (is_among before u || (s || false))) (same_flips u t) ∙ not_new (is_among before u) (same_target t u)
