-- A text that is cut at a separator, by its parts and by what it was joined of.
use Rattle.std.proofs.Common.{◌≡◌, ℕ, zero, suc, ◌<◌, Bool, true, false, not, cond, ◌==◌, List, [], ◌∷◌, ◌++◌, length, nat_lt, option_copied, unwrap_or, Option, Some, None, Bor, refl, sym}
use Rattle.std.proofs.Common.{ap, ◌∙◌, arith}
use Rattle.bus_semantics.specs.Common.{list_all, and_parts, eqb-true, eq-eqb, Letters}
use Rattle.std.specs.Prelude.{MatchOption}
use Rattle.line_fields.specs.Texts.{onto_first, parts}
use Rattle.line_fields.proofs.Cutting.{parts-some}
use Rattle.line_fields.proofs.Joining.{joined, joined-parts, lacks, all_more}
use Rattle.trace_reading.specs.Cuts.{before, behind, field}

-- ---- by parts

abbrev parts_behind : ℕ → Option Letters → List Letters
parts_behind s None = []
parts_behind s (Some t) = parts s t

parts-cut : (s : ℕ) (t : Letters) → parts s t ≡ before s t ∷ parts_behind s (behind s t)
parts-cut s [] = refl
parts-cut s (c ∷ cs) = step (c == s) (parts-cut s cs)
  where
    step : (b : Bool) → parts s cs ≡ before s cs ∷ parts_behind s (behind s cs)
        → cond b ([] ∷ parts s cs) (onto_first c (parts s cs)) ≡ cond b [] (c ∷ before s cs) ∷ parts_behind s (cond b (Some cs) (behind s cs))
    step true ih = refl
    step false ih = ap (onto_first c) ih

parts-same : (s : ℕ) (t u : Letters) → parts s t ≡ parts s u → t ≡ u
parts-same s t u e = sym (joined-parts s t) ∙ ap (joined s) e ∙ joined-parts s u

nothing_behind : (s : ℕ) (o : Option Letters) → [] ≡ parts_behind s o → None ≡ o
nothing_behind s None e = refl
nothing_behind s (Some t) e = let some : 0 < length (parts s t) = parts-some s t in let none : 0 ≡ length (parts s t) = ap length e in absurd (omega arith)

some_behind : (s : ℕ) (t : Letters) (o : Option Letters) → parts s t ≡ parts_behind s o → Some t ≡ o
some_behind s t None e = let some : 0 < length (parts s t) = parts-some s t in let none : length (parts s t) ≡ 0 = ap length e in absurd (omega arith)
some_behind s t (Some u) e = ap (λ x. Some x) (parts-same s t u e)

-- the first part, and what stands behind its separator
pub cut_is : (s : ℕ) (t first : Letters) (rest : Option (Bor Letters)) → MatchOption rest (parts s t ≡ first ∷ []) (λ r. parts s t ≡ first ∷ parts s r.now)
    → (first ≡ before s t) × (option_copied rest ≡ behind s t)
cut_is s t first None h =
    let e : first ∷ [] ≡ before s t ∷ parts_behind s (behind s t) = sym h ∙ parts-cut s t in
    let more : [] ≡ parts_behind s (behind s t) = cc in
    (cc, nothing_behind s (behind s t) more)
cut_is s t first (Some r) h =
    let e : first ∷ parts s r.now ≡ before s t ∷ parts_behind s (behind s t) = sym h ∙ parts-cut s t in
    let more : parts s r.now ≡ parts_behind s (behind s t) = cc in
    (cc, some_behind s r.now (behind s t) more)

-- ---- by what it was joined of

pub cut-join : (s : ℕ) (a b : Letters) → lacks s a ≡ true → (before s (a ++ s ∷ b) ≡ a) × (behind s (a ++ s ∷ b) ≡ Some b)
cut-join s [] b h = let here : (s == s) ≡ true = eq-eqb s s refl in (ap (λ t. cond t [] (s ∷ before s b)) here, ap (λ t. cond t (Some b) (behind s b)) here)
cut-join s (c ∷ cs) b h =
    let two = and_parts (not (c == s)) (lacks s cs) h in
    let rest = cut-join s cs b two.1 in
    step (c == s) two.0 rest.0 rest.1
  where
    step : (t : Bool) → not t ≡ true → before s (cs ++ s ∷ b) ≡ cs → behind s (cs ++ s ∷ b) ≡ Some b
        → (cond t [] (c ∷ before s (cs ++ s ∷ b)) ≡ c ∷ cs) × (cond t (Some (cs ++ s ∷ b)) (behind s (cs ++ s ∷ b)) ≡ Some b)
    step true other e f = absurd (cc)
    step false other e f = (ap (λ t. c ∷ t) e, f)

pub cut-whole : (s : ℕ) (t : Letters) → lacks s t ≡ true → (before s t ≡ t) × (behind s t ≡ None)
cut-whole s [] h = (refl, refl)
cut-whole s (c ∷ cs) h =
    let two = and_parts (not (c == s)) (lacks s cs) h in
    let rest = cut-whole s cs two.1 in
    step (c == s) two.0 rest.0 rest.1
  where
    step : (t : Bool) → not t ≡ true → before s cs ≡ cs → behind s cs ≡ None → (cond t [] (c ∷ before s cs) ≡ c ∷ cs) × (cond t (Some cs) (behind s cs) ≡ None)
    step true other e f = absurd (cc)
    step false other e f = (ap (λ u. c ∷ u) e, f)

-- ---- fields

-- letters behind the space in ASCII's order
abbrev pub is_visible : ℕ → Bool
is_visible c = nat_lt 32 c

abbrev pub are_visible : Letters → Bool
are_visible t = list_all is_visible t

pub visible_lacks : (s : ℕ) → is_visible s ≡ false → (t : Letters) → are_visible t ≡ true → lacks s t ≡ true
visible_lacks s none t h = all_more is_visible (λ c. not (c == s)) other t h
  where
    other : (c : ℕ) → is_visible c ≡ true → not (c == s) ≡ true
    other c seen = step (c == s) refl
      where
        step : (b : Bool) → (c == s) ≡ b → not b ≡ true
        step true is = let same : is_visible c ≡ is_visible s = ap is_visible (eqb-true c s is) in absurd (cc)
        step false is = refl

-- a field, and more behind it
abbrev pub line_of : Letters → List Letters → Letters
line_of t [] = t
line_of t (u ∷ us) = t ++ 32 ∷ line_of u us

abbrev pub part : List Letters → ℕ → Letters
part [] n = []
part (t ∷ ts) zero = t
part (t ∷ ts) (suc n) = part ts n

no_field : (n : ℕ) → field n [] ≡ []
no_field zero = refl
no_field (suc n) = no_field n

pub field-line : (n : ℕ) (t : Letters) (ts : List Letters) → are_visible t ≡ true → list_all are_visible ts ≡ true → field n (line_of t ts) ≡ part (t ∷ ts) n
field-line zero t [] h k = (cut-whole 32 t (visible_lacks 32 refl t h)).0
field-line zero t (u ∷ us) h k = (cut-join 32 t (line_of u us) (visible_lacks 32 refl t h)).0
field-line (suc n) t [] h k = ap (λ o. field n (unwrap_or o [])) (cut-whole 32 t (visible_lacks 32 refl t h)).1 ∙ no_field n
field-line (suc n) t (u ∷ us) h k =
    let two = and_parts (are_visible u) (list_all are_visible us) k in
    ap (λ o. field n (unwrap_or o [])) (cut-join 32 t (line_of u us) (visible_lacks 32 refl t h)).1 ∙ field-line n u us two.0 two.1
