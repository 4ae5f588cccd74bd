-- Accesses that are noted under their keys, from the last one to the first.
use Rattle.std.proofs.Common.{◌≡◌, ℕ, zero, suc, ◌<◌, Bool, true, false, cond, List, [], ◌∷◌, drop, length, get_or, min, Option, Some, refl, sym, ap, ◌∙◌, arith}
use Rattle.bus_semantics.specs.Common.{AccessKind, AccessSig, kind_number, is_to, found}
use Rattle.task_generator.specs.declared.accesses.Numbered.{Numbered}
use Rattle.task_generator.specs.Found.{Key, same_key, numbered_of, access_in}

no_target : (test : AccessSig → Bool) (xs : List AccessSig) → found test xs [] ≡ record { target = 0; ins = [] }
no_target test [] = refl
no_target test (a ∷ xs) = refl

-- behind the last one
pub none_behind : (test : AccessSig → Bool) (xs : List AccessSig) (ts : List ℕ) (n : ℕ) → n ≡ min (length xs) (length ts) → found test (drop n xs) (drop n ts) ≡ record { target = 0; ins = [] }
none_behind test [] [] zero h = refl
none_behind test [] (t ∷ ts) zero h = refl
none_behind test (a ∷ xs) [] zero h = refl
none_behind test [] ts (suc n) h = refl
none_behind test (a ∷ xs) [] (suc n) h = no_target test (drop n xs)
none_behind test (a ∷ xs) (t ∷ ts) zero h = absurd (omega (arith, h))
none_behind test (a ∷ xs) (t ∷ ts) (suc n) h = none_behind test xs ts n (omega (arith, h))

-- one more
one_more : (test : AccessSig → Bool) (xs : List AccessSig) (ts : List ℕ) (n : ℕ) (a : AccessSig) (t : ℕ) → n < length xs → n < length ts
    → found test (drop n xs) (drop n ts) ≡ cond (test (get_or xs n a)) (record { target = get_or ts n t; ins = (get_or xs n a).ins }) (found test (drop (suc n) xs) (drop (suc n) ts))
one_more test [] ts n a t h k = absurd (omega arith)
one_more test (b ∷ xs) [] n a t h k = absurd (omega arith)
one_more test (b ∷ xs) (u ∷ ts) zero a t h k = refl
one_more test (b ∷ xs) (u ∷ ts) (suc n) a t h k = one_more test xs ts n a t (omega arith) (omega arith)

chosen : (b : Bool) (x : Numbered) (rest : Option Numbered) → access_in (cond b (Some x) rest) ≡ cond b (numbered_of x) (access_in rest)
chosen true x rest = refl
chosen false x rest = refl

pub noted : (k : AccessKind) (port item : ℕ) (xs : List AccessSig) (ts : List ℕ) (n : ℕ) (a d : AccessSig) (t : ℕ) (old new : Key → Option Numbered) (key : Key) (x : Numbered)
    → n < length xs → n < length ts → key ≡ (kind_number a.kind, a.port, a.item) → a ≡ get_or xs n d → numbered_of x ≡ record { target = get_or ts n t; ins = a.ins }
    → ((q : Key) → new q ≡ cond (same_key key q) (Some x) (old q))
    → access_in (old (kind_number k, port, item)) ≡ found (is_to k port item) (drop (suc n) xs) (drop (suc n) ts)
    → access_in (new (kind_number k, port, item)) ≡ found (is_to k port item) (drop n xs) (drop n ts)
noted k port item xs ts n a d t old new key x h j is isa isx updates before =
    let q : Key = (kind_number k, port, item) in
    ap access_in (updates q)
    ∙ chosen (same_key key q) x (old q)
    ∙ ap (λ y. cond (same_key y q) (numbered_of x) (access_in (old q))) is
    ∙ ap (λ y. cond (is_to k port item a) y (access_in (old q))) isx
    ∙ ap (λ y. cond (is_to k port item a) (record { target = get_or ts n t; ins = a.ins }) y) before
    ∙ ap (λ (b : AccessSig). cond (is_to k port item b) (record { target = get_or ts n t; ins = b.ins }) (found (is_to k port item) (drop (suc n) xs) (drop (suc n) ts))) isa
    ∙ sym (one_more (is_to k port item) xs ts n d t h j)
