-- The numbers of accesses: one access more, and what stands under them in an instance.
use Rattle.std.proofs.Common.{◌≡◌, ℕ, suc, ◌+◌, ◌<◌, ◌≤◌, List, [], ◌∷◌, ◌++◌, Bool, true, false, ◌&&◌, if◌then◌else◌, drop, length, map, get_or, refl, sym, ap, ◌∙◌, arith, append_assoc}
use Rattle.std.proofs.Common.{length-append}
use Rattle.std.specs.Prelude.{◌==◌}
use Rattle.std.proofs.Math.Seq.{get_or-append_seam}
use Rattle.bus_semantics.specs.Common.{and_parts, drop_more, AccessKind, AccessSig, same_kind, is_to, found}
use Rattle.std.proofs.lemmas.List.{get_or_append_left}
use Rattle.implicit_buffers.specs.Buffers.{named}
use Rattle.history_laws.proofs.Served.{kind_same}
use Rattle.task_generator.specs.Numbers.{counts_among, counted, numbers_from}

-- ---- one access more

same_next : (n n' : AccessKind → ℕ) → ((k : AccessKind) → n k ≡ n' k) → n ≡ n'
same_next n n' each i k = each k i

pub numbers_more : (accesses : List AccessSig) (i : ℕ) (x d : AccessSig) (old new all : List ℕ) (n n' : AccessKind → ℕ) → i < length accesses → x ≡ get_or accesses i d → new ≡ old ++ n x.kind ∷ []
    → ((k : AccessKind) → n' k ≡ counted x.kind n k) → old ++ numbers_from n (drop i accesses) ≡ all → new ++ numbers_from n' (drop (i + 1) accesses) ≡ all
numbers_more accesses i x d old new all n n' below is put next so_far =
    let rest = drop (i + 1) accesses in
    ap (λ ns. ns ++ numbers_from n' rest) put
    ∙ append_assoc old (n x.kind ∷ []) (numbers_from n' rest)
    ∙ ap (λ m. old ++ n x.kind ∷ numbers_from m rest) (same_next n' (counted x.kind n) next)
    ∙ ap (λ (a : AccessSig). old ++ numbers_from n (a ∷ rest)) is
    ∙ ap (λ (more : List AccessSig). old ++ numbers_from n more) (sym (drop_more accesses i d below))
    ∙ so_far

-- a count grows by 1 at most
pub one_at_most : (b : Bool) (new old k : ℕ) → new ≡ (if b then suc old else old) → old ≤ k → new ≤ k + 1
one_at_most true new old k is le = omega (arith, is, le)
one_at_most false new old k is le = omega (arith, is, le)

pub many_numbers : (n : AccessKind → ℕ) (s : List AccessSig) → length (numbers_from n s) ≡ length s
many_numbers n [] = refl
many_numbers n (a ∷ s) = ap (λ k. suc k) (many_numbers (counted a.kind n) s)

-- ---- what an access gives does not depend on what it names

pub same_ins : (here : AccessSig → Bool) (s : List AccessSig) (xs ys : List ℕ) → length s ≡ length xs → length s ≡ length ys → (found here s xs).ins ≡ (found here s ys).ins
same_ins here [] [] [] few less = refl
same_ins here [] [] (y ∷ ys) few less = absurd (omega (arith, less))
same_ins here [] (x ∷ xs) ys few less = absurd (omega (arith, few))
same_ins here (a ∷ s) [] ys few less = absurd (omega (arith, few))
same_ins here (a ∷ s) (x ∷ xs) [] few less = absurd (omega (arith, less))
same_ins here (a ∷ s) (x ∷ xs) (y ∷ ys) few less = by_test (here a) (same_ins here s xs ys (omega (arith, few)) (omega (arith, less)))
  where
    by_test : (b : Bool) → (found here s xs).ins ≡ (found here s ys).ins
        → (if b then record { target = x; ins = a.ins } else found here s xs).ins ≡ (if b then record { target = y; ins = a.ins } else found here s ys).ins
    by_test true rest = refl
    by_test false rest = rest

-- ---- the number of an access is the place, in the list of those that it is counted among, of what it names

pub kind_of : (k : AccessKind) (port item : ℕ) (a : AccessSig) → is_to k port item a ≡ true → a.kind ≡ k
kind_of k port item a at = kind_same a.kind k (and_parts (same_kind a.kind k) (a.port == port) (and_parts (same_kind a.kind k && (a.port == port)) (a.item == item) at).0).0

module _ (test : AccessKind → Bool) (f : ℕ → ℕ) (k : AccessKind) (port item : ℕ) (among : (j : AccessKind) → counts_among k j ≡ test j) (itself : test k ≡ true) where
  abbrev pub here : AccessSig → Bool
  here = is_to k port item

  pub placed : (s : List AccessSig) (xs pre : List ℕ) (n : AccessKind → ℕ) → n k ≡ length pre → 0 < length pre → get_or pre 0 0 ≡ f 0 → length s ≡ length xs
      → get_or (pre ++ map f (named test s xs)) (found here s (numbers_from n s)).target 0 ≡ f (found here s xs).target
  placed [] [] pre n next some first few = get_or_append_left pre [] 0 0 some ∙ first
  placed [] (x ∷ xs) pre n next some first few = absurd (omega (arith, few))
  placed (a ∷ s) [] pre n next some first few = absurd (omega (arith, few))
  placed (a ∷ s) (x ∷ xs) pre n next some first few = by_cases (here a) refl (test a.kind) refl (λ pre' next' some' first'. placed s xs pre' (counted a.kind n) next' some' first' (omega (arith, few)))
    where
      by_cases : (b : Bool) → here a ≡ b → (c : Bool) → test a.kind ≡ c
          → ((pre' : List ℕ) → counted a.kind n k ≡ length pre' → 0 < length pre' → get_or pre' 0 0 ≡ f 0
          → get_or (pre' ++ map f (named test s xs)) (found here s (numbers_from (counted a.kind n) s)).target 0 ≡ f (found here s xs).target)
          → get_or (pre ++ map f (if c then x ∷ named test s xs else named test s xs)) (if b then record { target = n a.kind; ins = a.ins } else found here s (numbers_from (counted a.kind n) s)).target 0
          ≡ f (if b then record { target = x; ins = a.ins } else found here s xs).target
      by_cases true at true is rest =
          let place : n a.kind ≡ length pre = ap n (kind_of k port item a at) ∙ next in
          ap (λ i. get_or (pre ++ f x ∷ map f (named test s xs)) i 0) place ∙ get_or-append_seam pre (f x) (map f (named test s xs)) 0
      by_cases true at false other rest =
          let same : test a.kind ≡ true = ap test (kind_of k port item a at) ∙ itself in
          absurd (cc)
      by_cases false at true is rest =
          let more : counted a.kind n k ≡ suc (n k) = ap (λ b. if b then suc (n k) else n k) (among a.kind ∙ is) in
          let long = length-append pre (f x ∷ []) in
          ap (λ (l : List ℕ). get_or l (found here s (numbers_from (counted a.kind n) s)).target 0) (sym (append_assoc pre (f x ∷ []) (map f (named test s xs))))
          ∙ rest (pre ++ f x ∷ []) (omega (arith, more, next, long)) (omega (arith, long)) (get_or_append_left pre (f x ∷ []) 0 0 some ∙ first)
      by_cases false at false other rest =
          let same : counted a.kind n k ≡ n k = ap (λ b. if b then suc (n k) else n k) (among a.kind ∙ other) in
          rest pre (same ∙ next) some first

-- all are counted where each is
pub all_named : (s : List AccessSig) (xs : List ℕ) → length s ≡ length xs → map (λ x. x) (named (λ k. true) s xs) ≡ xs
all_named [] [] few = refl
all_named [] (x ∷ xs) few = absurd (omega (arith, few))
all_named (a ∷ s) [] few = absurd (omega (arith, few))
all_named (a ∷ s) (x ∷ xs) few = ap (λ ys. x ∷ ys) (all_named s xs (omega (arith, few)))
