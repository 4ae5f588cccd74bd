-- Where the points of a server have a request that has not started, one of them has.
use Rattle.std.proofs.Common.{◌≡◌, ℕ, zero, suc, ◌+◌, ◌<◌, ◌≤◌, ℤ, Bool, true, false, ◌&&◌, ◌==◌, if◌then◌else◌, refl, sym, ◌∙◌, subst, arith, List, [], ◌∷◌, ◌++◌, length, length-append}
use Rattle.std.proofs.Common.{nat_lt, Option, Some, None}
use Rattle.bus_semantics.specs.Common.{eqb-true, eq-eqb, ltb-true, ltb-false, lt-ltb, false≢true, slice_get_within, words_of, same_number, Plan, server_of, Past, requests_of, starts_of}
use Rattle.bus_semantics.specs.Common.{has_unstarted}
use Rattle.std.proofs.lemmas.Bool.{le-ltb}
use Rattle.bus_laws.specs.Common.{PointPlan, Actor, Deed}
use Rattle.bus_semantics.specs.declared.entries.Deed.TheVariants as deed
use Rattle.bus_laws.proofs.Thinning.{noting, option_same, sought_where}

abbrev bit : Bool → ℕ
bit true = 1
bit false = 0

-- what passes f is parted into what passes g and what passes k
abbrev Parts : (f g k : ℕ → Bool) → Type 0
Parts f g k = (r : ℕ) → bit (f r) ≡ bit (g r) + bit (k r)

module _ (f g k : ℕ → Bool) (parts : Parts f g k) where
  requests_sum : (l : Past) → length (requests_of f l) ≡ length (requests_of g l) + length (requests_of k l)
  requests_sum [] = omega arith
  requests_sum (n ∷ l) = by_deed n.entry.actor n.entry.deed n.event (requests_sum l)
    where
      one : (b : Bool) (xs : List (ℕ × List ℤ)) (x : ℕ × List ℤ) → length (if b then xs ++ x ∷ [] else xs) ≡ length xs + bit b
      one true xs x = length-append xs (x ∷ [])
      one false xs x = omega arith

      by_deed : (a : Actor) (d : Deed) (event : Option ℕ) → length (requests_of f l) ≡ length (requests_of g l) + length (requests_of k l)
          → length (requests_of f (noting a d event ∷ l)) ≡ length (requests_of g (noting a d event ∷ l)) + length (requests_of k (noting a d event ∷ l))
      by_deed a (deed.Ask q value zero) event before =
          let in_f = one (f q) (requests_of f l) (q, words_of value) in
          let in_g = one (g q) (requests_of g l) (q, words_of value) in
          let in_k = one (k q) (requests_of k l) (q, words_of value) in
          let both = parts q in omega arith
      by_deed a (deed.Ask q value (suc code)) event before = before
      by_deed a d event before = before

  starts_sum : (l : Past) → starts_of f l ≡ starts_of g l + starts_of k l
  starts_sum [] = omega arith
  starts_sum (n ∷ l) = by_deed n.entry.actor n.entry.deed n.event (starts_sum l)
    where
      one : (b : Bool) (x : ℕ) → (if b then suc x else x) ≡ x + bit b
      one true x = omega arith
      one false x = omega arith

      by_deed : (a : Actor) (d : Deed) (event : Option ℕ) → starts_of f l ≡ starts_of g l + starts_of k l → starts_of f (noting a d event ∷ l) ≡ starts_of g (noting a d event ∷ l) + starts_of k (noting a d event ∷ l)
      by_deed a (deed.Start e (Some q) value) event before =
          let in_f = one (f q) (starts_of f l) in
          let in_g = one (g q) (starts_of g l) in
          let in_k = one (k q) (starts_of k l) in
          let both = parts q in omega arith
      by_deed a (deed.Start e None value) event before = before
      by_deed a d event before = before

module _ (p : Plan) (s : ℕ) (l : Past) (none : (q : ℕ) → server_of p q ≡ Some s → length (requests_of (λ r. q == r) l) ≤ starts_of (λ r. q == r) l) where
  abbrev joined : ℕ → Bool
  joined r = same_number (server_of p r) (Some s)

  abbrev below : ℕ → ℕ → Bool
  below n r = joined r && nat_lt r n

  at_zero : Parts (below 0) (below 0) (below 0)
  at_zero r = let never : nat_lt r 0 ≡ false = le-ltb r 0 (omega arith) in rw never (by_test (joined r))
    where
      by_test : (b : Bool) → bit (b && false) ≡ bit (b && false) + bit (b && false)
      by_test true = omega arith
      by_test false = omega arith

  others : (n r : ℕ) → (n == r) ≡ false → nat_lt r (suc n) ≡ nat_lt r n
  others n r other = by_less (nat_lt r n) refl
    where
      by_less : (b : Bool) → nat_lt r n ≡ b → nat_lt r (suc n) ≡ b
      by_less true less = let lower : r < n = ltb-true r n less in lt-ltb r (suc n) (omega arith)
      by_less false more =
          let upper : n ≤ r = ltb-false r n more in
          let apart : n ≡ r → ⊥ = λ same. absurd (false≢true (sym other ∙ eq-eqb n r same)) in
          le-ltb r (suc n) (omega arith)

  -- the point n is joined, or it is not
  one_more : (n : ℕ) → joined n ≡ true → Parts (below (suc n)) (below n) (λ r. n == r)
  one_more n is r = by_same (n == r) refl
    where
      by_same : (b : Bool) → (n == r) ≡ b → bit (joined r && nat_lt r (suc n)) ≡ bit (joined r && nat_lt r n) + bit b
      by_same true same =
          let e : n ≡ r = eqb-true n r same in
          let here : joined r ≡ true = subst (λ x. joined x ≡ true) e is in
          let less : nat_lt r (suc n) ≡ true = lt-ltb r (suc n) (omega arith) in
          let more : nat_lt r n ≡ false = le-ltb r n (omega arith) in
          rw (here, less, more) refl
      by_same false other = rw (others n r other) (omega arith)

  one_less : (n : ℕ) → joined n ≡ false → Parts (below (suc n)) (below n) (λ r. false)
  one_less n is r = by_same (n == r) refl
    where
      by_same : (b : Bool) → (n == r) ≡ b → bit (joined r && nat_lt r (suc n)) ≡ bit (joined r && nat_lt r n) + 0
      by_same true same =
          let e : n ≡ r = eqb-true n r same in
          let here : joined r ≡ false = subst (λ x. joined x ≡ false) e is in rw here refl
      by_same false other = rw (others n r other) (omega arith)

  no_more_below : (n : ℕ) → length (requests_of (below n) l) ≤ starts_of (below n) l
  no_more_below zero = let sum = requests_sum (below 0) (below 0) (below 0) at_zero l in omega arith
  no_more_below (suc n) = by_joined (no_more_below n) (joined n) refl
    where
      by_joined : length (requests_of (below n) l) ≤ starts_of (below n) l → (b : Bool) → joined n ≡ b → length (requests_of (below (suc n)) l) ≤ starts_of (below (suc n)) l
      by_joined before true is =
          let asked = requests_sum (below (suc n)) (below n) (λ r. n == r) (one_more n is) l in
          let started = starts_sum (below (suc n)) (below n) (λ r. n == r) (one_more n is) l in
          let here = none n (option_same (server_of p n) (Some s) is) in omega arith
      by_joined before false is =
          let asked = requests_sum (below (suc n)) (below n) (λ r. false) (one_less n is) l in
          let nothing = requests_sum (λ r. false) (λ r. false) (λ r. false) (λ r. refl) l in
          let started = starts_sum (below (suc n)) (below n) (λ r. false) (one_less n is) l in omega arith

  within_points : Parts joined (below (length p.points)) (λ r. false)
  within_points r = by_test (joined r) refl
    where
      by_test : (b : Bool) → joined r ≡ b → bit b ≡ bit (b && nat_lt r (length p.points)) + 0
      by_test false is = refl
      by_test true is =
          let t = sought_where p.points r (λ (u : PointPlan). u.server) s (option_same (server_of p r) (Some s) is) in
          let less : nat_lt r (length p.points) ≡ true = lt-ltb r (length p.points) (slice_get_within p.points r t.item t.found) in rw less refl

  pub none_unstarted : has_unstarted joined l ≡ true → ⊥
  none_unstarted more =
      let less = ltb-true (starts_of joined l) (length (requests_of joined l)) more in
      let asked = requests_sum joined (below (length p.points)) (λ r. false) within_points l in
      let nothing = requests_sum (λ r. false) (λ r. false) (λ r. false) (λ r. refl) l in
      let started = starts_sum joined (below (length p.points)) (λ r. false) within_points l in
      let all = no_more_below (length p.points) in omega arith
