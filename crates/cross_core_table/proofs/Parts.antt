-- Which parts the first seat has joined.
use Rattle.std.proofs.Common.{◌≡◌, ◌≢◌, ◌≤◌, ◌==◌, ℕ, suc, Bool, is_some, if◌then◌else◌, List, [], ◌∷◌, ◌++◌, length, length-append, set, refl, sym, ◌∙◌, ap, subst, ⊎_elim, arith, eq-eqb}
use Rattle.std.proofs.Common.{ne_eqb, Option}
use Rattle.bus_semantics.specs.Common.{filter-append, Logged}
use mathlib.Core.Option.{some}
use lib.ListN.{get_elem?}
use Rattle.atomic_table.proofs.Lists.{at_set}
use Rattle.cross_core_table.specs.Common.{Opening, Part, View, AreJoined, Table, RoundRule, parts_of, times_joined}
use Rattle.cross_core_table.proofs.Lists.{at_within}

-- ---- a part at the end

pub one_more : (c : ℕ) (xs : List Part) (x : Part) → x.core ≡ c → length (parts_of c (xs ++ x ∷ [])) ≡ suc (length (parts_of c xs))
one_more c xs x is =
    let mine : parts_of c (x ∷ []) ≡ x ∷ [] = ap (λ (b : Bool). if b then x ∷ [] else []) (eq-eqb x.core c is) in
    omega (arith, ap (λ (l : List Part). length l) (filter-append (λ (y : Part). y.core == c) xs (x ∷ [])), length-append (parts_of c xs) (parts_of c (x ∷ [])), ap (λ (l : List Part). length l) mine)

pub no_more : (c : ℕ) (xs : List Part) (x : Part) → x.core ≢ c → length (parts_of c (xs ++ x ∷ [])) ≡ length (parts_of c xs)
no_more c xs x ne =
    let other : parts_of c (x ∷ []) ≡ [] = ap (λ (b : Bool). if b then x ∷ [] else []) (ne_eqb x.core c ne) in
    omega (arith, ap (λ (l : List Part). length l) (filter-append (λ (y : Part). y.core == c) xs (x ∷ [])), length-append (parts_of c xs) (parts_of c (x ∷ [])), ap (λ (l : List Part). length l) other)

-- parts are of seats that there are
pub none_beyond : (vs : List View) (log : List Logged) (c : ℕ) (xs : List Part) → length vs ≤ c → AreJoined vs log xs → length (parts_of c xs) ≡ 0
none_beyond vs log c [] far all = refl
none_beyond vs log c (x ∷ xs) far all =
    let there = at_within vs x.core all.1.0 all.1.1 in
    let other : parts_of c (x ∷ xs) ≡ parts_of c xs = ap (λ (b : Bool). if b then x ∷ parts_of c xs else parts_of c xs) (ne_eqb x.core c (λ e. omega arith)) in
    ap (λ (l : List Part). length l) other ∙ none_beyond vs log c xs far all.2

-- ---- a step of a seat that joins none

-- what stood at a place before
pub record Before (vs : List View) (j : ℕ) (u : View) : Type 0 where
  pub was : View
  pub there : get_elem? vs j ≡ some was
  pub opening : was.opening ≡ u.opening
  pub joined : was.joined ≡ u.joined

pub before_set : (vs : List View) (id : ℕ) (v w : View) → get_elem? vs id ≡ some v → w.opening ≡ v.opening → w.joined ≡ v.joined
    → (j : ℕ) (u : View) → get_elem? (set vs id w) j ≡ some u → Before vs j u
before_set vs id v w me opening joined j u at = ⊎_elim
    (λ t. record {
      was = v;
      there = subst (λ (i : ℕ). get_elem? vs i ≡ some v) (sym t.0) me;
      opening = sym opening ∙ ap (λ (x : View). x.opening) t.1;
      joined = sym joined ∙ ap (λ (x : View). x.joined) t.1;
    })
    (λ t. record { was = u; there = t.1; opening = refl; joined = refl })
    (at_set vs id j w u at)

pub once_kept : (k : Opening) (s : Table) (r : RoundRule k s) (c : ℕ) (v u : View) → Before s.views 0 v → Before s.views c u → length (parts_of c v.joined) ≡ times_joined u
once_kept k s r c v u first own =
    ap (λ (xs : List Part). length (parts_of c xs)) (sym first.joined)
    ∙ (r.once first.was first.there c own.was own.there ∙ ap (λ (o : Option Opening). if is_some o then 0 else 1) own.opening)

pub alone_kept : (k : Opening) (s : Table) (r : RoundRule k s) (j : ℕ) (u : View) → Before s.views (suc j) u → u.joined ≡ []
alone_kept k s r j u own = sym own.joined ∙ r.alone j own.was own.there
