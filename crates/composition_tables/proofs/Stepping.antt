-- Lists taken element by element.
use Rattle.std.proofs.Common.{◌≡◌, ℕ, ◌+◌, ◌<◌, ◌≤◌, List, [], ◌∷◌, length, get_or, take, IsTrue, nat_eq, ◌⊎◌, inl, inr, ⊎_elim, ◌↔◌, sym, ap, subst}
use Rattle.std.proofs.lemmas.Bool.{eqb-true, eq-eqb}
use Rattle.std.proofs.lemmas.List.{take_more, take_all}
use Rattle.description_types.specs.Members.{Among}
use Rattle.composition_tables.proofs.Members.{left, right, cases}

-- one more of a list
pub one_more : {X : Type 0} (xs : List X) (i : ℕ) (d y : X) → i < length xs → Among y (take (i + 1) xs) ↔ (Among y (take i xs) ⊎ (y ≡ get_or xs i d))
one_more xs i d y h = let e = take_more xs i d h in (
  (λ a. ⊎_elim (λ l. inl l) (λ r. ⊎_elim (λ is. inr is) (λ no. absurd no) r) (cases y (take i xs) (get_or xs i d ∷ []) (subst (Among y) e a))),
  (λ s. subst (Among y) (sym e) (⊎_elim (λ l. left y (take i xs) (get_or xs i d ∷ []) l) (λ is. right y (take i xs) (get_or xs i d ∷ []) (inl is)) s)),
)

pub whole_list : {X : Type 0} (xs : List X) (i : ℕ) (y : X) (N O : Type 0) → length xs ≤ i → N ↔ (O ⊎ Among y (take i xs)) → N ↔ (O ⊎ Among y xs)
whole_list xs i y N O past h = subst (λ l. N ↔ (O ⊎ Among y l)) (take_all i xs past) h

pub step_plain : (N O T H U : Type 0) → N ↔ (O ⊎ H) → O ↔ T → U ↔ (T ⊎ H) → N ↔ U
step_plain N O T H U now before more = (
  (λ n. more.1 (⊎_elim (λ o. inl (before.0 o)) (λ h. inr h) (now.0 n))),
  (λ t. now.1 (⊎_elim (λ a. inl (before.1 a)) (λ h. inr h) (more.0 t))),
)

-- one more port of a prototype
pub under_more : (pairs : List (ℕ × ℕ)) (i q p : ℕ) (N M : Type 0) → i < length pairs → N ↔ (M ⊎ ((p ≡ (get_or pairs i (0, 0)).1) × IsTrue (nat_eq (get_or pairs i (0, 0)).0 q)))
    → M ↔ Among (q, p) (take i pairs) → N ↔ Among (q, p) (take (i + 1) pairs)
under_more pairs i q p N M within now before =
    let last = get_or pairs i (0, 0) in
    let more = one_more pairs i (0, 0) (q, p) within in (
      (λ n. more.1 (⊎_elim (λ m. inl (before.0 m)) (λ s. inr (let e = sym (eqb-true last.0 q s.1) in let f = s.0 in (λ j. (e j, f j)))) (now.0 n))),
      (λ a. now.1 (⊎_elim (λ t. inl (before.1 t)) (λ e. inr (ap (λ (k : ℕ × ℕ). k.1) e, eq-eqb last.0 q (sym (ap (λ (k : ℕ × ℕ). k.0) e)))) (more.0 a))),
    )
