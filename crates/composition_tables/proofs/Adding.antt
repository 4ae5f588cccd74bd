-- One more value under a key of a map.
use Rattle.std.proofs.Common.{◌≡◌, List, [], ◌∷◌, ◌++◌, Bool, true, false, cond, IsTrue, Some, None, Vec, ◌⊎◌, inl, inr, ⊎_elim, ◌↔◌, refl, sym, ap, subst, ◌∙◌, true≢false}
use Rattle.std.specs.Cmp.{IsEquivalence}
use Rattle.std.specs.Global.{Global}
use Rattle.std.specs.HashMap.{HashMap, UpdatesBy, Updates, get, get_by}
use Rattle.description_types.specs.Members.{Among}
use Rattle.composition_tables.specs.Multi.{under}
use Rattle.composition_tables.proofs.Members.{left, right, cases}

module _ {K X S : Type 0} (eq : K → K → Bool) (laws : IsEquivalence eq) (key : K) (value : X) (old between new : HashMap K (Vec X Global) S) (last : Vec X Global) (list : List X)
    (taken : UpdatesBy eq (eq key) old between None) (put : Updates eq between new key (Some last)) (was : list ≡ under (get eq old key)) (is : last.items ≡ list ++ value ∷ []) where
  one_list : (q : K) → eq key q ≡ true → under (get eq old q) ≡ list
  one_list q h = (λ j. under (get_by (λ y. sym (laws.congr key q y h) j) old)) ∙ sym was

  pub added : (q : K) (x : X) → Among x (under (get eq new q)) ↔ (Among x (under (get eq old q)) ⊎ ((x ≡ value) × IsTrue (eq key q)))
  added q x = by (eq key q) refl
    where
      by : (b : Bool) → eq key q ≡ b → Among x (under (get eq new q)) ↔ (Among x (under (get eq old q)) ⊎ ((x ≡ value) × IsTrue (eq key q)))
      by true h =
          let now : under (get eq new q) ≡ list ++ value ∷ [] = ap under (put.0 q ∙ ap (λ b. cond b (Some last) (get eq between q)) h) ∙ is in (
            (λ a. ⊎_elim (λ l. inl (subst (Among x) (sym (one_list q h)) l)) (λ r. ⊎_elim (λ e. inr (e, h)) (λ no. absurd no) r) (cases x list (value ∷ []) (subst (Among x) now a))),
            (λ s. subst (Among x) (sym now) (⊎_elim (λ l. left x list (value ∷ []) (subst (Among x) (one_list q h) l)) (λ r. right x list (value ∷ []) (inl r.0)) s)),
          )
      by false h =
          let now : get eq new q ≡ get eq old q = put.0 q ∙ ap (λ b. cond b (Some last) (get eq between q)) h ∙ taken.0 q ∙ ap (λ b. cond b None (get eq old q)) h in
          ((λ a. inl (subst (λ o. Among x (under o)) now a)), (λ s. ⊎_elim (λ l. subst (λ o. Among x (under o)) (sym now) l) (λ r. absurd (true≢false (sym r.1 ∙ h))) s))
