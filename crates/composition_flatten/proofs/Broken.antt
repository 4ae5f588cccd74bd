-- The first connector that breaks its rule.
use Rattle.std.proofs.Common.{◌≡◌, ℕ, ◌+◌, ◌<◌, ◌≤◌, List, [], ◌∷◌, ◌++◌, length, take, map, slice_get, Bool, true, false, not, ◌||◌, Option, Some, None, ◌⊎◌, inl, inr, ⊎_elim, ◌↔◌, IsTrue}
use Rattle.std.proofs.Common.{sym, ap, subst, ◌∙◌, arith, true≢false}
use Rattle.std.proofs.lemmas.Bool.{or_cases, or_parts, not-true, not-false, cases_lt}
use Rattle.std.specs.Option.{option_map_or}
use Rattle.std.proofs.lemmas.List.{map_more}
use Rattle.std.proofs.lemmas.Option.{get_or_from_slice_get, slice_get_past, slice_get_within}
use Rattle.description_types.specs.declared.description.Connector.{Connector}
use Rattle.description_types.specs.declared.description.Description.{Description}
use Rattle.composition_flatten.specs.declared.wiring.Key.{Key}
use Rattle.description_types.specs.Connectors.{connectors_of, lets_join, IsBrokenConnector}
use Rattle.description_types.specs.Firsts.{IsFirst}
use Rattle.composition_flatten.specs.Keys.{key_of}
use Rattle.description_types.specs.Members.{Among}
use Rattle.composition_tables.proofs.Members.{left, right, cases, map_in}
use Rattle.composition_flatten.proofs.SameKeys.{same_connector}

unmapped : (x : Connector) (xs : List Connector) → Among (key_of x) (map key_of xs) → Among x xs
unmapped x [] h = absurd h
unmapped x (y ∷ xs) (inl e) = inl (same_connector x y e)
unmapped x (y ∷ xs) (inr h) = inr (unmapped x xs h)

module _ (d : Description) (c : ℕ) (cs : List Connector) (same : cs ≡ connectors_of d c) (m : ℕ) (x : Connector) (some : slice_get cs m ≡ Some x)
    (noted : List Key) (all : (k : Key) → Among k noted ↔ Among k (map key_of (take m cs))) (key : Key) (key_is : key ≡ key_of x)
    (repeated : Bool) (says_key : IsTrue repeated ↔ Among key noted) where
  says : IsTrue repeated ↔ Among (key_of x) noted
  says = subst (λ k. IsTrue repeated ↔ Among k noted) key_is says_key

  at_it : slice_get (connectors_of d c) m ≡ Some x
  at_it = sym (ap (λ l. slice_get l m) same) ∙ some

  pub broken_here : (repeated || not (lets_join d c x)) ≡ true → IsBrokenConnector d c m
  broken_here h = (
    x,
    at_it,
    ⊎_elim (λ r. inr (subst (λ l. Among x (take m l)) same (unmapped x (take m cs) ((all (key_of x)).0 (says.0 r)))))
        (λ n. inl (not-true (lets_join d c x) n)) (or_cases repeated (not (lets_join d c x)) h),
  )

  pub unbroken_here : (repeated || not (lets_join d c x)) ≡ false → ¬ IsBrokenConnector d c m
  unbroken_here h broken =
      let parts = or_parts repeated (not (lets_join d c x)) h in
      let it : Some x ≡ Some broken.0 = sym at_it ∙ broken.1 in
      let is : x ≡ broken.0 = cc in
      ⊎_elim (λ lets. true≢false (sym (not-false (lets_join d c x) parts.1) ∙ ap (lets_join d c) is ∙ lets))
      (λ earlier. true≢false (sym (says.1 ((all (key_of x)).1 (map_in key_of x (take m cs) (subst (λ l. Among x (take m l)) (sym same) (subst (λ y. Among y (take m (connectors_of d c))) (sym is) earlier))))) ∙ parts.0))
      broken.2

  pub noted_more : (after : List Key) → ((k : Key) → Among k after ↔ (Among k noted ⊎ (k ≡ key))) → m < length cs → (k : Key) → Among k after ↔ Among k (map key_of (take (m + 1) cs))
  noted_more after more within k =
      let grown : map key_of (take (m + 1) cs) ≡ map key_of (take m cs) ++ key_of x ∷ [] = map_more key_of cs m x within ∙ ap (λ y. map key_of (take m cs) ++ key_of y ∷ []) (get_or_from_slice_get cs m x x some) in (
        (λ h. subst (Among k) (sym grown) (⊎_elim (λ old. left k (map key_of (take m cs)) (key_of x ∷ []) ((all k).0 old)) (λ e. right k (map key_of (take m cs)) (key_of x ∷ []) (inl (e ∙ key_is))) ((more k).0 h))),
        (λ h. (more k).1 (⊎_elim (λ old. inl ((all k).1 old)) (λ e. ⊎_elim (λ is. inr (is ∙ sym key_is)) (λ no. absurd no) e) (cases k (map key_of (take m cs)) (key_of x ∷ []) (subst (Among k) grown h)))),
      )

-- no connector of any composition below the next one is broken
module _ (d : Description) where
  connector_declared : (c m : ℕ) (x : Connector) → slice_get (connectors_of d c) m ≡ Some x → c < length d.compositions
  connector_declared c m x some = ⊎_elim (λ within. within) absent (cases_lt c (length d.compositions))
    where
      absent : length d.compositions ≤ c → c < length d.compositions
      absent past =
          let none : slice_get (connectors_of d c) m ≡ None = ap (λ o. slice_get (option_map_or (λ x. x.connectors) o []) m) (slice_get_past d.compositions c past) in
          let no : None ≡ Some x = sym none ∙ some in cc

  pub none_broken_more : (i : ℕ) (found : Option ℕ) → ((c m : ℕ) → c < i → ¬ IsBrokenConnector d c m) → IsFirst (IsBrokenConnector d i) (length (connectors_of d i)) found → found ≡ None
      → (c m : ℕ) → c < i + 1 → ¬ IsBrokenConnector d c m
  none_broken_more i found before first none c m below broken =
      ⊎_elim (λ earlier. before c m earlier broken)
      (λ (now : i ≤ c).
      let same : c ≡ i = omega arith in
      let here : IsFirst (IsBrokenConnector d i) (length (connectors_of d i)) None = subst (IsFirst (IsBrokenConnector d i) (length (connectors_of d i))) none first in
      here m (subst (λ k. m < length (connectors_of d k)) same (slice_get_within (connectors_of d c) m broken.0 broken.1)) (subst (λ k. IsBrokenConnector d k m) same broken))
      (cases_lt c i)

  pub none_broken : (i : ℕ) → ((c m : ℕ) → c < i → ¬ IsBrokenConnector d c m) → length d.compositions ≤ i → (c m : ℕ) → ¬ IsBrokenConnector d c m
  none_broken i before past c m broken = let declared = connector_declared c m broken.0 broken.1 in before c m (omega arith) broken
