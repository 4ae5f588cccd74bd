-- A required end is in a group of many to many exactly where one of its provided ends has several required ones, and one of
-- those has several provided ones: a group in which that is nowhere so is a star.
use Rattle.std.proofs.Common.{◌≡◌, ℕ, zero, suc, List, Bool, true, false, ◌&&◌, ◌↔◌, refl, sym, subst, ◌∙◌, true≢false}
use Rattle.std.proofs.lemmas.Bool.{and_from, and_parts, false_from_ne_true}
use Rattle.std.specs.List.{list_any}
use Rattle.plan_definitions.specs.Common.{End, Join, Leads, HasRequired, HasProvided, IsManyToMany, providers, requirers, are_several, crowds, is_crowded, is_many_to_many}
use Rattle.plan_definitions.specs.JoinGroups.{IsJoined}
use Rattle.plan_definitions.specs.Joins.{same_end}
use Rattle.plan_definitions.proofs.Keys.{same_end_is, same_end_refl}
use Rattle.join_search.proofs.PartnersAre.{one_provider, one_requirer, two_providers, two_requirers, any_joined, joined_any}

module _ (joins : List Join) (e : End) where
  -- what a crowded provided end has
  crowded_has : (p : End) → is_crowded joins p ≡ true → (r : End) × IsJoined joins p r × (are_several (requirers joins p) ≡ true) × (are_several (providers joins r) ≡ true)
  crowded_has p h =
      let o = any_joined (λ j. same_end j.provided p && crowds joins j) joins h in
      let parts = and_parts (same_end o.0 p) (are_several (requirers joins o.0) && are_several (providers joins o.1)) o.3 in
      let counts = and_parts (are_several (requirers joins o.0)) (are_several (providers joins o.1)) parts.1 in
      let same = same_end_is o.0 p parts.0 in
      (o.1, subst (λ q. IsJoined joins q o.1) same o.2, subst (λ q. are_several (requirers joins q) ≡ true) same counts.0, counts.1)

  has_crowded : (p r : End) → IsJoined joins p r → are_several (requirers joins p) ≡ true → are_several (providers joins r) ≡ true → is_crowded joins p ≡ true
  has_crowded p r joined many several = joined_any (λ j. same_end j.provided p && crowds joins j) joins p r joined (and_from _ _ (same_end_refl p) (and_from _ _ many several))

  crowded_many : (p : End) → IsJoined joins p e → is_crowded joins p ≡ true → is_many_to_many joins e ≡ true
  crowded_many p joined crowded = joined_any (λ j. same_end j.required e && is_crowded joins j.provided) joins p e joined (and_from _ _ (same_end_refl e) crowded)

  many_crowded : is_many_to_many joins e ≡ true → (p : End) × IsJoined joins p e × (is_crowded joins p ≡ true)
  many_crowded h =
      let o = any_joined (λ j. same_end j.required e && is_crowded joins j.provided) joins h in
      let parts = and_parts (same_end o.1 e) (is_crowded joins o.0) o.3 in
      (o.0, subst (λ r. IsJoined joins o.0 r) (same_end_is o.1 e parts.0) o.2, parts.1)

  -- seen nearby, so of the whole group
  many_is : is_many_to_many joins e ≡ true → IsManyToMany joins e
  many_is h =
      let c = many_crowded h in
      let r = crowded_has c.0 c.2 in
      let two = two_requirers joins c.0 r.2 in
      let by = two_providers joins r.0 r.3 in (
        (by.0, by.1, by.4, (r.0, reached c.0 c.1 r.0 r.1, by.2), (r.0, reached c.0 c.1 r.0 r.1, by.3)),
        (two.0, two.1, two.4, reached c.0 c.1 two.0 two.2, reached c.0 c.1 two.1 two.3),
      )
    where
      reached : (p : End) → IsJoined joins p e → (r : End) → IsJoined joins p r → HasRequired joins e r
      reached p joined r there = (1, (e, p, refl, joined, there))

  -- a star with a provided end in its middle
  module _ (p : End) (joined : IsJoined joins p e) (single : (r : End) → IsJoined joins p r → are_several (providers joins r) ≡ false) where
    around : (n : ℕ) (r : End) → Leads joins e r n → IsJoined joins p r
    around zero r is = subst (λ x. IsJoined joins p x) is joined
    around (suc n) r (before, q, leads, back, on) =
        let there = around n before leads in
        subst (λ x. IsJoined joins x r) (one_provider joins before (single before there) q p back there) on

    one_middle : (q : End) → HasProvided joins e q → q ≡ p
    one_middle q (r, (n, leads), on) = let there = around n r leads in one_provider joins r (single r there) q p on there

  -- a star with the required end in its middle
  module _ (single : (p : End) → IsJoined joins p e → are_several (requirers joins p) ≡ false) where
    alone : (n : ℕ) (r : End) → Leads joins e r n → r ≡ e
    alone zero r is = sym is
    alone (suc n) r (before, q, leads, back, on) =
        let back_here = subst (λ x. IsJoined joins q x) (alone n before leads) back in
        one_requirer joins q (single q back_here) r e on back_here

  -- a group in which nothing is crowded nearby is one of the stars
  none_nearby : is_many_to_many joins e ≡ false → ¬ IsManyToMany joins e
  none_nearby none (provided, required) = by (list_any (λ j. same_end j.required e && are_several (requirers joins j.provided)) joins) refl
    where
      quiet : (p : End) → IsJoined joins p e → are_several (requirers joins p) ≡ true → (r : End) → IsJoined joins p r → are_several (providers joins r) ≡ false
      quiet p joined many r there = false_from_ne_true (are_several (providers joins r)) (λ several. true≢false (sym (crowded_many p joined (has_crowded p r there many several)) ∙ none))

      by : (b : Bool) → list_any (λ j. same_end j.required e && are_several (requirers joins j.provided)) joins ≡ b → ⊥
      by true some =
          let o = any_joined (λ j. same_end j.required e && are_several (requirers joins j.provided)) joins some in
          let parts = and_parts (same_end o.1 e) (are_several (requirers joins o.0)) o.3 in
          let joined = subst (λ r. IsJoined joins o.0 r) (same_end_is o.1 e parts.0) o.2 in
          provided.2 (one_middle o.0 joined (quiet o.0 joined parts.1) provided.0 provided.3 ∙ sym (one_middle o.0 joined (quiet o.0 joined parts.1) provided.1 provided.4))
      by false all =
          let single : (p : End) → IsJoined joins p e → are_several (requirers joins p) ≡ false = λ p joined. false_from_ne_true (are_several (requirers joins p))
          (λ many. true≢false (sym (joined_any (λ j. same_end j.required e && are_several (requirers joins j.provided)) joins p e joined (and_from _ _ (same_end_refl e) many)) ∙ all)) in
          required.2 (alone single required.3.0 required.0 required.3.1 ∙ sym (alone single required.4.0 required.1 required.4.1))

  pub many_to_many_is : is_many_to_many joins e ≡ true ↔ IsManyToMany joins e
  many_to_many_is = (many_is, λ h. by h (is_many_to_many joins e) refl)
    where
      by : IsManyToMany joins e → (b : Bool) → is_many_to_many joins e ≡ b → is_many_to_many joins e ≡ true
      by h true is = is
      by h false is = absurd (none_nearby is h)

  pub known_groups : (b : Bool) → b ≡ is_many_to_many joins e → b ≡ true ↔ IsManyToMany joins e
  known_groups b is = ((λ h. many_to_many_is.0 (sym is ∙ h)), (λ h. is ∙ many_to_many_is.1 h))
