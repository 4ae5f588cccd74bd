-- Compositions that contain themselves, and those that their rank shows not to.
use Rattle.std.proofs.Common.{◌≡◌, ℕ, ◌<◌, ◌≤◌, List, [], ◌∷◌, length, slice_index, Bool, true, nat_lt, nat_le, Some, inl, ⊎_elim, ◌↔◌, refl, sym, ap, subst, ◌∙◌, arith, IsTrue}
use Rattle.std.proofs.lemmas.Bool.{ltb-true, leb-true, eqb-true, eq-eqb}
use Rattle.std.specs.List.{list_any, list_all}
use Rattle.std.specs.Option.{option_map_or}
use Rattle.description_types.specs.declared.description.Description.{Description}
use Rattle.description_types.specs.declared.description.PrototypeType.{PrototypeType}
use Rattle.description_types.specs.declared.description.PrototypeType.TheVariants.{Component, Composition}
use Rattle.description_types.specs.Members.{Among}
use Rattle.description_types.specs.Paths.{prototypes_of, type_in, type_at, ContainsItself, is_composition, declared_in, declared_composition, IsReached}
use Rattle.composition_tables.specs.Ranks.{ranks_within, ranks_below}
use Rattle.composition_tables.proofs.Members.{get_some, any_true, true_any, all_true}
use Rattle.composition_tables.proofs.Steps.{step_is, step_of, step_on, last_step, holder_declared}
use Rattle.composition_tables.proofs.Reaching.{declared_from}

pub is_it : (c : ℕ) (t : PrototypeType) → is_composition c t ≡ true → t ≡ Composition c
is_it c (Component k) h = cc
is_it c (Composition e) h = ap (λ x. Composition x) (eqb-true e c h)

module _ (d : Description) (c : ℕ) where
  module _ (keys : List ℕ) (within : c < length d.compositions) (below : (e : ℕ) → Among e keys ↔ IsReached d (c ∷ []) e) where
    found_in_itself : list_any (λ h. list_any (λ p. is_composition c p.of_type) (prototypes_of d h)) keys ≡ true → ContainsItself d c
    found_in_itself h =
        let holder = any_true (λ h. list_any (λ p. is_composition c p.of_type) (prototypes_of d h)) keys h in
        let p = any_true (λ p. is_composition c p.of_type) (prototypes_of d holder.0) holder.2 in
        let k = step_of d holder.0 p.0 p.1 in
        let reached = (below holder.0).0 holder.1 in
        let start : reached.0 ≡ c = ⊎_elim (λ e. e) (λ n. absurd n) reached.1 in (
          k.0,
          reached.2.0,
          step_on d (Composition c) (Composition holder.0) (Composition c) k.0 reached.2.0
              (subst (λ x. type_at d (Composition x) reached.2.0 ≡ Some (Composition holder.0)) start reached.2.1) (k.1 ∙ ap (λ t. Some t) (is_it c p.0.of_type p.2)),
        )

    in_itself_found : ContainsItself d c → list_any (λ h. list_any (λ p. is_composition c p.of_type) (prototypes_of d h)) keys ≡ true
    in_itself_found r =
        let l = last_step d (Composition c) (Composition c) r.0 r.1 r.2 in
        let p = step_is d l.0 r.0 (Composition c) l.2 in
        let there = (below l.0).1 (c, inl refl, (r.1, l.1), holder_declared d l.0 r.0 (Composition c) l.2) in
        true_any (λ h. list_any (λ p. is_composition c p.of_type) (prototypes_of d h)) l.0 keys there
        (true_any (λ p. is_composition c p.of_type) p.0 (prototypes_of d l.0) (get_some (prototypes_of d l.0) r.0 p.0 p.1)
        (ap (is_composition c) p.2 ∙ eq-eqb c c refl))

    in_itself_here : (answer : Bool) → answer ≡ list_any (λ h. list_any (λ p. is_composition c p.of_type) (prototypes_of d h)) keys → IsTrue answer ↔ ContainsItself d c
    in_itself_here answer is = ((λ h. found_in_itself (sym is ∙ h)), (λ r. is ∙ in_itself_found r))

  pub in_itself : (starts keys slice : List ℕ) (answer : Bool) → starts ≡ c ∷ [] → slice ≡ keys → c < length d.compositions → ((e : ℕ) → Among e keys ↔ IsReached d starts e)
      → answer ≡ list_any (λ h. list_any (λ p. is_composition c p.of_type) (prototypes_of d h)) slice → IsTrue answer ↔ ContainsItself d c
  in_itself starts keys slice answer one same within below is =
      in_itself_here keys within (subst (λ ks. (e : ℕ) → Among e keys ↔ IsReached d ks e) one below) answer
      (is ∙ ap (list_any (λ h. list_any (λ p. is_composition c p.of_type) (prototypes_of d h))) same)

  -- a composition that ranks above all that it holds, where no other holds one that ranks above it
  module _ (ranks : List ℕ) (ranked : (h : ℕ) → h < length d.compositions → list_all (ranks_within d ranks (slice_index ranks h)) (prototypes_of d h) ≡ true)
      (above : list_all (ranks_below d ranks (slice_index ranks c)) (prototypes_of d c) ≡ true) where
    held_within : (h q e : ℕ) → e < length d.compositions → type_in d (Composition h) q ≡ Some (Composition e) → slice_index ranks e ≤ slice_index ranks h
    held_within h q e declared is =
        let p = step_is d h q (Composition e) is in
        let test = all_true (ranks_within d ranks (slice_index ranks h)) p.0 (prototypes_of d h) (ranked h (holder_declared d h q (Composition e) is)) (get_some (prototypes_of d h) q p.0 p.1) in
        let read : declared_composition d p.0 ≡ Some e = ap (declared_in (length d.compositions)) p.2 ∙ declared_from (length d.compositions) e declared in
        leb-true (slice_index ranks e) (slice_index ranks h) (sym (ap (λ o. option_map_or (λ e. nat_le (slice_index ranks e) (slice_index ranks h)) o true) read) ∙ test)

    held_below : (q e : ℕ) → e < length d.compositions → type_in d (Composition c) q ≡ Some (Composition e) → slice_index ranks e < slice_index ranks c
    held_below q e declared is =
        let p = step_is d c q (Composition e) is in
        let test = all_true (ranks_below d ranks (slice_index ranks c)) p.0 (prototypes_of d c) above (get_some (prototypes_of d c) q p.0 p.1) in
        let read : declared_composition d p.0 ≡ Some e = ap (declared_in (length d.compositions)) p.2 ∙ declared_from (length d.compositions) e declared in
        ltb-true (slice_index ranks e) (slice_index ranks c) (sym (ap (λ o. option_map_or (λ e. nat_lt (slice_index ranks e) (slice_index ranks c)) o true) read) ∙ test)

    path_below : (path : List ℕ) (q e : ℕ) → e < length d.compositions → type_at d (Composition c) (q ∷ path) ≡ Some (Composition e) → slice_index ranks e < slice_index ranks c
    path_below [] q e declared is = held_below q e declared is
    path_below (r ∷ path) q e declared is =
        let l = last_step d (Composition c) (Composition e) q (r ∷ path) is in
        let first = path_below path r l.0 (holder_declared d l.0 q (Composition e) l.2) l.1 in
        let rest = held_within l.0 q e declared l.2 in
        omega arith

    pub not_in_itself : c < length d.compositions → ¬ ContainsItself d c
    not_in_itself declared r = let no = path_below r.1 r.0 c declared r.2 in omega arith
