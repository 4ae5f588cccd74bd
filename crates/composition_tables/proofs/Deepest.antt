-- Which compositions stand so deep, and whether a component stands deeper.
use Rattle.std.proofs.Common.{◌≡◌, ℕ, suc, ◌-◌, ◌<◌, ◌≤◌, List, [], ◌∷◌, ◌++◌, length, take, drop, nat_eq, Bool, true, Option, Some, None, option_and_then, ⊎_elim, ◌↔◌, IsTrue, refl, sym}
use Rattle.std.proofs.Common.{ap, subst, ◌∙◌, arith}
use Rattle.std.proofs.lemmas.List.{length-append, length-drop, take-append-drop}
use Rattle.std.specs.List.{flat_map, list_any}
use Rattle.description_types.specs.declared.description.Description.{Description}
use Rattle.description_types.specs.declared.description.PrototypeType.{PrototypeType}
use Rattle.description_types.specs.declared.description.PrototypeType.TheVariants.{Component, Composition}
use Rattle.indexmap.specs.IndexSet.{insert_all}
use Rattle.description_types.specs.Places.{IsTooDeep}
use Rattle.composition_tables.specs.Levels.{is_component, IsLevel}
use Rattle.description_types.specs.Members.{Among}
use Rattle.description_types.specs.Paths.{prototypes_of, type_in, type_at, held_by, IsReached}
use Rattle.composition_tables.proofs.Members.{numbers_only, numbers_have, flat, unflat, any_true, true_any, get_some}
use Rattle.composition_tables.proofs.Reaching.{held_step, step_held}
use Rattle.composition_tables.proofs.Steps.{step_is, step_of, step_on, last_step, holder_declared}

pub through_none : {X Y : Type 0} (f : X → Option Y) (o : Option X) (y : Y) → option_and_then f o ≡ Some y → (x : X) × (o ≡ Some x) × (f x ≡ Some y)
through_none f None y h = cc
through_none f (Some x) y h = (x, refl, h)

and_then_some : {X : Type 0} (o : Option X) → o ≡ option_and_then (λ x. Some x) o
and_then_some None = refl
and_then_some (Some x) = refl

and_then_twice : {X Y Z : Type 0} (f : X → Option Y) (g : Y → Option Z) (o : Option X) → option_and_then g (option_and_then f o) ≡ option_and_then (λ x. option_and_then g (f x)) o
and_then_twice f g None = refl
and_then_twice f g (Some x) = refl

module _ (d : Description) where
  -- a path goes on from the end of another
  pub path_on : (t : PrototypeType) (xs ys : List ℕ) → type_at d t (xs ++ ys) ≡ option_and_then (λ u. type_at d u xs) (type_at d t ys)
  path_on t [] ys = and_then_some (type_at d t ys)
  path_on t (q ∷ xs) ys = ap (option_and_then (λ h. type_in d h q)) (path_on t xs ys) ∙ and_then_twice (λ u. type_at d u xs) (λ h. type_in d h q) (type_at d t ys)

  -- where a path leads on to a declared composition, it started in one
  start_is : (u : PrototypeType) (xs : List ℕ) (h : ℕ) → type_at d u xs ≡ Some (Composition h) → h < length d.compositions → (s : ℕ) × (u ≡ Composition s) × (s < length d.compositions)
  start_is u [] h is declared = (h, cc, declared)
  start_is u (q ∷ xs) h is declared = let l = last_step d u (Composition h) q xs is in start_is u xs l.0 l.1 (holder_declared d l.0 q (Composition h) l.2)

  module _ (n : ℕ) (level : List ℕ) (is : IsLevel d n level) where
    level_only : (e : ℕ) → Among e (insert_all nat_eq [] (flat_map (held_by d) level)) → (path : List ℕ) × (length path ≡ suc n) × (type_at d (Composition d.root) path ≡ Some (Composition e)) × (e < length d.compositions)
    level_only e h =
        let among = ⊎_elim (λ no. absurd no) (λ a. a) (numbers_only (flat_map (held_by d) level) [] e h) in
        let holder = unflat (held_by d) level e among in
        let step = held_step d holder.0 e holder.2 in
        let above = (is holder.0).0 holder.1 in
        (step.0 ∷ above.0, ap (λ m. suc m) above.1, step_on d (Composition d.root) (Composition holder.0) (Composition e) step.0 above.0 above.2 step.1, step.2)

    level_all : (e : ℕ) (path : List ℕ) → length path ≡ suc n → type_at d (Composition d.root) path ≡ Some (Composition e) → e < length d.compositions → Among e (insert_all nat_eq [] (flat_map (held_by d) level))
    level_all e [] long typed declared = absurd (omega arith)
    level_all e (q ∷ path) long typed declared =
        let l = last_step d (Composition d.root) (Composition e) q path typed in
        let there = (is l.0).1 (path, omega arith, l.1, holder_declared d l.0 q (Composition e) l.2) in
        numbers_have (flat_map (held_by d) level) [] e (flat (held_by d) l.0 level e there (step_held d l.0 e q l.2 declared))

  pub level_more : (n : ℕ) (level slice next : List ℕ) → slice ≡ level → next ≡ insert_all nat_eq [] (flat_map (held_by d) slice) → IsLevel d n level → IsLevel d (suc n) next
  level_more n level slice next same made is =
      subst (λ ks. IsLevel d (suc n) ks) (sym (made ∙ ap (λ ks. insert_all nat_eq [] (flat_map (held_by d) ks)) same))
      (λ e. (level_only n level is e, λ p. level_all n level is e p.0 p.1 p.2 p.3))

  module _ (level below : List ℕ) (is : IsLevel d 8 level) (all : (e : ℕ) → Among e below ↔ IsReached d level e) where
    too_deep_found : list_any (λ c. list_any (λ p. is_component p.of_type) (prototypes_of d c)) below ≡ true → IsTooDeep d
    too_deep_found h =
        let holder = any_true (λ c. list_any (λ p. is_component p.of_type) (prototypes_of d c)) below h in
        let p = any_true (λ p. is_component p.of_type) (prototypes_of d holder.0) holder.2 in
        let k = step_of d holder.0 p.0 p.1 in
        let r = (all holder.0).0 holder.1 in
        let top = (is r.0).0 r.1 in
        let down : type_at d (Composition d.root) (r.2.0 ++ top.0) ≡ Some (Composition holder.0) = path_on (Composition d.root) r.2.0 top.0 ∙ ap (option_and_then (λ u. type_at d u r.2.0)) top.2 ∙ r.2.1 in
        let c = component_of p.0.of_type p.2 in (
          k.0 ∷ (r.2.0 ++ top.0),
          c.0,
          step_on d (Composition d.root) (Composition holder.0) (Component c.0) k.0 (r.2.0 ++ top.0) down (k.1 ∙ ap (λ t. Some t) c.1),
          omega (arith, length-append r.2.0 top.0, top.1),
        )
      where
        component_of : (t : PrototypeType) → is_component t ≡ true → (k : ℕ) × (t ≡ Component k)
        component_of (Component k) is = (k, refl)
        component_of (Composition e) is = cc

    too_deep_at : (q : ℕ) (path : List ℕ) (k : ℕ) → type_at d (Composition d.root) (q ∷ path) ≡ Some (Component k) → 8 ≤ length path
        → list_any (λ c. list_any (λ p. is_component p.of_type) (prototypes_of d c)) below ≡ true
    too_deep_at q path k typed deep =
        let l = last_step d (Composition d.root) (Component k) q path typed in
        let p = step_is d l.0 q (Component k) l.2 in
        let upper = drop (length path - 8) path in
        let lower = take (length path - 8) path in
        let whole : lower ++ upper ≡ path = take-append-drop (length path - 8) path in
        let two : option_and_then (λ u. type_at d u lower) (type_at d (Composition d.root) upper) ≡ Some (Composition l.0) =
        sym (path_on (Composition d.root) lower upper) ∙ ap (type_at d (Composition d.root)) whole ∙ l.1 in
        let mid = through_none (λ u. type_at d u lower) (type_at d (Composition d.root) upper) (Composition l.0) two in
        let declared = holder_declared d l.0 q (Component k) l.2 in
        let start = start_is mid.0 lower l.0 mid.2 declared in
        let eight : length upper ≡ 8 = omega (arith, length-drop (length path - 8) path) in
        let there = (is start.0).1 (upper, eight, mid.1 ∙ ap (λ t. Some t) start.1, start.2) in
        let reached = (all l.0).1 (start.0, there, (lower, subst (λ t. type_at d t lower ≡ Some (Composition l.0)) start.1 mid.2), declared) in
        true_any (λ c. list_any (λ p. is_component p.of_type) (prototypes_of d c)) l.0 below reached
        (true_any (λ p. is_component p.of_type) p.0 (prototypes_of d l.0) (get_some (prototypes_of d l.0) q p.0 p.1) (ap is_component p.2))

    too_deep_by : (path : List ℕ) (k : ℕ) → type_at d (Composition d.root) path ≡ Some (Component k) → 8 < length path
        → list_any (λ c. list_any (λ p. is_component p.of_type) (prototypes_of d c)) below ≡ true
    too_deep_by [] k typed deep = absurd (omega arith)
    too_deep_by (q ∷ path) k typed deep = too_deep_at q path k typed (omega arith)

  pub too_deep : (level below slice : List ℕ) (answer : Bool) → slice ≡ below → IsLevel d 8 level → ((e : ℕ) → Among e below ↔ IsReached d level e)
      → answer ≡ list_any (λ c. list_any (λ p. is_component p.of_type) (prototypes_of d c)) slice → IsTrue answer ↔ IsTooDeep d
  too_deep level below slice answer same is all made =
      let read : answer ≡ list_any (λ c. list_any (λ p. is_component p.of_type) (prototypes_of d c)) below = made ∙ ap (list_any (λ c. list_any (λ p. is_component p.of_type) (prototypes_of d c))) same in
      ((λ h. too_deep_found level below is all (sym read ∙ h)), (λ p. read ∙ too_deep_by level below is all p.0 p.1 p.2 p.3))
