-- The paths of instances: names of prototypes joined by `/`, each once.
use Rattle.std.proofs.Common.{◌≡◌, ℕ, zero, suc, ◌+◌, ◌<◌, List, [], ◌∷◌, ◌++◌, map, length, slice_get, true, false, not, ◌&&◌, codes, nat_le, Option, Some, None, option_map}
use Rattle.std.proofs.Common.{option_and_then, inl, inr, ⊎_elim, refl, sym, ap, subst, ◌∙◌, arith, append_assoc, true≢false}
use Rattle.bus_semantics.specs.Common.{and_from, le-leb, length-map, map-append, bytes_eq-Decides, flat_map, list_all, option_map_or, is_env_path, is_name, is_path, none_is_env, parts}
use Rattle.bus_semantics.specs.Common.{is_in, same_numbers}
use Rattle.std.proofs.lemmas.Bool.{cases_Bool}
use Rattle.std.proofs.lemmas.List.{append_cancel_left, map-id}
use mathlib.Core.List.{map-map}
use Rattle.std.specs.List.{enumerate_from}
use Rattle.std.specs.Str.{bytes_eq}
use Rattle.plan_definitions.specs.Common.{Composition, Description, Prototype, PrototypeType, Flat, Instance, IsFlatOf, Place, places_of, places_below, places, name_in, name_at, prefix_at}
use Rattle.plan_definitions.specs.Common.{written, instance_at, instances, Among, AllApart, prototypes_of, type_in, type_at, plan_of, seen, IsWellFormed}
use Rattle.description_types.specs.declared.description.PrototypeType.TheVariants as of
use Rattle.bus_semantics.specs.declared.plan.BusPlan.{BusPlan}
use Rattle.bus_semantics.specs.Plan as bus
use Rattle.plan_definitions.proofs.Lists.{same_numbers_is, all_from, unflat}
use Rattle.sound_plans.proofs.Apart.{apart_append, apart_map, distinct_apart}
use Rattle.sound_plans.proofs.Keeping.{Names, of_composition}
use Rattle.sound_plans.proofs.Lists.{all_at, any_has, map_has, map_same, mapped}
use Rattle.sound_plans.proofs.Seen.{names_are, names_count}
use Rattle.sound_plans.proofs.Texts.{name_free, parts_join, parts_whole}

-- the paths at or below a prototype of a name, and at most n prototypes below a composition
abbrev pub tails_of : (ℕ → List (List ℕ)) → List ℕ → PrototypeType → List (List ℕ)
tails_of deeper name (of.Component k) = name ∷ []
tails_of deeper name (of.Composition c) = map (λ u. name ++ 47 ∷ u) (deeper c)

abbrev pub tails : Description → ℕ → ℕ → List (List ℕ)
tails d zero c = []
tails d (suc n) c = flat_map (λ (p : Prototype). tails_of (tails d n) p.short_name p.of_type) (prototypes_of d c)

-- ---- the written paths are these

map_numbered : {X Y Z : Type 0} (h : Y → Z) (f : ℕ × X → List Y) (g : X → List Z) (n : ℕ) (xs : List X)
    → ((i : ℕ) (x : X) → slice_get xs i ≡ Some x → map h (f (n + i, x)) ≡ g x) → map h (flat_map f (enumerate_from n xs)) ≡ flat_map g xs
map_numbered h f g n [] same = refl
map_numbered {X = X} h f g n (x ∷ xs) same =
    let start : n ≡ n + 0 = omega arith in
    map-append h (f (n, x)) (flat_map f (enumerate_from (n + 1) xs))
    ∙ ap (λ l. l ++ map h (flat_map f (enumerate_from (n + 1) xs))) (ap (λ m. map h (f (m, x))) start ∙ same 0 x refl)
    ∙ ap (λ l. g x ++ l) (map_numbered h f g (n + 1) xs (λ i y some. let e : n + 1 + i ≡ n + suc i = omega arith in ap (λ m. map h (f (m, y))) e ∙ same (suc i) y some))

map_flat : {X Y Z : Type 0} (h : Y → Z) (f : X → List Y) (xs : List X) → map h (flat_map f xs) ≡ flat_map (λ x. map h (f x)) xs
map_flat h f [] = refl
map_flat h f (x ∷ xs) = map-append h (f x) (flat_map f xs) ∙ ap (λ l. map h (f x) ++ l) (map_flat h f xs)

module _ (d : Description) where
  prototype_written : (n : ℕ) (t : PrototypeType) (path name : List ℕ) (q : ℕ) → written d (q ∷ path) ≡ prefix_at d path ++ name → type_at d (of.Composition d.root) (q ∷ path) ≡ Some t
      → ((c : ℕ) (path : List ℕ) → type_at d (of.Composition d.root) path ≡ Some (of.Composition c) → map (λ (x : Place). written d x.path) (places_below d n c path) ≡ map (λ u. prefix_at d path ++ u) (tails d n c))
      → map (λ (x : Place). written d x.path) (places_of (places_below d n) t (q ∷ path)) ≡ map (λ u. prefix_at d path ++ u) (tails_of (tails d n) name t)
  prototype_written n (of.Component k) path name q is typed deeper = ap (λ w. w ∷ []) is
  prototype_written n (of.Composition c) path name q is typed deeper =
      deeper c (q ∷ path) typed
      ∙ map_same (λ u. prefix_at d (q ∷ path) ++ u) (λ u. prefix_at d path ++ (name ++ 47 ∷ u)) (tails d n c)
      (λ u h. ap (λ w. (w ++ codes "/") ++ u) is ∙ append_assoc (prefix_at d path ++ name) (codes "/") u ∙ append_assoc (prefix_at d path) name (codes "/" ++ u))
      ∙ sym (map-map (λ u. prefix_at d path ++ u) (λ u. name ++ 47 ∷ u) (tails d n c))

  places_written : (n c : ℕ) (path : List ℕ) → type_at d (of.Composition d.root) path ≡ Some (of.Composition c) → map (λ (x : Place). written d x.path) (places_below d n c path) ≡ map (λ u. prefix_at d path ++ u) (tails d n c)
  places_written zero c path typed = refl
  places_written (suc n) c path typed =
      map_numbered (λ (x : Place). written d x.path) (λ (x : ℕ × Prototype). places_of (places_below d n) x.1.of_type (x.0 ∷ path)) (λ p. map (λ u. prefix_at d path ++ u) (tails_of (tails d n) p.short_name p.of_type))
      0 (prototypes_of d c)
      (λ i p some.
      let e : 0 + i ≡ i = omega arith in
      let step : type_in d (of.Composition c) i ≡ Some p.of_type = ap (option_map (λ (x : Prototype). x.of_type)) some in
      let name : name_at d path i ≡ p.short_name = ap (λ t. name_in d t i) typed ∙ ap (λ o. option_map_or (λ (x : Prototype). x.short_name) o []) some in
      let here : type_at d (of.Composition d.root) (i ∷ path) ≡ Some p.of_type = ap (option_and_then (λ holder. type_in d holder i)) typed ∙ step in
      ap (λ m. map (λ (x : Place). written d x.path) (places_of (places_below d n) p.of_type (m ∷ path))) e
      ∙ prototype_written n p.of_type path p.short_name i (ap (λ w. prefix_at d path ++ w) name) here (places_written n))
      ∙ sym (map_flat (λ u. prefix_at d path ++ u) (λ (p : Prototype). tails_of (tails d n) p.short_name p.of_type) (prototypes_of d c))

  pub paths_are : map (λ (x : Instance). x.path) (instances d) ≡ tails d 8 d.root
  paths_are = map-map (λ (x : Instance). x.path) (instance_at d) (places d) ∙ places_written 8 d.root [] refl ∙ map-id (tails d 8 d.root)

  -- ---- their parts

  module _ (whole : IsWellFormed d) where
    of_prototypes : (c : ℕ) (o : Option Composition) → slice_get d.compositions c ≡ o → Names (map (λ (p : Prototype). p.short_name) (option_map_or (λ (x : Composition). x.prototypes) o []))
    of_prototypes c None at = record { each = refl; once = refl }
    of_prototypes c (Some x) at = (of_composition d whole c x at).prototype_names

    prototype_names : (c : ℕ) → Names (map (λ (p : Prototype). p.short_name) (prototypes_of d c))
    prototype_names c = of_prototypes c (slice_get d.compositions c) refl

    pub prototype_named : (c : ℕ) (p : Prototype) → Among p (prototypes_of d c) → is_name p.short_name ≡ true
    prototype_named c p h = all_at is_name p.short_name (map (λ (p : Prototype). p.short_name) (prototypes_of d c)) (prototype_names c).each (map_has (λ (p : Prototype). p.short_name) p (prototypes_of d c) h)

    -- a prototype of the composition, and then at most so many names
    pub record Parts (n c : ℕ) (u : List ℕ) : Type 0 where
      pub first : Prototype
      pub among : Among first (prototypes_of d c)
      pub rest : List (List ℕ)
      pub are : parts 47 u ≡ first.short_name ∷ rest
      pub few : length rest < n
      pub named : list_all is_name rest ≡ true

    one_tail : (n c : ℕ) (p : Prototype) (t : PrototypeType) (u : List ℕ) → Among p (prototypes_of d c) → Among u (tails_of (tails d n) p.short_name t) → ((c : ℕ) (u : List ℕ) → Among u (tails d n c) → Parts n c u) → Parts (suc n) c u
    one_tail n c p (of.Component k) u among h deeper =
        let e : u ≡ p.short_name = ⊎_elim (λ e. e) (λ none. absurd none) h in
        record {
          first = p;
          among = among;
          rest = [];
          are = ap (parts 47) e ∙ parts_whole 47 p.short_name (name_free 47 refl p.short_name (prototype_named c p among));
          few = omega arith;
          named = refl;
        }
    one_tail n c p (of.Composition e) u among h deeper =
        let m = mapped (λ u. p.short_name ++ 47 ∷ u) u (tails d n e) h in
        let r = deeper e m.0 m.1 in
        record {
          first = p;
          among = among;
          rest = r.first.short_name ∷ r.rest;
          are = ap (parts 47) m.2 ∙ parts_join 47 p.short_name m.0 (name_free 47 refl p.short_name (prototype_named c p among)) ∙ ap (λ l. p.short_name ∷ l) r.are;
          few = let few = r.few in omega arith;
          named = and_from (is_name r.first.short_name) (list_all is_name r.rest) (prototype_named e r.first r.among) r.named;
        }

    pub tail_parts : (n c : ℕ) (u : List ℕ) → Among u (tails d n c) → Parts n c u
    tail_parts zero c u h = absurd h
    tail_parts (suc n) c u h =
        let p = unflat (λ (p : Prototype). tails_of (tails d n) p.short_name p.of_type) (prototypes_of d c) u h in
        one_tail n c p.0 p.0.of_type u p.1 p.2 (tail_parts n)

    pub tail_is_path : (c : ℕ) (u : List ℕ) → Among u (tails d 8 c) → is_path u ≡ true
    tail_is_path c u h =
        let r = tail_parts 8 c u h in
        let few = r.few in
        ap (λ (l : List (List ℕ)). is_in 1 8 (length l) && list_all is_name l) r.are
        ∙ and_from (is_in 1 8 (suc (length r.rest))) (list_all is_name (r.first.short_name ∷ r.rest))
        (and_from (nat_le 1 (suc (length r.rest))) (nat_le (suc (length r.rest)) 8) (le-leb 1 (suc (length r.rest)) (omega arith)) (le-leb (suc (length r.rest)) 8 (omega arith)))
        (and_from (is_name r.first.short_name) (list_all is_name r.rest) (prototype_named c r.first r.among) r.named)

    -- ---- each once

    front : List (List ℕ) → List ℕ
    front [] = []
    front (t ∷ ts) = t

    front_is : (n c : ℕ) (p : Prototype) (t : PrototypeType) (u : List ℕ) → Among p (prototypes_of d c) → Among u (tails_of (tails d n) p.short_name t) → front (parts 47 u) ≡ p.short_name
    unfolding front
    front_is n c p (of.Component k) u among h =
        let e : u ≡ p.short_name = ⊎_elim (λ e. e) (λ none. absurd none) h in
        ap front (ap (parts 47) e ∙ parts_whole 47 p.short_name (name_free 47 refl p.short_name (prototype_named c p among)))
    front_is n c p (of.Composition e) u among h =
        let m = mapped (λ u. p.short_name ++ 47 ∷ u) u (tails d n e) h in
        ap front (ap (parts 47) m.2 ∙ parts_join 47 p.short_name m.0 (name_free 47 refl p.short_name (prototype_named c p among)))

    one_apart : (n : ℕ) (name : List ℕ) (t : PrototypeType) → ((c : ℕ) → AllApart (tails d n c)) → AllApart (tails_of (tails d n) name t)
    one_apart n name (of.Component k) deeper = ((λ none. none), tt)
    one_apart n name (of.Composition c) deeper =
        apart_map (λ u. name ++ 47 ∷ u) (tails d n c)
        (λ u v in_u in_v same. let e : 47 ∷ u ≡ 47 ∷ v = append_cancel_left name (47 ∷ u) (47 ∷ v) same in cc) (deeper c)

    all_apart : (n c : ℕ) (ps : List Prototype) → ((p : Prototype) → Among p ps → Among p (prototypes_of d c)) → AllApart (map (λ (p : Prototype). p.short_name) ps) → ((c : ℕ) → AllApart (tails d n c))
        → AllApart (flat_map (λ (p : Prototype). tails_of (tails d n) p.short_name p.of_type) ps)
    all_apart n c [] among apart deeper = tt
    all_apart n c (p ∷ ps) among apart deeper =
        apart_append (tails_of (tails d n) p.short_name p.of_type) (flat_map (λ (p : Prototype). tails_of (tails d n) p.short_name p.of_type) ps)
        (one_apart n p.short_name p.of_type deeper) (all_apart n c ps (λ q h. among q (inr h)) apart.1 deeper)
        (λ u here later.
        let q = unflat (λ (p : Prototype). tails_of (tails d n) p.short_name p.of_type) ps u later in
        let same : p.short_name ≡ q.0.short_name = sym (front_is n c p p.of_type u (among p (inl refl)) here) ∙ front_is n c q.0 q.0.of_type u (among q.0 (inr q.1)) q.2 in
        apart.0 (subst (λ w. Among w (map (λ (p : Prototype). p.short_name) ps)) (sym same) (map_has (λ (p : Prototype). p.short_name) q.0 ps q.1)))

    pub tails_apart : (n c : ℕ) → AllApart (tails d n c)
    tails_apart zero c = tt
    tails_apart (suc n) c = all_apart n c (prototypes_of d c) (λ p h. h) (distinct_apart (map (λ (p : Prototype). p.short_name) (prototypes_of d c)) (prototype_names c).once) (tails_apart n)

  -- ---- the names of a plan

  module _ (f : Flat) (flat : IsFlatOf d f) (p : BusPlan) (is : seen p ≡ plan_of d f) where
    pub names_are_paths : p.names ≡ tails d 8 d.root
    names_are_paths = names_are d f p is ∙ ap (map (λ (x : Instance). x.path)) flat.instances_listed ∙ paths_are

    pub few_names : nat_le (length p.names) 1024 ≡ true
    few_names =
        let listed = names_count d f p is in
        let same : length f.instances ≡ length (places d) = ap length flat.instances_listed ∙ length-map (places d) (instance_at d) in
        let few = flat.limits.instances in
        le-leb (length p.names) 1024 (omega arith)

    pub names_are_fit : (whole : IsWellFormed d) → list_all is_path p.names ≡ true
    names_are_fit whole = ap (list_all is_path) names_are_paths ∙ all_from is_path (tails d 8 d.root) (tail_is_path whole d.root)

    pub names_apart : (whole : IsWellFormed d) → AllApart p.names
    names_apart whole = subst AllApart (sym names_are_paths) (tails_apart whole 8 d.root)

    not_env : (q : Prototype) → Among q (prototypes_of d d.root) → same_numbers q.short_name (codes "env") ≡ true → ⊥
    not_env q h same =
        true≢false (sym (any_has (λ (q : Prototype). bytes_eq q.short_name (codes "env")) q (prototypes_of d d.root) h ((bytes_eq-Decides q.short_name (codes "env")).1 (same_numbers_is q.short_name (codes "env") same))) ∙ flat.limits.names)

    pub no_env : (whole : IsWellFormed d) → none_is_env (bus.plan_of p) ≡ true
    no_env whole =
        ap (list_all (λ t. not (is_env_path (parts 47 t)))) names_are_paths
        ∙ all_from (λ t. not (is_env_path (parts 47 t))) (tails d 8 d.root)
        (λ u h.
        let r = tail_parts whole 8 d.root u h in
        let differs : same_numbers r.first.short_name (codes "env") ≡ false = ⊎_elim (λ same. absurd (not_env r.first r.among same)) (λ other. other) (cases_Bool (same_numbers r.first.short_name (codes "env"))) in
        ap (λ l. not (is_env_path l)) r.are ∙ ap not differs)
