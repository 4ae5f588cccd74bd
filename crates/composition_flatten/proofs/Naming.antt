-- The instances as they are listed are those of the places.
use Rattle.std.proofs.Common.{◌≡◌, ℕ, zero, suc, ◌+◌, ◌<◌, List, [], ◌∷◌, ◌++◌, length, map, codes, Vec, Some, option_map, refl, sym, ap, ◌∙◌, arith}
use Rattle.std.proofs.lemmas.List.{nil_from_length, append-nil}
use Rattle.std.specs.Global.{Global}
use Rattle.std.specs.List.{enumerate_from}
use Rattle.std.specs.Option.{option_map_or}
use Rattle.description_types.specs.declared.description.Description.{Description}
use Rattle.description_types.specs.declared.description.Prototype.{Prototype}
use Rattle.description_types.specs.declared.description.PrototypeType.{PrototypeType}
use Rattle.description_types.specs.declared.description.PrototypeType.TheVariants.{Component, Composition}
use Rattle.description_types.specs.declared.flat.Instance.{Instance}
use Rattle.composition_tables.specs.Counts.{IsCounted, count_in}
use Rattle.description_types.specs.Places.{places_of, places_below, size, size_of}
use Rattle.description_types.specs.Instances.{name_in, name_at, prefix_at, written, instance_at, instances}
use Rattle.composition_flatten.specs.Named.{named_below, named_of}
use Rattle.description_types.specs.Paths.{prototypes_of, type_in, type_at}
use Rattle.composition_tables.proofs.Members.{flat_length, sum_same, sum_numbered, map_numbered}
use Rattle.composition_tables.proofs.Steps.{step_on}
use Rattle.composition_tables.proofs.Counting.{counted}

module _ (d : Description) where
  named_one : (n : ℕ) (t : PrototypeType) (path : List ℕ) → ((c : ℕ) (prefix : List ℕ) → length (named_below d n c prefix) ≡ size d n c) → length (named_of (named_below d n) t path) ≡ size_of (size d n) t
  named_one n (Component k) path deeper = refl
  named_one n (Composition c) path deeper = deeper c (path ++ codes "/")

  pub named_size : (n c : ℕ) (prefix : List ℕ) → length (named_below d n c prefix) ≡ size d n c
  named_size zero c prefix = refl
  named_size (suc n) c prefix =
      flat_length (λ (p : Prototype). named_of (named_below d n) p.of_type (prefix ++ p.short_name)) (prototypes_of d c)
      ∙ sum_same (λ (p : Prototype). length (named_of (named_below d n) p.of_type (prefix ++ p.short_name))) (λ p. size_of (size d n) p.of_type)
      (λ p. named_one n p.of_type (prefix ++ p.short_name) (named_size n)) (prototypes_of d c)

  pub placed_one : (n : ℕ) (t : PrototypeType) (path : List ℕ) → ((c : ℕ) (path : List ℕ) → length (places_below d n c path) ≡ size d n c) → length (places_of (places_below d n) t path) ≡ size_of (size d n) t
  placed_one n (Component k) path deeper = refl
  placed_one n (Composition c) path deeper = deeper c path

  pub placed_size : (n c : ℕ) (path : List ℕ) → length (places_below d n c path) ≡ size d n c
  placed_size zero c path = refl
  placed_size (suc n) c path =
      flat_length (λ (x : ℕ × Prototype). places_of (places_below d n) x.1.of_type (x.0 ∷ path)) (enumerate_from 0 (prototypes_of d c))
      ∙ sum_numbered (λ (x : ℕ × Prototype). length (places_of (places_below d n) x.1.of_type (x.0 ∷ path))) (λ p. size_of (size d n) p.of_type)
      (λ i p. placed_one n p.of_type (i ∷ path) (placed_size n)) 0 (prototypes_of d c)

  -- where the count is 0, nothing is listed
  pub none_named : (levels : List (Vec ℕ Global)) (depth c count : ℕ) (t : PrototypeType) (path : List ℕ) (before : List Instance) → IsCounted d levels → depth < 8 → count ≡ count_in levels depth c → count ≡ 0 → t ≡ Composition c
      → before ≡ before ++ named_of (named_below d depth) t path
  none_named levels depth c count t path before is within made zero_is typed =
      let capped = counted d levels depth c is (omega arith) in
      let long = named_size depth c (path ++ codes "/") in
      let nothing : named_of (named_below d depth) t path ≡ [] =
      ap (λ u. named_of (named_below d depth) u path) typed ∙ nil_from_length (named_below d depth c (path ++ codes "/")) (omega arith) in
      sym (append-nil before) ∙ ap (λ l. before ++ l) (sym nothing)

  -- the instances are listed as the places say
  named_here : (n : ℕ) (t : PrototypeType) (path name prefix : List ℕ) (q : ℕ) → written d (q ∷ path) ≡ prefix ++ name → type_at d (Composition d.root) (q ∷ path) ≡ Some t
      → ((c : ℕ) (path : List ℕ) → type_at d (Composition d.root) path ≡ Some (Composition c) → map (instance_at d) (places_below d n c path) ≡ named_below d n c (prefix_at d path))
      → map (instance_at d) (places_of (places_below d n) t (q ∷ path)) ≡ named_of (named_below d n) t (prefix ++ name)
  named_here n (Component k) path name prefix q is typed deeper = ap (λ w. record { path = w; component = k } ∷ []) is
  named_here n (Composition c) path name prefix q is typed deeper = deeper c (q ∷ path) typed ∙ ap (λ w. named_below d n c (w ++ codes "/")) is

  pub named_places : (n c : ℕ) (path : List ℕ) → type_at d (Composition d.root) path ≡ Some (Composition c) → map (instance_at d) (places_below d n c path) ≡ named_below d n c (prefix_at d path)
  named_places zero c path typed = refl
  named_places (suc n) c path typed =
      map_numbered (instance_at d) (λ (x : ℕ × Prototype). places_of (places_below d n) x.1.of_type (x.0 ∷ path)) (λ p. named_of (named_below d n) p.of_type (prefix_at d path ++ p.short_name))
      0 (prototypes_of d c)
      (λ i p some.
      let e : 0 + i ≡ i = omega arith in
      let step : type_in d (Composition c) i ≡ Some p.of_type = ap (option_map (λ (x : Prototype). x.of_type)) some in
      let name : name_at d path i ≡ p.short_name = ap (λ t. name_in d t i) typed ∙ ap (λ o. option_map_or (λ (x : Prototype). x.short_name) o []) some in
      ap (λ m. map (instance_at d) (places_of (places_below d n) p.of_type (m ∷ path))) e
      ∙ named_here n p.of_type path p.short_name (prefix_at d path) i (ap (λ w. prefix_at d path ++ w) name) (step_on d (Composition d.root) (Composition c) p.of_type i path typed step) (named_places n))

  pub named_instances : named_below d 8 d.root [] ≡ instances d
  named_instances = sym (named_places 8 d.root [] refl)
