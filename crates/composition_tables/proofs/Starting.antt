-- How many instances stand before those of a prototype.
use Rattle.std.proofs.Common.{◌≡◌, ℕ, zero, suc, ◌+◌, ◌<◌, ◌≤◌, min, List, [], ◌∷◌, length, map, take, slice_get, slice_index, Vec, Option, Some, None, option_map, refl, sym, ap, subst, ◌∙◌}
use Rattle.std.proofs.Common.{arith, zero-add}
use Rattle.std.proofs.lemmas.Option.{slice_get-map}
use Rattle.std.specs.Global.{Global}
use Rattle.std.specs.Option.{option_map_or}
use Rattle.description_types.specs.declared.description.Composition.{Composition as CompositionType}
use Rattle.description_types.specs.declared.description.Description.{Description}
use Rattle.description_types.specs.declared.description.Prototype.{Prototype}
use Rattle.description_types.specs.declared.description.PrototypeType.{PrototypeType}
use Rattle.composition_tables.specs.Counts.{AreCounts}
use Rattle.composition_tables.specs.Ends.{offset}
use Rattle.description_types.specs.Places.{size, size_of}
use Rattle.description_types.specs.Members.{sum_of}
use Rattle.composition_tables.specs.Trees.{running, starts_for, items_of, start_in, AreStarts}
use Rattle.composition_tables.proofs.Counting.{size_capped}

-- what has run so far
ran : (count real : PrototypeType → ℕ) → ((t : PrototypeType) → count t ≡ min (real t) 1025) → (ps : List Prototype) (total : ℕ) (q : ℕ) → total ≤ 1025 → q < length ps
    → slice_index (running count total ps) q ≡ min (total + sum_of (λ p. real p.of_type) (take q ps)) 1025
ran count real capped [] total q small within = absurd (omega arith)
ran count real capped (p ∷ ps) total zero small within = omega arith
ran count real capped (p ∷ ps) total (suc q) small within =
    let here = capped p.of_type in
    let rest = ran count real capped ps (min (total + count p.of_type) 1025) q (omega arith) (omega arith) in
    rest ∙ omega arith

module _ (d : Description) (n : ℕ) (counts : List ℕ) (are : AreCounts d n counts) where
  pub are_starts : (starts : List (Vec ℕ Global)) → map items_of starts ≡ map (starts_for counts) d.compositions → AreStarts d n starts
  are_starts starts is c q within = by (slice_get d.compositions c) refl
    where
      same : option_map items_of (slice_get starts c) ≡ option_map (starts_for counts) (slice_get d.compositions c)
      same = sym (slice_get-map items_of starts c) ∙ ap (λ l. slice_get l c) is ∙ slice_get-map (starts_for counts) d.compositions c

      by : (o : Option CompositionType) → slice_get d.compositions c ≡ o → start_in starts c q ≡ min (offset d n c q) 1025
      by None none =
          let short : q < 0 = subst (λ (o : Option CompositionType). q < length (option_map_or (λ x. x.prototypes) o [])) none within in
          absurd (omega arith)
      by (Some x) some = there (slice_get starts c) refl
        where
          within_it : q < length x.prototypes
          within_it = subst (λ (o : Option CompositionType). q < length (option_map_or (λ x. x.prototypes) o [])) some within

          there : (o : Option (Vec ℕ Global)) → slice_get starts c ≡ o → start_in starts c q ≡ min (offset d n c q) 1025
          there None none = let no : None ≡ Some (starts_for counts x) = sym (ap (option_map items_of) none) ∙ same ∙ ap (option_map (starts_for counts)) some in cc
          there (Some v) found =
              let both : Some v.items ≡ Some (starts_for counts x) = sym (ap (option_map items_of) found) ∙ same ∙ ap (option_map (starts_for counts)) some in
              let equal : v.items ≡ starts_for counts x = cc in
              ap (λ (o : Option (Vec ℕ Global)). option_map_or (λ w. slice_index w.items q) o 0) found ∙ ap (λ l. slice_index l q) equal
              ∙ ran (size_of (slice_index counts)) (size_of (size d n)) (size_capped d n counts are) x.prototypes 0 q (omega arith) within_it
              ∙ ap (λ m. min m 1025) (zero-add (sum_of (λ p. size_of (size d n) p.of_type) (take q x.prototypes)))
              ∙ sym (ap (λ (o : Option CompositionType). min (sum_of (λ p. size_of (size d n) p.of_type) (take q (option_map_or (λ x. x.prototypes) o []))) 1025) some)
