-- Counts of instances, capped.
use Rattle.std.proofs.Common.{◌≡◌, ℕ, suc, ◌+◌, ◌<◌, min, List, [], ◌∷◌, length, get_or, slice_get, slice_index, drop, map, Option, Some, None, Vec, subst, ◌++◌, ⊎_elim, refl, sym, ap, ◌∙◌}
use Rattle.std.proofs.Common.{arith, ◌≤◌}
use Rattle.std.proofs.lemmas.List.{at_drop_more, get_or-map, get_or_past, length-map}
use Rattle.std.proofs.lemmas.Option.{get_or_from_slice_get, slice_get_within}
use Rattle.std.specs.Global.{Global}
use Rattle.std.specs.Option.{option_map_or}
use Rattle.description_types.specs.declared.description.Composition.{Composition as CompositionType}
use Rattle.description_types.specs.declared.description.Description.{Description}
use Rattle.description_types.specs.declared.description.Prototype.{Prototype}
use Rattle.description_types.specs.declared.description.PrototypeType.{PrototypeType}
use Rattle.description_types.specs.declared.description.PrototypeType.TheVariants.{Component, Composition}
use Rattle.description_types.specs.Places.{size, size_of}
use Rattle.composition_tables.specs.Counts.{AreCounts, count_for, IsCounted, count_in}
use Rattle.description_types.specs.Members.{sum_of}
use Rattle.composition_tables.proofs.Members.{past_end, get_push}

pub capped_more : (total here rest whole after : ℕ) → min (total + (here + rest)) 1025 ≡ whole → after ≡ min (total + here) 1025 → min (after + rest) 1025 ≡ whole
capped_more total here rest whole after is e = omega arith

pub count_turn : (f : Prototype → ℕ) (ps : List Prototype) (i : ℕ) (d : Prototype) (total after whole : ℕ) → i < length ps
    → min (total + sum_of f (drop i ps)) 1025 ≡ whole → after ≡ min (total + f (get_or ps i d)) 1025
    → min (after + sum_of f (drop (i + 1) ps)) 1025 ≡ whole
count_turn f ps i d total after whole h inv is =
    capped_more total (f (get_or ps i d)) (sum_of f (drop (i + 1) ps)) whole after (sym (at_drop_more (λ rest. min (total + sum_of f rest) 1025) ps i d h) ∙ inv) is

module _ (d : Description) (n : ℕ) (counts : List ℕ) (are : AreCounts d n counts) where
  pub size_capped : (t : PrototypeType) → size_of (slice_index counts) t ≡ min (size_of (size d n) t) 1025
  size_capped (Component k) = refl
  size_capped (Composition c) = are c

  sums_capped : (ps : List Prototype) → min (sum_of (λ p. size_of (slice_index counts) p.of_type) ps) 1025 ≡ min (sum_of (λ p. size_of (size d n) p.of_type) ps) 1025
  sums_capped [] = refl
  sums_capped (p ∷ ps) = let here = size_capped p.of_type in let rest = sums_capped ps in omega arith

  pub counts_deeper : (deeper : List ℕ) → deeper ≡ map (count_for counts) d.compositions → AreCounts d (suc n) deeper
  counts_deeper deeper is c = by (slice_get d.compositions c) refl
    where
      by : (o : Option CompositionType) → slice_get d.compositions c ≡ o → slice_index deeper c ≡ min (size d (suc n) c) 1025
      by None none =
          let past = past_end d.compositions c none in
          ap (λ xs. slice_index xs c) is ∙ get_or_past (map (count_for counts) d.compositions) c 0 (omega (arith, length-map d.compositions (count_for counts)))
          ∙ sym (ap (λ o. min (sum_of (λ p. size_of (size d n) p.of_type) (option_map_or (λ x. x.prototypes) o [])) 1025) none)
      by (Some x) some =
          let within = slice_get_within d.compositions c x some in
          ap (λ xs. slice_index xs c) is ∙ get_or-map (count_for counts) d.compositions c x 0 within ∙ ap (count_for counts) (get_or_from_slice_get d.compositions c x x some)
          ∙ sums_capped x.prototypes
          ∙ sym (ap (λ o. min (sum_of (λ p. size_of (size d n) p.of_type) (option_map_or (λ x. x.prototypes) o [])) 1025) some)

-- one more level of counts
pub levels_more : (d : Description) (levels after : List (Vec ℕ Global)) (counts : Vec ℕ Global) (depth : ℕ) → after ≡ levels ++ counts ∷ [] → length levels ≡ depth → AreCounts d depth counts.items
    → ((n : ℕ) (x : Vec ℕ Global) → slice_get levels n ≡ Some x → AreCounts d n x.items)
    → (n : ℕ) (x : Vec ℕ Global) → slice_get after n ≡ Some x → AreCounts d n x.items
levels_more d levels after counts depth is many last earlier n x some =
    ⊎_elim (λ old. earlier n x old)
    (λ (r : (n ≡ length levels) × (counts ≡ x)). subst (λ (y : Vec ℕ Global). AreCounts d n y.items) r.1 (subst (λ m. AreCounts d m counts.items) (sym (r.0 ∙ many)) last))
    (get_push levels counts x n (sym (ap (λ xs. slice_get xs n) is) ∙ some))

module _ (d : Description) where
  -- what the counts say
  pub counted : (levels : List (Vec ℕ Global)) (depth c : ℕ) → IsCounted d levels → depth ≤ 8 → count_in levels depth c ≡ min (size d depth c) 1025
  counted levels depth c is within = by (slice_get levels depth) refl
    where
      by : (o : Option (Vec ℕ Global)) → slice_get levels depth ≡ o → count_in levels depth c ≡ min (size d depth c) 1025
      by None none = let past = past_end levels depth none in absurd (omega (arith, is.0))
      by (Some counts) some = ap (λ (o : Option (Vec ℕ Global)). option_map_or (λ x. slice_index x.items c) o 0) some ∙ is.1 depth counts some c
