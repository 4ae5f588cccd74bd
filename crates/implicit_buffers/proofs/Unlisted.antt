-- Activations of a runnable without coherent lists fetch and publish element by element, in declared order.
use Rattle.std.proofs.Common.{◌≡◌, ℕ, List, [], ◌∷◌, map, Bool, true, false, if◌then◌else◌, refl, ap, ◌∙◌}
use Rattle.bus_semantics.specs.Common.{AccessKind, AccessSig, Plan, Runnable, to_fetch, keep_fetched, words_in, both, calling, Implicit, one, in_order, is_read_early, is_written_late}
use Rattle.bus_semantics.specs.Common.{fetches_of, publications_of, each, fetching_it, fetching, publishing_it, publishing, publishing_one}
use Rattle.implicit_buffers.specs.Buffers.{named, fetched_by, published_by, fetching_each, publishing_each}

-- ---- one after the other

each_fetch : (p : Plan) (xs : List ℕ) → each (fetching_it p) (map one xs) ≡ fetching_each xs
each_fetch p [] = refl
each_fetch p (x ∷ xs) = ap (both (calling (to_fetch x) (λ d. keep_fetched x (words_in d)))) (each_fetch p xs)

each_publication : (p : Plan) (xs : List ℕ) → each (publishing_it p) (map one xs) ≡ publishing_each xs
each_publication p [] = refl
each_publication p (x ∷ xs) = ap (both (publishing_one x)) (each_publication p xs)

module _ (p : Plan) where
  -- in declared order, where there is no list
  one_each : (test : AccessKind → Bool) (met : List ℕ) (sigs : List AccessSig) (xs : List ℕ) → in_order p [] test met sigs xs ≡ map one (named test sigs xs)
  one_each test met [] xs = refl
  one_each test met (a ∷ sigs) [] = refl
  one_each test met (a ∷ sigs) (x ∷ xs) = by_kind (test a.kind) (one_each test met sigs xs)
    where
      by_kind : (b : Bool) → in_order p [] test met sigs xs ≡ map one (named test sigs xs)
          → (if b then one x ∷ in_order p [] test met sigs xs else in_order p [] test met sigs xs) ≡ map one (if b then x ∷ named test sigs xs else named test sigs xs)
      by_kind true rest = ap (λ (is : List Implicit). one x ∷ is) rest
      by_kind false rest = rest

  pub fetches_elements : (r : Runnable) → r.lists ≡ [] → fetches_of p r ≡ map one (fetched_by r)
  fetches_elements r none = ap (λ (ls : List ℕ). in_order p ls is_read_early [] r.accesses r.targets) none ∙ one_each is_read_early [] r.accesses r.targets

  pub publishes_elements : (r : Runnable) → r.lists ≡ [] → publications_of p r ≡ map one (published_by r)
  publishes_elements r none = ap (λ (ls : List ℕ). in_order p ls is_written_late [] r.accesses r.targets) none ∙ one_each is_written_late [] r.accesses r.targets

  pub fetches : (r : Runnable) → r.lists ≡ [] → fetching p r ≡ fetching_each (fetched_by r)
  fetches r none = ap (each (fetching_it p)) (fetches_elements r none) ∙ each_fetch p (fetched_by r)

  pub publications : (r : Runnable) → r.lists ≡ [] → publishing p r ≡ publishing_each (published_by r)
  publications r none = ap (each (publishing_it p)) (publishes_elements r none) ∙ each_publication p (published_by r)
