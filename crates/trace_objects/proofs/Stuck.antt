-- Lists of tries of which none may follow.
use Rattle.std.proofs.Common.{◌≡◌, ℕ, zero, suc, ◌<◌, refl, arith, List, [], ◌∷◌, ◌++◌, map, Some}
use Rattle.bus_semantics.specs.Common.{slice_get, Plan, positions, History, Try, gathered, IsStuck, AllStuck}

module _ (p : Plan) (h : History) where
  pub both : (ts us : List Try) → AllStuck p h ts → AllStuck p h us → AllStuck p h (ts ++ us)
  both [] us first last = last
  both (t ∷ ts) us first last = (first.0, both ts us first.1 last)

  pub each : {X : Type 0} (f : X → List Try) (xs : List X) → ((i : ℕ) (x : X) → slice_get xs i ≡ Some x → AllStuck p h (f x)) → AllStuck p h (gathered f xs)
  each f [] stuck = tt
  each f (x ∷ xs) stuck = both (f x) (gathered f xs) (stuck 0 x refl) (each f xs (λ i y found. stuck (suc i) y found))

  -- one more
  and_one : (f : ℕ → Try) (xs : List ℕ) (n : ℕ) → AllStuck p h (map f xs) → IsStuck p h (f n) → AllStuck p h (map f (xs ++ n ∷ []))
  and_one f [] n all last = (last, tt)
  and_one f (x ∷ xs) n all last = (all.0, and_one f xs n all.1 last)

  pub below : (f : ℕ → Try) (n : ℕ) → ((i : ℕ) → i < n → IsStuck p h (f i)) → AllStuck p h (map f (positions n))
  below f zero stuck = tt
  below f (suc n) stuck = and_one f (positions n) n (below f n (λ i less. stuck i (omega (arith, less)))) (stuck n (omega arith))
