-- What a runnable fetches or publishes at once, in declared order: an element that is in no coherent list, or a list that was not met
-- before.
use Rattle.std.specs.Prelude.{ℕ, List, [], ◌∷◌, ◌++◌, map, Bool, true, ◌==◌, if◌then◌else◌, Option, Some, None}
use Rattle.bus_semantics.specs.Common.{AccessKind, AccessSig, Plan, Implicit, one, all_of, list_with}
use Rattle.implicit_buffers.specs.declared.fetchings.Fetching.{Fetching}
use Rattle.implicit_buffers.specs.declared.fetchings.Fetching.TheVariants as fetching

abbrev pub implicit_of : Fetching → Implicit
implicit_of (fetching.One x) = one x
implicit_of (fetching.List l) = all_of l

-- those of each runnable
abbrev pub implicits_of : List Fetching → List Implicit
implicits_of fs = map implicit_of fs

-- the lists that were met, after one that an element may be in
abbrev pub now_met : (met : ℕ → Bool) → (list : Option ℕ) → ℕ → Bool
now_met met None n = met n
now_met met (Some l) n = if l == n then true else met n

-- an element that is in no list, or a list that was not met before
abbrev pub first_met : (met : ℕ → Bool) → (elem : ℕ) → (list : Option ℕ) → List Implicit
first_met met x None = one x ∷ []
first_met met x (Some l) = if met l then [] else all_of l ∷ []

-- of the accesses that pass, in declared order
abbrev pub in_turn : Plan → (lists : List ℕ) → (AccessKind → Bool) → (met : ℕ → Bool) → List AccessSig → List ℕ → List Implicit
in_turn p lists test met (a ∷ more) (x ∷ xs) = if test a.kind
    then first_met met x (list_with p lists x) ++ in_turn p lists test (now_met met (list_with p lists x)) more xs
    else in_turn p lists test met more xs
in_turn p lists test met _ _ = []
