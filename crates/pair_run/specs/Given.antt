-- Which values entries give to elements (SWS_RTE: Rte_Write, Rte_IWrite; of variables: Rte_IrvWrite, Rte_IrvIWrite). Histories stand the
-- newest first, values that are given one after the other the oldest first.
use Rattle.std.specs.Prelude.{◌≡◌, ℕ, ℤ, List, [], ◌∷◌, ◌++◌, Bool, false, Some}
use Rattle.bus_semantics.specs.Common.{list_any, words_of, Plan, group_of, elems_of, marked, split, History, is_in_group}
use Rattle.bus_semantics.specs.declared.entries.Deed.{Deed}
use Rattle.bus_semantics.specs.declared.entries.Deed.TheVariants as deed

-- what a publication of a list gives: its marked elements in the list's order, each with its words
abbrev pub published : Plan → (list : ℕ) → (written : ℕ) → List ℤ → List (ℕ × List ℤ)
published p l written ws = split p (marked written (elems_of p l)) ws

-- the elements to which an entry gives a value, each with its words
abbrev pub gives : Plan → Deed → List (ℕ × List ℤ)
gives p (deed.Write x value) = (x, words_of value) ∷ []
gives p (deed.Publish x value) = (x, words_of value) ∷ []
gives p (deed.PublishAll l written value) = published p l written (words_of value)
gives p _ = []

-- what entries give, one after the other
abbrev pub given_in : Plan → History → List (ℕ × List ℤ)
given_in p [] = []
given_in p (e ∷ h) = given_in p h ++ gives p e.deed

-- one of these values is given to an element of the group
abbrev pub reaches : Plan → (group : ℕ) → List (ℕ × List ℤ) → Bool
reaches p g given = list_any (λ (pair : ℕ × List ℤ). is_in_group p g pair.0) given

-- of these values the last that is given to an element of the group
pub record IsLastGiven (p : Plan) (group : ℕ) (given : List (ℕ × List ℤ)) (words : List ℤ) : Type 0 where
  pub earlier : List (ℕ × List ℤ)
  pub elem : ℕ
  pub later : List (ℕ × List ℤ)
  pub whole : given ≡ earlier ++ (elem, words) ∷ later
  pub within : group_of p elem ≡ Some group
  pub last : reaches p group later ≡ false
