-- In which order values are received (SWS_RTE: Rte_Receive, which takes the oldest value of the queue). Entries stand the newest first,
-- values the oldest first.
use Rattle.std.specs.Prelude.{ℕ, ℤ, List, [], ◌∷◌, ◌++◌, if◌then◌else◌}
use Rattle.bus_semantics.specs.Common.{words_of, Past, takes_at}
use Rattle.bus_semantics.specs.declared.entries.Deed.{Deed}
use Rattle.bus_semantics.specs.declared.entries.Deed.TheVariants as deed

-- the value of a Receive of the element that took one
abbrev pub value_taken : (elem : ℕ) → Deed → List (List ℤ)
value_taken x (deed.Receive y code value) = if takes_at x (deed.Receive y code value) then words_of value ∷ [] else []
value_taken x _ = []

-- the values that the Receives of an element took
abbrev pub values_taken : (elem : ℕ) → Past → List (List ℤ)
values_taken x [] = []
values_taken x (n ∷ l) = values_taken x l ++ value_taken x n.entry.deed
