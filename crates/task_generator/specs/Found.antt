-- The accesses of a signature under their keys.
use Rattle.std.specs.Prelude.{◌≡◌, ℕ, List, [], Bool, ◌&&◌, nat_eq, Option, Some, None}
use Rattle.indexmap.specs.IndexMap.{IndexMap, get}
use Rattle.bus_semantics.specs.Common.{AccessKind, AccessSig, kind_number, Access}
use Rattle.task_generator.specs.declared.accesses.Numbered.{Numbered}
use Rattle.task_generator.specs.Numbers.{numbered}

-- what a statement names: the number of its kind, the port and the item
abbrev pub Key : Type 0
Key = ℕ × ℕ × ℕ

abbrev pub same_key : Key → Key → Bool
same_key a b = (nat_eq a.0 b.0 && nat_eq a.1 b.1) && nat_eq a.2 b.2

abbrev pub numbered_of : Numbered → Access
numbered_of a = record { target = a.number; ins = a.ins.now }

-- an access that may have been found
abbrev pub access_in : Option Numbered → Access
access_in None = record { target = 0; ins = [] }
access_in (Some a) = numbered_of a

-- the map has each access of the signature with its number, and no other
abbrev pub AreFound : {S : Type 0} → List AccessSig → IndexMap Key Numbered S → Type 0
AreFound s map = (k : AccessKind) (port item : ℕ) → access_in (get same_key map (kind_number k, port, item)) ≡ numbered s k port item
