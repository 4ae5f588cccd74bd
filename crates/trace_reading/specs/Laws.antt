-- Laws of verdicts.
use Rattle.std.specs.Prelude.{◌≡◌, ◌↔◌, ℕ, List, ◌∷◌, true}
use Rattle.bus_laws.specs.Common.{Line, Mapping}
use Rattle.bus_semantics.specs.Common.{Plan, item_fits, Item, Session, IsBegunRunOf, Letters}
use Rattle.trace_reading.specs.declared.checked.Checked.{Checked}
use Rattle.trace_reading.specs.Refusals.{IsAccepted, IsRefused}
use Rattle.trace_reading.specs.Verdicts.{IsVerdict}

-- an item that fits goes on a begun legal run exactly if it is accepted after it
abbrev pub AcceptedItemsGoOn : Plan → Mapping → Type 0
AcceptedItemsGoOn p m = (script : List Line) (s : Session) (i : Item) → IsBegunRunOf p m script s → item_fits p i ≡ true →
    IsAccepted p m script s i ↔ IsBegunRunOf p m script (i ∷ s)

-- no item is both accepted and refused
abbrev pub RefusedIsNotAccepted : Plan → Mapping → Type 0
RefusedIsNotAccepted p m = (script : List Line) (s : Session) (i : Item) (clause : ℕ) → IsRefused p m script s i clause → IsAccepted p m script s i → ⊥

-- an item is refused for one clause
abbrev pub RefusedForOneClause : Plan → Mapping → Type 0
RefusedForOneClause p m = (script : List Line) (s : Session) (i : Item) (one other : ℕ) → IsRefused p m script s i one → IsRefused p m script s i other → one ≡ other

-- a trace has one verdict
abbrev pub TracesHaveOneVerdict : Plan → Mapping → Type 0
TracesHaveOneVerdict p m = (script : List Line) (trace : Letters) (one other : Checked) → IsVerdict p m script trace one → IsVerdict p m script trace other → one ≡ other
