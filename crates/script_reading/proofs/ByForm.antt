-- Maps of what forms are for, in the order of the forms.
use Rattle.std.proofs.Common.{◌≡◌, ℕ, ◌<◌, List, length, get_or, arith}
use Rattle.bus_semantics.specs.Common.{Bor, Letters, Plan}
use Rattle.indexmap.specs.IndexMap.{IndexMap}
use Rattle.line_fields.proofs.Distinct.{as_many, at_place}
use Rattle.script_reading.specs.Index.{AreIndexes, HasIndexes, IsIndex, forms, place_of}
use Rattle.script_reading.specs.Common.{Form, Write, Send, Read, Receive, Ask, TakeResult, Switch, SeeMode}

few : (f : Form) → place_of f < 7
few Write = omega arith
few Send = omega arith
few Read = omega arith
few Receive = omega arith
few Ask = omega arith
few TakeResult = omega arith
few Switch = omega arith
few SeeMode = omega arith

pub seven : {S : Type 0} (p : Plan) (indexes : List (IndexMap (Bor Letters) ℕ S)) → AreIndexes p forms indexes → length indexes ≡ 7
seven p indexes are = as_many (λ g m. IsIndex g p m) forms indexes are

-- each form finds the map of what it is for
pub own_index : {S : Type 0} (p : Plan) (indexes : List (IndexMap (Bor Letters) ℕ S)) → AreIndexes p forms indexes → HasIndexes p indexes
own_index {S} p indexes are f m = by f
  where
    at : (i : ℕ) → i < 7 → IsIndex (get_or forms i f) p (get_or indexes i m)
    at i less = at_place (λ g n. IsIndex g p n) forms indexes i f m are less

    by : (g : Form) → IsIndex g p (get_or indexes (place_of g) m)
    by Write = at 0 (few Write)
    by Send = at 1 (few Send)
    by Read = at 2 (few Read)
    by Receive = at 3 (few Receive)
    by Ask = at 4 (few Ask)
    by TakeResult = at 4 (few TakeResult)
    by Switch = at 5 (few Switch)
    by SeeMode = at 6 (few SeeMode)
