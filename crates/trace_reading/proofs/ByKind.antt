-- Tables of kinds, in the order of the kinds.
use Rattle.std.proofs.Common.{◌≡◌, ℕ, ◌<◌, List, length, get_or, arith}
use Rattle.bus_semantics.specs.Common.{Plan}
use Rattle.indexmap.specs.IndexMap.{IndexMap}
use Rattle.line_fields.proofs.Distinct.{as_many, at_place}
use Rattle.trace_reading.specs.Tables.{AreTables, HasTables, IsTable, Key, kinds, number_of}
use Rattle.trace_reading.specs.declared.tables.Kind.{Kind}
use Rattle.trace_reading.specs.declared.tables.Kind.TheVariants.{Instance, Runnable as a_runnable, Elem, Point, Result, Area, Machine, ModePort, Event}

few : (k : Kind) → number_of k < 9
few Instance = omega arith
few a_runnable = omega arith
few Elem = omega arith
few Point = omega arith
few Result = omega arith
few Area = omega arith
few Machine = omega arith
few ModePort = omega arith
few Event = omega arith

pub nine : {S : Type 0} (p : Plan) (tables : List (IndexMap Key ℕ S)) → AreTables p kinds tables → length tables ≡ 9
nine p tables are = as_many (λ l m. IsTable l p m) kinds tables are

-- each kind finds its table
pub own_table : {S : Type 0} (p : Plan) (tables : List (IndexMap Key ℕ S)) → AreTables p kinds tables → HasTables p tables
own_table {S} p tables are k m = by k
  where
    at : (i : ℕ) → i < 9 → IsTable (get_or kinds i k) p (get_or tables i m)
    at i less = at_place (λ l n. IsTable l p n) kinds tables i k m are less

    by : (l : Kind) → IsTable l p (get_or tables (number_of l) m)
    by Instance = at 0 (few Instance)
    by a_runnable = at 1 (few a_runnable)
    by Elem = at 2 (few Elem)
    by Point = at 3 (few Point)
    by Result = at 4 (few Result)
    by Area = at 5 (few Area)
    by Machine = at 6 (few Machine)
    by ModePort = at 7 (few ModePort)
    by Event = at 8 (few Event)
