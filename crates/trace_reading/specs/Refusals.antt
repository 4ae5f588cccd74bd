-- Why an item of a trace is refused after the session of the lines before it: for the least clause that it breaks. These come in the
-- order: script and marks (16), the actor's program (6), what the bus answers (7 to 13), closing words (15). Numbers and order are this
-- project's own; what each clause says of an entry is the standard's, as the files of `bus_semantics` say. Sessions stand the newest first.
use Rattle.std.specs.Prelude.{◌≡◌, ◌⊎◌, ℕ, List, ◌∷◌, true, Some, None}
use Rattle.bus_laws.specs.Common.{Line, Mapping, Entry}
use Rattle.bus_semantics.specs.Common.{Plan, broken_clause, Closing, Item, made, run_begins, run_closes, Session, history_of, is_inside, IsBeginningOf, Holds}

-- a closing word stands inside a run line, and holds there
pub record Closes (p : Plan) (m : Mapping) (s : Session) (word : Closing) : Type 0 where
  pub inside : is_inside s ≡ true
  pub holds : Holds p m s word

-- ---- accepted

-- in the order of the script, and what the actor's program asks and the bus answers
pub record IsAcceptedEntry (p : Plan) (script : List Line) (s : Session) (e : Entry) : Type 0 where
  pub in_order : IsBeginningOf script (made e ∷ s)
  pub unbroken : broken_clause p (history_of s) e ≡ None

-- the item may come next
abbrev pub IsAccepted : Plan → Mapping → List Line → Session → Item → Type 0
IsAccepted p m script s (made e) = IsAcceptedEntry p script s e
IsAccepted p m script s run_begins = IsBeginningOf script (run_begins ∷ s)
IsAccepted p m script s (run_closes word) = Closes p m s word

-- ---- refused

-- it is not the script's next call or run mark, or stands on the wrong side of one
pub record IsOutOfOrder (script : List Line) (s : Session) (i : Item) (clause : ℕ) : Type 0 where
  pub no_beginning : IsBeginningOf script (i ∷ s) → ⊥
  pub clause_is : clause ≡ 16

-- in its place, it is not what the actor's program asks, or not what the bus answers
pub record IsBrokenEntry (p : Plan) (script : List Line) (s : Session) (e : Entry) (clause : ℕ) : Type 0 where
  pub in_order : IsBeginningOf script (made e ∷ s)
  pub broken : broken_clause p (history_of s) e ≡ Some clause

-- a closing word that does not hold, or stands outside run lines
pub record IsNoClosing (p : Plan) (m : Mapping) (s : Session) (word : Closing) (clause : ℕ) : Type 0 where
  pub closes_not : Closes p m s word → ⊥
  pub clause_is : clause ≡ 15

-- the item may not come next, and this is the least clause that it breaks
abbrev pub IsRefused : Plan → Mapping → List Line → Session → Item → (clause : ℕ) → Type 0
IsRefused p m script s (made e) clause = IsOutOfOrder script s (made e) clause ⊎ IsBrokenEntry p script s e clause
IsRefused p m script s run_begins clause = IsOutOfOrder script s run_begins clause
IsRefused p m script s (run_closes word) clause = IsNoClosing p m s word clause
