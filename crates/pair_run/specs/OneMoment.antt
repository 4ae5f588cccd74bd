-- What is seen of coherent lists (SWS_RTE: Rte_IRead, Rte_IWrite; the lists are this project's own). Histories stand the newest first.
use Rattle.std.specs.Prelude.{◌≡◌, ℕ, ℤ, List, [], ◌∷◌, ◌++◌, true, false, Some, slice_get}
use Rattle.std.specs.Int.{bit_at}
use Rattle.bus_semantics.specs.Common.{Value, words_of, Plan, group_of, elems_of, split, History, noted, moment_of}
use Rattle.bus_laws.specs.Common.{ElemPlan, Entry}
use Rattle.pair_run.specs.Given.{published, gives, given_in, reaches, IsLastGiven}

-- what a fetched list shows: its elements in the list's order, each with its words
abbrev pub shown : Plan → (list : ℕ) → Value → List (ℕ × List ℤ)
shown p l value = split p (elems_of p l) (words_of value)

-- the words of an element after a history: the last that were given to its group, or its initial value if none were
pub data StandsAt (p : Plan) (h : History) (x : ℕ) (ws : List ℤ) : Type 0 where
  was_given : (e : ElemPlan) → slice_get p.elements x ≡ Some e → IsLastGiven p e.group (given_in p h) ws → StandsAt p h x ws
  never_given : (e : ElemPlan) → slice_get p.elements x ≡ Some e → reaches p e.group (given_in p h) ≡ false → ws ≡ words_of e.init → StandsAt p h x ws

-- each element shows how it stood after the history
abbrev pub ShowsHistory : Plan → History → (list : ℕ) → Value → Type 0
ShowsHistory p h l value = (i x : ℕ) (ws : List ℤ) → slice_get (shown p l value) i ≡ Some (x, ws) → StandsAt p h x ws

-- each element of a group to which an entry gave something shows what it gave last there, or what a later entry did
abbrev pub ShowsWhole : Plan → History → (list : ℕ) → Value → Type 0
ShowsWhole p h l value = (after before : History) (b : Entry) (i x group : ℕ) (ws : List ℤ) → h ≡ after ++ b ∷ before
    → slice_get (shown p l value) i ≡ Some (x, ws) → group_of p x ≡ Some group → reaches p group (gives p b.deed) ≡ true
    → IsLastGiven p group (given_in p (after ++ b ∷ [])) ws

-- what a FetchAll after a history gives: all its elements as they stood then, and no entry in part
pub record FetchesOneMoment (p : Plan) (h : History) (l : ℕ) (value : Value) : Type 0 where
  pub moment : words_of value ≡ moment_of p (elems_of p l) (noted h)
  pub stood : ShowsHistory p h l value
  pub whole : ShowsWhole p h l value

-- an element of list k that a mask marks: bit j is that of the j-th element, from 0
pub record IsMarked (p : Plan) (k : ℕ) (written : ℕ) (y : ℕ) : Type 0 where
  pub place : ℕ
  pub there : slice_get (elems_of p k) place ≡ Some y
  pub set : bit_at written place ≡ 1

-- of a publication of list k, followed by these entries, each marked element is seen: what is fetched shows for its group what the
-- publication gave last there, or what a later entry did
abbrev pub SeesAllOf : Plan → (k : ℕ) → (written : ℕ) → (given : Value) → (after : History) → (list : ℕ) → Value → Type 0
SeesAllOf p k written given after l value = (i x y group : ℕ) (ws : List ℤ) → slice_get (shown p l value) i ≡ Some (x, ws)
    → IsMarked p k written y → group_of p x ≡ Some group → group_of p y ≡ Some group
    → IsLastGiven p group (published p k written (words_of given) ++ given_in p after) ws
