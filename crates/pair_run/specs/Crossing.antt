-- What a script makes of two linked nodes, line by line. A line of ticks ticks one and then two; a run line runs one, then what one holds for the
-- links crosses, then it runs two; any other line is one's. Joint sessions have their newest item first.
use Rattle.std.specs.Prelude.{◌≡◌, ◌⊎◌, ℕ, zero, suc, ◌||◌, ◌==◌, if◌then◌else◌, List, [], ◌∷◌, ◌++◌, Option, Some, None}
use Rattle.bus_semantics.specs.Common.{Value, Session, made, IsSessionOf}
use Rattle.bus_laws.specs.Common.{Env, Deed, Entry, Line}
use Rattle.bus_semantics.specs.declared.entries.Deed.TheVariants as deed
use Rattle.bus_semantics.specs.declared.script.Line.TheVariants as line
use Rattle.signal_link.specs.declared.link_elem.LinkElem.{LinkElem}
use Rattle.pair_run.specs.Joint.{Joint, Side, one, two, all_on}

-- the one, and after it the other
pub record Then (A B : Joint → Type 0) (j : Joint) : Type 0 where
  pub first : Joint
  pub rest : Joint
  pub is : j ≡ rest ++ first
  pub before : A first
  pub after : B rest

-- what comes of each, one after the other
abbrev pub InOrder : {X : Type 0} → (X → Joint → Type 0) → List X → Joint → Type 0
InOrder kind [] j = j ≡ []
InOrder kind (x ∷ xs) j = Then (kind x) (InOrder kind xs) j

-- ---- what crosses

-- one's environment receives a value from the link's element, with 0 RTE_E_OK or 64 RTE_E_LOST_DATA
pub record Takes (l : LinkElem) (value : Value) (j : Joint) : Type 0 where
  pub entry : Entry
  pub code : ℕ
  pub is : j ≡ (one, made entry) ∷ []
  pub by_one : entry.actor ≡ Env
  pub received : entry.deed ≡ deed.Receive l.out_elem code value
  pub taking : (code ≡ 0) ⊎ (code ≡ 64)

-- two's environment sends this value to the link's element, whatever the answer
pub record Sends (l : LinkElem) (value : Value) (j : Joint) : Type 0 where
  pub entry : Entry
  pub answer : ℕ
  pub is : j ≡ (two, made entry) ∷ []
  pub by_two : entry.actor ≡ Env
  pub sent : entry.deed ≡ deed.Send l.in_elem value answer

-- one's environment finds that no value is held, with 131 RTE_E_NO_DATA or 134 RTE_E_UNCONNECTED
pub record FindsNone (l : LinkElem) (j : Joint) : Type 0 where
  pub entry : Entry
  pub code : ℕ
  pub value : Value
  pub is : j ≡ (one, made entry) ∷ []
  pub by_one : entry.actor ≡ Env
  pub received : entry.deed ≡ deed.Receive l.out_elem code value
  pub none : (code ≡ 131) ⊎ (code ≡ 134)

-- the value that a Receive took
abbrev pub held_in : Deed → Option Value
held_in (deed.Receive elem code value) = if (code == 0) || (code == 64) then Some value else None
held_in d = None

-- a value is taken on one and sent on two, with nothing in between
abbrev pub Passes : LinkElem → Joint → Type 0
Passes l j = (value : Value) × Then (Takes l value) (Sends l value) j

-- so many values pass, one after the other
abbrev pub Passed : LinkElem → ℕ → Joint → Type 0
Passed l zero j = j ≡ []
Passed l (suc n) j = Then (Passed l n) (Passes l) j

-- values pass until none is held
abbrev pub Drains : LinkElem → Joint → Type 0
Drains l j = (n : ℕ) × Then (Passed l n) (FindsNone l) j

-- link by link, in order
abbrev pub Crosses : List LinkElem → Joint → Type 0
Crosses links j = InOrder Drains links j

-- ---- what a line makes

-- a session of this line alone, on one side
pub record Did (k : Side) (l : Line) (j : Joint) : Type 0 where
  pub session : Session
  pub is : j ≡ all_on k session
  pub of_line : IsSessionOf (l ∷ []) session

abbrev pub Makes : List LinkElem → Line → Joint → Type 0
Makes links (line.Tick n) j = Then (Did one (line.Tick n)) (Did two (line.Tick n)) j
Makes links line.Run j = Then (Did one line.Run) (Then (Crosses links) (Did two line.Run)) j
Makes links (line.Call w) j = Did one (line.Call w) j

-- the lines in order
abbrev pub Follows : List LinkElem → List Line → Joint → Type 0
Follows links script j = InOrder (Makes links) script j
