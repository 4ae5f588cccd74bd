-- What the check calls a trace, which is this project's own: legal, or refused at its first line that does not go on as a legal run of the
-- script may. Line 1 is the header, and each item has one line more. Sessions stand the newest first.
use Rattle.std.specs.Prelude.{◌≡◌, ◌≢◌, ◌⊎◌, ◌+◌, ℕ, List, [], ◌++◌, length, true}
use Rattle.bus_semantics.specs.Common.{list_all, Plan, item_fits, Item, Session, IsSessionOf, IsRunOf, IsBegunRunOf, Letters, Spells, header, item_text, spelling_of}
use Rattle.bus_laws.specs.Common.{Line, Mapping, Version}
use Rattle.trace_reading.specs.declared.checked.Checked.{Checked}
use Rattle.trace_reading.specs.declared.checked.Checked.TheVariants.{Legal, BadLine, Illegal}
use Rattle.trace_reading.specs.Refusals.{IsRefused}

-- ---- legal

-- the trace is the text, in the version of its header, of a whole run of the script that is legal; its items fit the plan
pub record IsLegalTrace (p : Plan) (m : Mapping) (script : List Line) (trace : Letters) : Type 0 where
  pub version : Version
  pub session : Session
  pub fit : list_all (item_fits p) session ≡ true
  pub text : Spells version p trace session
  pub run : IsRunOf p m script session

-- ---- how far it goes

-- the trace begins with the text of a begun run of the script that is legal so far; this is left
pub record GoesOn (v : Version) (p : Plan) (m : Mapping) (script : List Line) (trace : Letters) (s : Session) (left : Letters) : Type 0 where
  pub fit : list_all (item_fits p) s ≡ true
  pub text : trace ≡ spelling_of v p s ++ left
  pub run : IsBegunRunOf p m script s

-- the number of the line behind them
abbrev pub line_after : Session → ℕ
line_after s = length s + 2

-- ---- a bad line

-- it begins with no header, and is not empty: line 1 is bad
pub record HasNoHeader (trace : Letters) (line : ℕ) : Type 0 where
  pub some : trace ≢ []
  pub none : (v : Version) (left : Letters) → trace ≡ header v ++ left → ⊥
  pub line_is : line ≡ 1

-- what is left begins with the line of no item that fits the plan, and is not empty
pub record HasBadLine (p : Plan) (m : Mapping) (script : List Line) (trace : Letters) (line : ℕ) : Type 0 where
  pub version : Version
  pub session : Session
  pub left : Letters
  pub so_far : GoesOn version p m script trace session left
  pub some : left ≢ []
  pub none : (i : Item) (more : Letters) → item_fits p i ≡ true → left ≡ item_text version p i ++ more → ⊥
  pub line_is : line ≡ line_after session

-- ---- an illegal line

-- an empty trace has not even a header
pub record IsEmpty (trace : Letters) (line clause : ℕ) : Type 0 where
  pub none : trace ≡ []
  pub line_is : line ≡ 1
  pub clause_is : clause ≡ 16

-- what is left begins with the line of an item that may not come next
pub record HasIllegalLine (p : Plan) (m : Mapping) (script : List Line) (trace : Letters) (line clause : ℕ) : Type 0 where
  pub version : Version
  pub session : Session
  pub item : Item
  pub more : Letters
  pub so_far : GoesOn version p m script trace session (item_text version p item ++ more)
  pub fit : item_fits p item ≡ true
  pub line_is : line ≡ line_after session
  pub refused : IsRefused p m script session item clause

-- nothing is left, and the run is not whole: some of the script is not done, or a run line is open
pub record EndsEarly (p : Plan) (m : Mapping) (script : List Line) (trace : Letters) (line clause : ℕ) : Type 0 where
  pub version : Version
  pub session : Session
  pub so_far : GoesOn version p m script trace session []
  pub open_end : IsSessionOf script session → ⊥
  pub line_is : line ≡ line_after session
  pub clause_is : clause ≡ 16

-- ---- the verdict

abbrev pub IsVerdict : Plan → Mapping → List Line → Letters → Checked → Type 0
IsVerdict p m script trace Legal = IsLegalTrace p m script trace
IsVerdict p m script trace (BadLine line) = HasNoHeader trace line ⊎ HasBadLine p m script trace line
IsVerdict p m script trace (Illegal line clause) =
    (IsEmpty trace line clause ⊎ EndsEarly p m script trace line clause) ⊎ HasIllegalLine p m script trace line clause
