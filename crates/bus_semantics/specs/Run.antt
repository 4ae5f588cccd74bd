-- A run of a script, which is this project's own: a list of items, the newest first. The environment's calls and the run marks are those of the script's lines;
-- all other entries stand inside run lines, each closed by a word that holds.
use Rattle.std.specs.Prelude.{◌≡◌, ℕ, suc, List, [], ◌∷◌, ◌++◌, replicate, Bool, true, false, not, ◌&&◌, nat_le, if◌then◌else◌}
use Rattle.bus_semantics.specs.declared.script.Line.{Line}
use Rattle.bus_semantics.specs.declared.script.Line.TheVariants as line
use Rattle.bus_semantics.specs.declared.script.Mapping.{Mapping}
use Rattle.bus_semantics.specs.declared.entries.Entry.{Entry}
use Rattle.bus_semantics.specs.Plan.{Plan}
use Rattle.bus_semantics.specs.Wanted.{Wanted, to_tick, wanted_of, wanted_by}
use Rattle.bus_semantics.specs.History.{History, is_environment}
use Rattle.bus_semantics.specs.Legal.{MayFollow}
use Rattle.bus_semantics.specs.Rest.{IsIdle}

-- what closes a run line
pub data Closing : Type 0 where
  idle : Closing
  unsettled : Closing

pub data Item : Type 0 where
  made : Entry → Item
  run_begins : Item
  run_closes : Closing → Item

abbrev pub Session : Type 0
Session = List Item

-- its entries
abbrev pub history_of : Session → History
history_of [] = []
history_of (made e ∷ s) = e ∷ history_of s
history_of (run_begins ∷ s) = history_of s
history_of (run_closes word ∷ s) = history_of s

-- whether its end stands inside a run line
abbrev pub is_inside : Session → Bool
is_inside [] = false
is_inside (made e ∷ s) = is_inside s
is_inside (run_begins ∷ s) = true
is_inside (run_closes word ∷ s) = false

-- the entries that runnables and machines made since the last run mark
abbrev pub made_in_line : Session → ℕ
made_in_line [] = 0
made_in_line (made e ∷ s) = if is_environment e.actor then made_in_line s else suc (made_in_line s)
made_in_line (run_begins ∷ s) = 0
made_in_line (run_closes word ∷ s) = 0

-- ---- the script

-- what a script asks for: a run line, or a call of the environment
pub data Ordered : Type 0 where
  a_run : Ordered
  a_call : Wanted → Ordered

abbrev pub orders_of_line : Line → List Ordered
orders_of_line (line.Tick n) = replicate n (a_call to_tick)
orders_of_line line.Run = a_run ∷ []
orders_of_line (line.Call w) = a_call (wanted_of w) ∷ []

abbrev pub orders_of_script : List Line → List Ordered
orders_of_script [] = []
orders_of_script (l ∷ ls) = orders_of_line l ++ orders_of_script ls

abbrev pub orders_of_entry : Entry → List Ordered
orders_of_entry e = if is_environment e.actor then a_call (wanted_by 0 e.deed) ∷ [] else []

-- what a session did of it, the oldest first
abbrev pub orders_of : Session → List Ordered
orders_of [] = []
orders_of (made e ∷ s) = orders_of s ++ orders_of_entry e
orders_of (run_begins ∷ s) = orders_of s ++ a_run ∷ []
orders_of (run_closes word ∷ s) = orders_of s

-- ---- sessions

-- the environment's entries and run marks stand outside run lines, all else inside
abbrev pub is_placed : Session → Bool
is_placed [] = true
is_placed (made e ∷ s) = is_placed s && (if is_environment e.actor then not (is_inside s) else is_inside s)
is_placed (run_begins ∷ s) = is_placed s && not (is_inside s)
is_placed (run_closes word ∷ s) = is_placed s && is_inside s

-- a session of the script, whole
pub record IsSessionOf (script : List Line) (s : Session) : Type 0 where
  pub orders : orders_of s ≡ orders_of_script script
  pub placed : is_placed s ≡ true
  pub closed : is_inside s ≡ false

-- a beginning of one: some of the script is left
pub record IsBeginningOf (script : List Line) (s : Session) : Type 0 where
  pub left : List Ordered
  pub orders : orders_of s ++ left ≡ orders_of_script script
  pub placed : is_placed s ≡ true

-- `idle` holds at rest if no activation runs; `unsettled` if runnables and machines made at least 100,000 entries since the mark
abbrev pub Holds : Plan → Mapping → Session → Closing → Type 0
Holds p m s idle = IsIdle p m (history_of s)
Holds p m s unsettled = nat_le 100000 (made_in_line s) ≡ true

-- each entry may follow those before it, and each closing word holds inside its run line
abbrev pub IsLegalRun : Plan → Mapping → Session → Type 0
IsLegalRun p m [] = Unit {0}
IsLegalRun p m (made e ∷ s) = IsLegalRun p m s × MayFollow p (history_of s) e
IsLegalRun p m (run_begins ∷ s) = IsLegalRun p m s
IsLegalRun p m (run_closes word ∷ s) = IsLegalRun p m s × (is_inside s ≡ true) × Holds p m s word

-- a legal run of the script
pub record IsRunOf (p : Plan) (m : Mapping) (script : List Line) (s : Session) : Type 0 where
  pub session : IsSessionOf script s
  pub legal : IsLegalRun p m s

pub record IsBegunRunOf (p : Plan) (m : Mapping) (script : List Line) (s : Session) : Type 0 where
  pub session : IsBeginningOf script s
  pub legal : IsLegalRun p m s
