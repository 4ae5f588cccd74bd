-- What is put of a node that was served: a header, a line for each entry, that of a call behind its feed, then a run line. The format is this project's own.
use Rattle.std.specs.Prelude.{◌≡◌, ℕ, List, [], ◌∷◌, ◌++◌, codes, decimal, drop, Bool, true, Option, if◌then◌else◌}
use Rattle.bus_semantics.specs.Common.{list_all, Plan, History, item_fits, Session, made, IsSessionOf, IsBeginningOf, Letters, entry_text, item_text}
use Rattle.rte_text.specs.Sinks.{AppendsWhereTold, AppendsPrefixWhereTold}
use Rattle.bus_semantics.specs.declared.entries.Stamped.{Stamped}
use Rattle.bus_semantics.specs.declared.script.Line.TheVariants as line
use Rattle.bus_semantics.specs.declared.script.Mapping.{Mapping}
use Rattle.bus_semantics.specs.declared.version.Version.TheVariants.{Two}
use Rattle.core_lanes.specs.After.{after, is_outside}
use Rattle.script_run.specs.Legal.{IsLegalFrom}
use Rattle.script_run.specs.Quieting.{IdlesAreQuiet}

-- ---- the text

-- the number of the feed that the order names first, and a space
abbrev pub feed_mark : (order : List ℕ) → Letters
feed_mark [] = []
feed_mark (feed ∷ order) = decimal feed ++ codes " "

-- the line of an entry in version two; that of a call of the environment stands behind the number of its feed
abbrev pub served_line : Plan → (order : List ℕ) → Stamped → Letters
served_line p order s = (if is_outside s then feed_mark order else []) ++ entry_text Two p s.entry

-- the order of the calls behind an entry
abbrev pub order_behind : (order : List ℕ) → Stamped → List ℕ
order_behind order s = if is_outside s then drop 1 order else order

-- a line for each entry, in order. The order names a feed for each call of the environment
abbrev pub served_lines : Plan → (order : List ℕ) → List Stamped → Letters
served_lines p order [] = []
served_lines p order (s ∷ more) = served_line p order s ++ served_lines p (order_behind order s) more

-- what was made while stimuli came
abbrev pub served_text : Plan → (order : List ℕ) → List Stamped → Letters
served_text p order entries = codes "rte-live 1\n" ++ (served_lines p order entries ++ codes "stopped\n")

-- a line for each item, in version two. A session has its newest item first, so its line stands at the end
abbrev pub session_lines : Plan → Session → Letters
session_lines p [] = []
session_lines p (i ∷ s) = session_lines p s ++ item_text Two p i

abbrev pub live_text : Plan → (order : List ℕ) → List Stamped → Session → Letters
live_text p order entries s = served_text p order entries ++ session_lines p s

-- ---- what is put

abbrev pub entry_fits : Plan → Stamped → Bool
entry_fits p s = item_fits p (made s.entry)

-- The bytes put are the text of these entries and of a run line that goes on from the history and them. All items fit the plan and have the sizes of their types,
-- and what closes with `idle` is quiet.
pub record PrintsLive (p : Plan) (m : Mapping) (h : History) (order : List ℕ) (entries : List Stamped) (told told_now : Option (List ℕ)) : Type 0 where
  pub session : Session
  pub of_run : IsSessionOf (line.Run ∷ []) session
  pub fit : list_all (item_fits p) session ≡ true
  pub entries_fit : list_all (entry_fits p) entries ≡ true
  pub legal : IsLegalFrom p m (after entries h) session
  pub quiet : IdlesAreQuiet p (after entries h) session
  pub put : AppendsWhereTold told told_now (live_text p order entries session)

-- the bytes put are a prefix of the text of these entries and of a begun run line that goes on from them
pub record PrintsBegunLive (p : Plan) (m : Mapping) (h : History) (order : List ℕ) (entries : List Stamped) (told told_now : Option (List ℕ)) : Type 0 where
  pub session : Session
  pub of_run : IsBeginningOf (line.Run ∷ []) session
  pub legal : IsLegalFrom p m (after entries h) session
  pub put : AppendsPrefixWhereTold told told_now (live_text p order entries session)
