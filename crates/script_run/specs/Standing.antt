-- Where a node stands after a session, how calls of it carry the session on, and what they put.
use Rattle.std.specs.Prelude.{◌≡◌, ◌<◌, ◌-◌, ◌^◌, min, ℕ, List, [], ◌∷◌, ◌++◌, true, false, Option}
use Rattle.bus_semantics.specs.Common.{list_all, Plan, plan_of, History, Closing, idle, unsettled, Session, made, history_of, Ordered, a_call, orders_of, is_placed, is_inside, made_in_line}
use Rattle.bus_semantics.specs.Common.{closing_text, Wanted}
use Rattle.rte_text.specs.declared.sink.Put.{Put}
use Rattle.rte_text.specs.declared.sink.Put.TheVariants as putting
use Rattle.rte_text.specs.Sinks.{AppendsWhereTold, AppendsPrefixWhereTold, ToldAfter}
use Rattle.bus_semantics.specs.declared.entries.Entry.{Entry}
use Rattle.bus_semantics.specs.declared.entries.Stamped.{Stamped}
use Rattle.bus_semantics.specs.declared.script.Mapping.{Mapping}
use Rattle.core_runtime.specs.Nodes.{NodeState, IsLawfulNode}
use Rattle.script_run.specs.declared.script.ScriptRun.{ScriptRun}
use Rattle.script_run.specs.declared.script.ScriptRun.TheVariants as run
use Rattle.script_run.specs.declared.laps.Lap.{Lap}
use Rattle.script_run.specs.declared.laps.Lap.TheVariants as lap
use Rattle.script_run.specs.declared.writing.Writing.{Writing}
use Rattle.script_run.specs.Legal.{IsLegalFrom}
use Rattle.script_run.specs.Running.{FaultsAfter}
use Rattle.script_run.specs.Sizes.{is_sized_item}
use Rattle.script_run.specs.Texts.{behind, lines_of}

-- outside run lines, or inside one that has made so many entries, as far as a `u64` counts
pub data Place : Type 0 where
  outside : Place
  inside : (made : ℕ) → Place

abbrev pub IsAt : Place → Session → Type 0
IsAt outside s = is_inside s ≡ false
IsAt (inside n) s = (is_inside s ≡ true) × (n ≡ min (made_in_line s) (2 ^ 64 - 1))

-- the session goes on legally from the history and did these orders, and the node is lawful for both
pub record StandsIn (p : Plan) (m : Mapping) (h : History) (orders : List Ordered) (place : Place) (n : NodeState) (s : Session) : Type 0 where
  pub did : orders_of s ≡ orders
  pub placed : is_placed s ≡ true
  pub at : IsAt place s
  pub sized : list_all is_sized_item s ≡ true
  pub legal : IsLegalFrom p m h s
  pub plan : plan_of n.plan ≡ p
  pub mapping : n.mapping ≡ m
  pub lawful : IsLawfulNode n (history_of s ++ h)

-- items were added to the session, and their lines were put
pub record Added (w : Writing) (p : Plan) (m : Mapping) (h : History) (orders : List Ordered) (place : Place) (s : Session) (n : NodeState) (before after : Option (List ℕ)) : Type 0 where
  pub items : Session
  pub stands : StandsIn p m h orders place n (items ++ s)
  pub put : AppendsWhereTold before after (lines_of w p items)

-- items would go on legally with the session, some of these orders are left, and a prefix of the lines of the items was put
pub record IsCut (w : Writing) (p : Plan) (m : Mapping) (h : History) (orders : List Ordered) (s : Session) (before after : Option (List ℕ)) : Type 0 where
  pub items : Session
  pub left : List Ordered
  pub did : orders_of (items ++ s) ++ left ≡ orders
  pub placed : is_placed (items ++ s) ≡ true
  pub legal : IsLegalFrom p m h (items ++ s)
  pub put : AppendsPrefixWhereTold before after (lines_of w p items)

abbrev pub GoesOn : Writing → ScriptRun → Plan → Mapping → History → List Ordered → Place → Session → NodeState → (before after : Option (List ℕ)) → Type 0
GoesOn w run.Finished p m h orders place s n before after = Added w p m h orders place s n before after
GoesOn w run.Failed p m h orders place s n before after = IsCut w p m h orders s before after
GoesOn w run.Memory p m h orders place s n before after = IsCut w p m h orders s before after

-- what came of a run whose last put was this one
abbrev pub came_of : Put → ScriptRun
came_of putting.Done = run.Finished
came_of putting.Failed = run.Failed

-- after whatever session the node stands at the one place, these orders carry it to the other
abbrev pub Carries : Writing → ScriptRun → List Ordered → (from to : Place) → (old new : NodeState) → (before after : Option (List ℕ)) → Type 0
Carries w answer more from to old new before after = (p : Plan) (m : Mapping) (h : History) (orders : List Ordered) (s : Session)
    → StandsIn p m h orders from old s → GoesOn w answer p m h (orders ++ more) to s new before after

-- the environment called, and this entry came of it, whatever came of its line
abbrev pub Calls : Writing → Put → Wanted → Entry → (old new : NodeState) → (before after : Option (List ℕ)) → Type 0
Calls w answer call e old new before after = (p : Plan) (m : Mapping) (h : History) (orders : List Ordered) (s : Session)
    → StandsIn p m h orders outside old s
    → StandsIn p m h (orders ++ a_call call ∷ []) outside new (made e ∷ s) × ToldAfter answer before after (lines_of w p (made e ∷ []))

-- a round and a pass carry it on within a run line, or to its end
abbrev pub CarriesLap : Writing → Lap → (count : ℕ) → (old new : NodeState) → (before after : Option (List ℕ)) → Type 0
CarriesLap w (lap.Made more) count old new before after = Carries w run.Finished [] (inside count) (inside more) old new before after
CarriesLap w (lap.Ended answer) count old new before after = Carries w answer [] (inside count) outside old new before after

-- a lap that closes nothing made entries, and too few of them to close the line
abbrev pub LapRises : Lap → (count : ℕ) → Type 0
LapRises (lap.Made more) count = (count < more) × (more < 100000)
LapRises (lap.Ended answer) count = Unit {0}

-- the word that closes a line after a pass with these entries, if one does
abbrev pub word_after : List Stamped → Closing
word_after [] = idle
word_after (s ∷ more) = unsettled

-- what was put ends with the line of this word
abbrev pub EndsWith : Writing → Closing → Option (List ℕ) → Type 0
EndsWith w word told = (before : Option (List ℕ)) × AppendsWhereTold before told (behind w (closing_text word))

-- the line goes on only after a pass with entries; a lap that closes it puts `idle` after a pass without one, and `unsettled` after any other
abbrev pub LapCloses : Writing → Lap → (pass : List Stamped) → Option (List ℕ) → Type 0
LapCloses w (lap.Made more) pass told = word_after pass ≡ unsettled
LapCloses w (lap.Ended run.Finished) pass told = EndsWith w (word_after pass) told
LapCloses w (lap.Ended run.Failed) pass told = Unit {0}
LapCloses w (lap.Ended run.Memory) pass told = Unit {0}

abbrev pub LapFaults : Lap → ℕ → ℕ → Type 0
LapFaults (lap.Made more) before after = after ≡ before
LapFaults (lap.Ended answer) before after = FaultsAfter answer before after
