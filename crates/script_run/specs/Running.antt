-- What a run of a script on a node puts, if the node has a history.
use Rattle.std.specs.Prelude.{◌≡◌, ℕ, List, ◌++◌, true, Option}
use Rattle.bus_semantics.specs.Common.{list_all, Plan, History, item_fits, Session, history_of, IsSessionOf, IsBeginningOf, Spells}
use Rattle.rte_text.specs.Counts.{Rose}
use Rattle.rte_text.specs.Sinks.{AppendsWhereTold, AppendsPrefixWhereTold}
use Rattle.bus_semantics.specs.declared.script.Line.{Line}
use Rattle.bus_semantics.specs.declared.script.Mapping.{Mapping}
use Rattle.bus_semantics.specs.declared.version.Version.{Version}
use Rattle.core_runtime.specs.Nodes.{NodeState, IsLawfulNode}
use Rattle.script_run.specs.declared.script.ScriptRun.{ScriptRun}
use Rattle.script_run.specs.declared.writing.Writing.{Writing}
use Rattle.script_run.specs.declared.script.ScriptRun.TheVariants.{Finished, Failed, Memory}
use Rattle.script_run.specs.Legal.{IsLegalFrom}
use Rattle.script_run.specs.Quieting.{IdlesAreQuiet}
use Rattle.script_run.specs.Texts.{lines_of}

-- The bytes put are the text, in a version, of a run of the script that goes on from the history. Its items fit the plan and have the
-- sizes of their types, what closes with `idle` is quiet, and the node is lawful for both.
pub record PrintsRun (v : Version) (p : Plan) (m : Mapping) (h : History) (script : List Line) (now : NodeState) (before after : Option (List ℕ)) : Type 0 where
  pub session : Session
  pub bytes : List ℕ
  pub of_script : IsSessionOf script session
  pub fit : list_all (item_fits p) session ≡ true
  pub legal : IsLegalFrom p m h session
  pub quiet : IdlesAreQuiet p h session
  pub lawful : IsLawfulNode now (history_of session ++ h)
  pub spelled : Spells v p bytes session
  pub put : AppendsWhereTold before after bytes

-- the bytes put are a prefix of the text, in a version, of a begun run that goes on from the history
pub record PrintsBeginning (v : Version) (p : Plan) (m : Mapping) (h : History) (script : List Line) (before after : Option (List ℕ)) : Type 0 where
  pub session : Session
  pub bytes : List ℕ
  pub of_script : IsBeginningOf script session
  pub legal : IsLegalFrom p m h session
  pub spelled : Spells v p bytes session
  pub put : AppendsPrefixWhereTold before after bytes

-- The bytes put are the lines, without a header, of a run of the script that goes on from the history; all else is as above.
pub record PrintsLines (w : Writing) (p : Plan) (m : Mapping) (h : History) (script : List Line) (now : NodeState) (before after : Option (List ℕ)) : Type 0 where
  pub session : Session
  pub of_script : IsSessionOf script session
  pub fit : list_all (item_fits p) session ≡ true
  pub legal : IsLegalFrom p m h session
  pub quiet : IdlesAreQuiet p h session
  pub lawful : IsLawfulNode now (history_of session ++ h)
  pub put : AppendsWhereTold before after (lines_of w p session)

-- the bytes put are a prefix of the lines of a begun run that goes on from the history
pub record PrintsFirstLines (w : Writing) (p : Plan) (m : Mapping) (h : History) (script : List Line) (before after : Option (List ℕ)) : Type 0 where
  pub session : Session
  pub of_script : IsBeginningOf script session
  pub legal : IsLegalFrom p m h session
  pub put : AppendsPrefixWhereTold before after (lines_of w p session)

-- a put that failed raised the count of faults, and nothing else changes it
abbrev pub FaultsAfter : ScriptRun → ℕ → ℕ → Type 0
FaultsAfter Finished before after = after ≡ before
FaultsAfter Failed before after = Rose before after
FaultsAfter Memory before after = after ≡ before
