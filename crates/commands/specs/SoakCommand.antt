-- What `soak N` puts: the numbers of a run that is made for it.
use Rattle.std.specs.Prelude.{◌≡◌, ◌+◌, ◌*◌, ℕ, List, [], ◌++◌, codes, decimal}
use Rattle.bus_semantics.specs.declared.script.Line.{Line}
use Rattle.bus_semantics.specs.declared.script.Mapping.{Mapping}
use Rattle.bus_semantics.specs.Common.{Plan, plan_of, Session, IsRunOf}
use Rattle.description_places.specs.Rules.{Reads}
use Rattle.description_stages.specs.declared.planning.PlannedDescription.{PlannedDescription}
use Rattle.script_run.specs.Quieting.{IdlesAreQuiet}
use Rattle.soak_maker.specs.Script.{soak_lines}
use Rattle.soak_maker.specs.Soak.{soak_value}
use Rattle.trace_counts.specs.declared.numbers.Numbers.{Numbers}
use Rattle.trace_counts.specs.Sessions.{numbers_of}
use Rattle.commands.specs.Commands.{Bytes}
use Rattle.commands.specs.Inputs.{AreInputs}

-- these are a description that reads as that of `soak N`, with its plan, and a script over it that is that of `soak N`
pub record IsSoaked (n : ℕ) (found : PlannedDescription) (lines : List Line) : Type 0 where
  pub description : Bytes
  pub script : Bytes
  pub reads : Reads description (soak_value n)
  pub inputs : AreInputs description script found lines
  pub lines_are : lines ≡ soak_lines

-- a line for each number
abbrev pub summary_text : (n : ℕ) → Numbers → Bytes
summary_text n c =
    codes "soak " ++ decimal n
    ++ codes "\ninstances " ++ decimal (2 * n + 1)
    ++ codes "\nruns " ++ decimal c.runs
    ++ codes "\nidle " ++ decimal c.idle
    ++ codes "\nsends " ++ decimal c.sends
    ++ codes "\ntaken " ++ decimal c.taken
    ++ codes "\nlimits " ++ decimal c.limits
    ++ codes "\nasks " ++ decimal c.asks
    ++ codes "\nanswers " ++ decimal c.answers
    ++ codes "\n"

-- the text is the numbers of a run of the script over the plan, legal and whole, in which what closes with `idle` is quiet
pub record IsTextOfNumbers (n : ℕ) (p : Plan) (m : Mapping) (script : List Line) (text : Bytes) : Type 0 where
  pub session : Session
  pub run : IsRunOf p m script session
  pub quiet : IdlesAreQuiet p [] session
  pub text_is : text ≡ summary_text n (numbers_of session)

-- so it is of the run that is made for `soak N`
pub record SaysNumbers (n : ℕ) (text : Bytes) : Type 0 where
  pub found : PlannedDescription
  pub soaked : IsSoaked n found soak_lines
  pub numbers : IsTextOfNumbers n (plan_of found.plan) found.mapping soak_lines text
