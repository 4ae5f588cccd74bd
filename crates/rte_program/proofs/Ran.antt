-- What running a script on a new node says of the whole run.
use Rattle.std.proofs.Common.{◌≡◌, ℕ, List, [], ◌∷◌, Option, inl, inr}
use Rattle.std.specs.Prelude.{◌⊎◌}
use Rattle.bus_semantics.specs.declared.script.Line.{Line}
use Rattle.bus_semantics.specs.declared.script.Mapping.{Mapping}
use Rattle.bus_semantics.specs.declared.version.Version.TheVariants.{Two}
use Rattle.bus_semantics.specs.Common.{Plan, plan_of, Session, IsLegalRun}
use Rattle.trace_reading.specs.Verdicts.{IsLegalTrace}
use Rattle.core_runtime.specs.Nodes.{NodeState}
use Rattle.description_stages.specs.declared.planning.PlannedDescription.{PlannedDescription}
use Rattle.script_run.specs.Legal.{IsLegalFrom}
use Rattle.script_run.specs.Running as session
use Rattle.commands.specs.declared.status.Status.{Status}
use Rattle.commands.specs.Carrying.{CarriesOut, PutsBeginning}
use Rattle.commands.specs.Commands.{Bytes, run}
use Rattle.commands.specs.Inputs.{AreInputs}
use Rattle.commands.specs.RunCommand.{IsTextOfRun}
use Rattle.rte_program.specs.Running.{IsRun, PrintsRun, PrintsBeginning}
use Rattle.commands.specs.Verdicts.{done}
use Rattle.rte_text.specs.declared.sink.Put.TheVariants as put

abbrev AreRuns : Type 0
AreRuns = (p : Plan) (m : Mapping) (s : Session) → IsLegalFrom p m [] s → IsLegalRun p m s

pub ran : AreRuns → (p : Plan) (m : Mapping) (script : List Line) (n : NodeState) (before after : Option Bytes) → session.PrintsRun Two p m [] script n before after → PrintsRun p m script before after
ran are p m script n before after r = record {
  text = r.bytes;
  run = record { session = r.session; fit = r.fit; run = record { session = r.of_script; legal = are p m r.session r.legal }; quiet = r.quiet; spelled = r.spelled };
  put = r.put;
}

pub began : AreRuns → (p : Plan) (m : Mapping) (script : List Line) (before after : Option Bytes) → session.PrintsBeginning Two p m [] script before after → PrintsBeginning p m script before after
began are p m script before after r = record {
  text = r.bytes;
  begun = record { session = r.session; run = record { session = r.of_script; legal = are p m r.session r.legal }; spelled = r.spelled };
  put = r.put;
}

pub is_legal : (p : Plan) (m : Mapping) (script : List Line) (text : Bytes) → IsTextOfRun p m script text → IsLegalTrace p m script text
is_legal p m script text r = record { version = Two; session = r.session; fit = r.fit; text = r.spelled; run = r.run }

-- how `run C S` ended, if its script was run
pub carried : (d s description script : Bytes) (found : PlannedDescription) (lines : List Line) → AreInputs description script found lines → (answer : Status) (before after : Option Bytes) (f g : ℕ)
    → IsRun (plan_of found.plan) found.mapping lines answer before after f g → CarriesOut (run d s) (description ∷ script ∷ []) answer before after f g
carried d s description script found lines inputs answer before after f g (inl x) = let printed = x.2 in inl (record {
  verdict = done;
  verdict_is = (found, lines, inputs);
  text = printed.text;
  said = record { found = found; lines = lines; inputs = inputs; run = printed.run };
  put = record { answered = put.Done; status_is = x.0; told = printed.put; faults = x.1 };
})
carried d s description script found lines inputs answer before after f g (inr (inl x)) = let printed = x.2 in inr (inl (record {
  status_is = x.0;
  rose = x.1;
  put = record { text = printed.text; begun = record { found = found; lines = lines; inputs = inputs; begun = printed.begun }; put = printed.put };
}))
carried d s description script found lines inputs answer before after f g (inr (inr x)) = inr (inr (record { status_is = x.0; faults = x.1; put = by x.2 }))
  where
    by : (after ≡ before) ⊎ PrintsBeginning (plan_of found.plan) found.mapping lines before after → (after ≡ before) ⊎ PutsBeginning (run d s) (description ∷ script ∷ []) before after
    by (inl same) = inl same
    by (inr printed) = inr (record { text = printed.text; begun = record { found = found; lines = lines; inputs = inputs; begun = printed.begun }; put = printed.put })
