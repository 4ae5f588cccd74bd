-- The verdict of a trace.
use Rattle.std.proofs.Common.{◌≡◌, ◌≢◌, List, [], ◌++◌, Result, Ok, Err, refl, sym, ◌∙◌, subst}
use Rattle.std.specs.Prelude.{◌↔◌, IfOk}
use Rattle.bus_semantics.specs.declared.script.Line.{Line}
use Rattle.bus_semantics.specs.declared.script.Mapping.{Mapping}
use Rattle.bus_semantics.specs.declared.version.Version.{Version}
use Rattle.bus_semantics.specs.Common.{Plan, Letters, header}
use Rattle.trace_reading.specs.declared.checked.Checked.{Checked}
use Rattle.trace_reading.specs.declared.checked.Checked.TheVariants.{Legal}
use Rattle.trace_reading.specs.Verdicts.{HasNoHeader, IsLegalTrace, IsVerdict}
use Rattle.trace_reading.specs.Laws.{TracesHaveOneVerdict}
use Rattle.trace_check.specs.FirstLines.{IsFirstLine}
use Rattle.trace_check.proofs.LineCuts.{first_is, header_is_line}

-- a first line that is no header
pub headless : (trace first text : Letters) → trace ≢ [] → trace ≡ first ++ text → IsFirstLine first text → ((v : Version) → first ≡ header v → ⊥) → HasNoHeader trace 1
headless trace first text some whole is none = record {
  some = some;
  none = λ v left e. none v (first_is first text (header v) left is (header_is_line v) (sym whole ∙ e)).0;
  line_is = refl;
}

-- legal exactly if it is called so
module _ (p : Plan) (m : Mapping) (script : List Line) (trace : Letters) (one : TracesHaveOneVerdict p m) where
  exactly : (checked : Checked) → IsVerdict p m script trace checked → checked ≡ Legal ↔ IsLegalTrace p m script trace
  exactly checked verdict = (λ is. subst (IsVerdict p m script trace) is verdict, λ legal. one script trace checked Legal verdict legal)

  pub legal_exactly : {E : Type 0} (result : Result Checked E) → IfOk result (IsVerdict p m script trace) → IfOk result (λ checked. checked ≡ Legal ↔ IsLegalTrace p m script trace)
  legal_exactly (Ok checked) verdict = exactly checked verdict
  legal_exactly (Err e) none = tt
