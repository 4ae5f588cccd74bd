-- What is prepared for `soak N`, and the numbers of its run.
use Rattle.std.proofs.Common.{◌≡◌, ℕ, List, [], Option, Some, None, Result, Ok, Err, refl, ap, ◌∙◌, subst, inl, inr}
use Rattle.std.specs.Prelude.{IfErr, IfOk}
use Rattle.rte_text.specs.declared.refusal.Refusal.{Refusal}
use Rattle.rte_text.specs.declared.refusal.Refused.TheVariants.{Rule}
use Rattle.rte_text.specs.Sinks.{AppendsWhereTold}
use Rattle.bus_semantics.specs.declared.script.Line.{Line}
use Rattle.bus_semantics.specs.declared.script.Mapping.{Mapping}
use Rattle.bus_semantics.specs.declared.version.Version.{Version}
use Rattle.bus_semantics.specs.declared.version.Version.TheVariants.{Two}
use Rattle.bus_semantics.specs.Common.{Plan, plan_of, IsRunOf, Session, IsSound, spelling_of}
use Rattle.description_places.specs.Rules.{Reads}
use Rattle.description_stages.specs.declared.planning.PlannedDescription.{PlannedDescription}
use Rattle.description_stages.specs.Plans.{IsPlanRefusalOf}
use Rattle.line_fields.specs.Texts.{lines_of}
use Rattle.script_reading.specs.Common.{saying, IsScript, first_bad}
use Rattle.soak_maker.specs.Script.{soak_lines}
use Rattle.soak_maker.specs.Soak.{soak_value}
use Rattle.trace_counts.specs.Sessions.{numbers_of}
use Rattle.trace_counts.specs.Tallies.{numbers_in}
use Rattle.commands.specs.declared.preparing.Prepared.{Prepared}
use Rattle.commands.specs.declared.status.Status.{Status}
use Rattle.commands.specs.declared.status.Status.TheVariants as status
use Rattle.commands.specs.declared.stop.Finding.TheVariants as finding
use Rattle.commands.specs.declared.stop.Stop.{Stop}
use Rattle.commands.specs.declared.stop.Stop.TheVariants as stop
use Rattle.commands.specs.Carrying.{CarriesOut}
use Rattle.commands.specs.Commands.{Bytes, soak}
use Rattle.commands.specs.Inputs.{AreInputs}
use Rattle.commands.specs.Judging.{IsNotRun}
use Rattle.commands.specs.RunCommand.{IsTextOfRun}
use Rattle.rte_program.specs.Running.{IsRun, PrintsRun}
use Rattle.commands.specs.SoakCommand.{summary_text, IsSoaked}
use Rattle.commands.specs.Texts.{IsPut}
use Rattle.commands.specs.Verdicts.{done}

pub soaked : (n : ℕ) (d s : Bytes) → Reads d (soak_value n) → ((p : Plan) (lines : List Line) → IsScript p s lines → lines ≡ soak_lines)
    → (r : Result Prepared Stop) → IfOk r (λ x. AreInputs d s x.found x.script.lines) → IfOk r (λ x. IsSoaked n x.found x.script.lines)
soaked n d s reads once (Err why) inputs = tt
soaked n d s reads once (Ok x) inputs = record {
  description = d;
  script = s;
  reads = reads;
  inputs = inputs;
  lines_are = once (plan_of x.found.plan) x.script.lines inputs.scripted;
}

-- nothing is found of them: a stop is want of memory
only_memory_by : (n : ℕ) (d s : Bytes) → ((r : Refusal) → ¬ IsPlanRefusalOf d (Rule r)) → ((p : Plan) → IsScript p s soak_lines) → (why : Stop) → IsNotRun d s why → why ≡ stop.Memory
only_memory_by n d s keeps is (stop.Found (finding.Refused refusal)) found = absurd (keeps refusal found)
only_memory_by n d s keeps is (stop.Found (finding.Script line cause)) found =
    let none : first_bad (saying (plan_of found.found.plan)) [] (lines_of s) ≡ None = (is (plan_of found.found.plan)).good in
    let bad : first_bad (saying (plan_of found.found.plan)) [] (lines_of s) ≡ Some (line, cause) = found.bad in
    absurd cc
only_memory_by n d s keeps is (stop.Found (finding.Trace checked)) found = absurd found
only_memory_by n d s keeps is (stop.Found finding.NoComponent) found = absurd found
only_memory_by n d s keeps is (stop.Found (finding.Clash name)) found = absurd found
only_memory_by n d s keeps is (stop.Found (finding.RefusedOf refusal which)) found = absurd found
only_memory_by n d s keeps is (stop.Found finding.NoLink) found = absurd found
only_memory_by n d s keeps is (stop.Found finding.TooManyCores) found = absurd found
only_memory_by n d s keeps is stop.Memory found = refl
only_memory_by n d s keeps is stop.Words found = absurd found
only_memory_by n d s keeps is (stop.NotRead place) found = absurd found

pub only_memory : {X : Type 0} → (n : ℕ) (d s : Bytes) → ((r : Refusal) → ¬ IsPlanRefusalOf d (Rule r)) → ((p : Plan) → IsScript p s soak_lines)
    → (r : Result X Stop) → IfErr r (IsNotRun d s) → IfErr r (λ why. why ≡ stop.Memory)
only_memory n d s keeps is (Ok x) found = tt
only_memory n d s keeps is (Err why) found = only_memory_by n d s keeps is why found

-- ---- the numbers

abbrev pub NumbersLaw : Type 0
NumbersLaw = (v : Version) (p : Plan) (m : Mapping) (s : Session) → IsSound p m → numbers_in (spelling_of v p s) ≡ numbers_of s

whole_text : (told bytes : Bytes) → AppendsWhereTold (Some []) (Some told) bytes → told ≡ bytes
whole_text told bytes e = cc

-- the text of the numbers of what the counting sink was told
pub counted : NumbersLaw → (n : ℕ) (found : PlannedDescription) (lines : List Line) → IsSoaked n found lines → (told text : Bytes) → PrintsRun (plan_of found.plan) found.mapping lines (Some []) (Some told)
    → text ≡ summary_text n (numbers_in told) → (answer : Status) (before after : Option Bytes) (f g : ℕ) → IsPut text status.Done answer before after f g → CarriesOut (soak n) [] answer before after f g
counted law n found lines soaks told text printed text_is answer before after f g put = inl (record {
  verdict = done;
  verdict_is = tt;
  text = text;
  said = record {
    found = found;
    soaked = subst (λ (ls : List Line). IsSoaked n found ls) soaks.lines_are soaks;
    numbers = record {
      session = ran.session;
      run = subst (λ (ls : List Line). IsRunOf (plan_of found.plan) found.mapping ls ran.session) soaks.lines_are ran.run;
      quiet = ran.quiet;
      text_is = text_is ∙ ap (summary_text n) numbers;
    };
  };
  put = put;
})
  where
    ran : IsTextOfRun (plan_of found.plan) found.mapping lines printed.text
    ran = printed.run

    numbers : numbers_in told ≡ numbers_of ran.session
    numbers = ap numbers_in (whole_text told printed.text printed.put ∙ ran.spelled) ∙ law Two (plan_of found.plan) found.mapping ran.session soaks.inputs.described.is_sound

-- a run that answers that it is done put its text
pub was_done : (p : Plan) (m : Mapping) (script : List Line) (before after : Option Bytes) (f g : ℕ) → IsRun p m script status.Done before after f g → PrintsRun p m script before after
was_done p m script before after f g (inl x) = x.2
was_done p m script before after f g (inr (inl x)) = let e : status.Done ≡ status.NotWritten = x.0 in absurd cc
was_done p m script before after f g (inr (inr x)) = let e : status.Done ≡ status.Memory = x.0 in absurd cc

-- there was no memory
pub wanted : (n : ℕ) (before : Option Bytes) (f : ℕ) → CarriesOut (soak n) [] status.Memory before before f f
wanted n before f = inr (inr (record { status_is = refl; faults = refl; put = inl refl }))
