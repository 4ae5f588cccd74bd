-- What is found of files, and what a stop then says of the command.
use Rattle.std.specs.Prelude.{◌⊎◌, IfErr, OnOk, if◌then◌else◌}
use Rattle.std.proofs.Common.{◌≡◌, ℕ, ◌+◌, ◌≤◌, List, [], ◌∷◌, ◌++◌, length, length-append, arith, refl, ap, inl, inr, Option, Some, None, Result, Ok, Err, Bool, true, false, ◌==◌}
use Rattle.rte_text.specs.declared.refusal.Refused.{Refused}
use Rattle.rte_text.specs.declared.refusal.Refused.TheVariants.{Memory, Rule}
use Rattle.bus_semantics.specs.declared.script.Line.{Line}
use Rattle.bus_semantics.specs.Common.{Plan, plan_of, Letters}
use Rattle.trace_reading.specs.declared.checked.Checked.TheVariants.{Legal}
use Rattle.description_stages.specs.declared.planning.PlannedDescription.{PlannedDescription}
use Rattle.description_stages.specs.Plans.{IsPlanRefusalOf, IsPlannedOf}
use Rattle.plan_text.specs.Lines.{plan_text}
use Rattle.script_reading.specs.Common.{Saying, saying, bad_or, cause_of, first_bad}
use Rattle.feed_queue.specs.Reading.{has_stopped}
use Rattle.feed_queue.specs.Reading.{cause_of as cause_of_stimulus, first_bad as first_bad_stimulus}
use Rattle.script_reading.specs.Meaning.{no_form}
use Rattle.line_fields.specs.Texts.{lines_of, onto_first}
use Rattle.commands.specs.declared.status.Status.{Status}
use Rattle.commands.specs.declared.status.Status.TheVariants as status
use Rattle.commands.specs.declared.stop.Finding.{Finding}
use Rattle.commands.specs.declared.stop.Finding.TheVariants as finding
use Rattle.commands.specs.declared.stop.Stop.{Stop}
use Rattle.commands.specs.declared.stop.Stop.TheVariants as stop
use Rattle.commands.specs.Carrying.{CarriesOut}
use Rattle.commands.specs.Commands.{Bytes, Command, check, header, plan}
use Rattle.commands.specs.CheckCommand.{IsCheckedAs}
use Rattle.commands.specs.Inputs.{AreInputs}
use Rattle.trace_reading.specs.Verdicts.{IsVerdict}
use Rattle.commands.specs.Judging.{IsBadScript, IsFound, IsNotLegal, IsNotPaired, IsNotPlanned, IsNotRun, IsNotServed, IsRefusedTrace, stopped_at}
use Rattle.commands.specs.HeaderCommand.{SaysHeader}
use Rattle.commands.specs.LiveCommand.{IsLiveFinding}
use Rattle.commands.specs.PairCommand.{IsPairFinding, pair_saying}
use Rattle.commands.specs.PlanCommand.{IsPlanFinding}
use Rattle.commands.specs.RunCommand.{IsRunFinding}
use Rattle.commands.specs.Texts.{checked_text, finding_text, IsPut, IsShort, IsShortFinding, IsUnsaid, Says}
use Rattle.commands.specs.Verdicts.{done, refused, IsFindingOn}

pub stopped : (command : Command) (files : List Bytes) (finds : Finding → Type 0) → ((found : Finding) → finds found → IsFindingOn command files found)
    → (answer : Status) (before after : Option Bytes) (f g : ℕ) (why : Stop) → IsFound finds why → Says why answer before after f g → CarriesOut command files answer before after f g
stopped command files finds are answer before after f g (stop.Found found) is (inl put) =
    inl (record { verdict = refused found; verdict_is = are found is; text = finding_text found; said = refl; put = put })
stopped command files finds are answer before after f g (stop.Found found) is (inr unsaid) = inr (inr (record { status_is = unsaid.status_is; faults = unsaid.faults; put = inl unsaid.told }))
stopped command files finds are answer before after f g stop.Memory is unsaid = inr (inr (record { status_is = unsaid.status_is; faults = unsaid.faults; put = inl unsaid.told }))
stopped command files finds are answer before after f g stop.Words is says = absurd is
stopped command files finds are answer before after f g (stop.NotRead place) is says = absurd is

-- ---- the number of a bad line

onto_one : (c : ℕ) (ls : List Letters) (n : ℕ) → length ls ≤ n → length (onto_first c ls) ≤ n + 1
onto_one c [] n h = omega arith
onto_one c (l ∷ ls) n h = omega (arith, h)

-- each line has a letter or its newline
lines_fit : (s : List ℕ) → length (lines_of s) ≤ length s
lines_fit [] = omega arith
lines_fit (c ∷ cs) = by (c == 10) refl (lines_fit cs)
  where
    by : (b : Bool) → (c == 10) ≡ b → length (lines_of cs) ≤ length cs → length (lines_of (c ∷ cs)) ≤ length (c ∷ cs)
    by true e less = rw e (omega (arith, less))
    by false e less = rw e (omega (arith, onto_one c (lines_of cs) (length cs) less))

number_of : (x y : ℕ × ℕ) → Some x ≡ Some y → x.0 ≡ y.0
number_of x y e = let same : x ≡ y = cc in ap (λ (z : ℕ × ℕ). z.0) same

bad_within : (say : Letters → Saying) (before ts : List Letters) (n cause : ℕ) → first_bad say before ts ≡ Some (n, cause) → n ≤ length before + length ts
bad_within say before [] n cause e = absurd cc
bad_within say before (t ∷ ts) n cause e = by (cause_of say before t) e (λ later. bad_within say (before ++ t ∷ []) ts n cause later)
  where
    by : (o : Option ℕ) → bad_or (length before + 1) o (first_bad say (before ++ t ∷ []) ts) ≡ Some (n, cause)
        → (first_bad say (before ++ t ∷ []) ts ≡ Some (n, cause) → n ≤ length (before ++ t ∷ []) + length ts) → n ≤ length before + length (t ∷ ts)
    by None later more = omega (arith, more later, length-append before (t ∷ []))
    by (Some k) now more = omega (arith, number_of (length before + 1, k) (n, cause) now)

pub found_short : (d s : Bytes) → length s ≤ 8388608 → (found : Finding) → IsRunFinding d s found → IsShortFinding found
found_short d s fits (finding.Refused refusal) is = tt
found_short d s fits (finding.Script line cause) is = omega (arith, bad_within (saying (plan_of is.found.plan)) [] (lines_of s) line cause is.bad, lines_fit s, fits)
found_short d s fits (finding.Trace checked) is = absurd is
found_short d s fits finding.NoComponent is = absurd is
found_short d s fits (finding.Clash name) is = absurd is
found_short d s fits (finding.RefusedOf refusal which) is = absurd is
found_short d s fits finding.NoLink is = absurd is
found_short d s fits finding.TooManyCores is = absurd is

pub short_by : (finds : Finding → Type 0) → ((found : Finding) → finds found → IsShortFinding found) → (why : Stop) → IsFound finds why → IsShort why
short_by finds short (stop.Found found) is = short found is
short_by finds short stop.Memory is = tt
short_by finds short stop.Words is = absurd is
short_by finds short (stop.NotRead place) is = absurd is

pub run_short : (d s : Bytes) → length s ≤ 8388608 → (why : Stop) → IsNotRun d s why → IsShort why
run_short d s fits why is = short_by (IsRunFinding d s) (found_short d s fits) why is

pub plan_short : (d : Bytes) (why : Stop) → IsNotPlanned d why → IsShort why
plan_short d why is = short_by (IsPlanFinding d) by why is
  where
    by : (found : Finding) → IsPlanFinding d found → IsShortFinding found
    by (finding.Refused refusal) is = tt
    by (finding.Script line cause) is = absurd is
    by (finding.Trace checked) is = absurd is
    by finding.NoComponent is = absurd is
    by (finding.Clash name) is = absurd is
    by (finding.RefusedOf refusal which) is = absurd is
    by finding.NoLink is = absurd is
    by finding.TooManyCores is = absurd is

pub pair_short : (c d s : Bytes) → length s ≤ 8388608 → (why : Stop) → IsNotPaired c d s why → IsShort why
pair_short c d s fits why is = short_by (IsPairFinding c d s) by why is
  where
    by : (found : Finding) → IsPairFinding c d s found → IsShortFinding found
    by (finding.RefusedOf refusal which) is = tt
    by finding.NoLink is = tt
    by (finding.Script line cause) is = omega (arith, bad_within (pair_saying (plan_of is.found.plan) (plan_of is.beside.plan)) [] (lines_of s) line cause is.bad, lines_fit s, fits)
    by (finding.Refused refusal) is = absurd is
    by (finding.Trace checked) is = absurd is
    by finding.NoComponent is = absurd is
    by (finding.Clash name) is = absurd is
    by finding.TooManyCores is = absurd is

-- the line behind the last, where a stop is missing
abbrev missing : List Letters → Option (ℕ × ℕ)
missing before = Some (length before + 1, no_form)

-- the first bad one of stimuli is a line, or this one
stimulus_within : (p : Plan) (before ts : List Letters) (n cause : ℕ) → first_bad_stimulus p before ts ≡ Some (n, cause) → n ≤ length before + length ts + 1
stimulus_within p before [] n cause e = by (has_stopped p before) e
  where
    by : (b : Bool) → (if b then None else missing before) ≡ Some (n, cause) → n ≤ length before + 0 + 1
    by true e = absurd cc
    by false e = omega (arith, number_of (length before + 1, no_form) (n, cause) e)
stimulus_within p before (t ∷ ts) n cause e = by (cause_of_stimulus p before t) e (λ later. stimulus_within p (before ++ t ∷ []) ts n cause later)
  where
    by : (o : Option ℕ) → bad_or (length before + 1) o (first_bad_stimulus p (before ++ t ∷ []) ts) ≡ Some (n, cause)
        → (first_bad_stimulus p (before ++ t ∷ []) ts ≡ Some (n, cause) → n ≤ length (before ++ t ∷ []) + length ts + 1) → n ≤ length before + length (t ∷ ts) + 1
    by None later more = omega (arith, more later, length-append before (t ∷ []))
    by (Some k) now more = omega (arith, number_of (length before + 1, k) (n, cause) now)

pub live_short : (d s : Bytes) → length s ≤ 8388608 → (why : Stop) → IsNotServed d s why → IsShort why
live_short d s fits why is = short_by (IsLiveFinding d s) by why is
  where
    by : (found : Finding) → IsLiveFinding d s found → IsShortFinding found
    by (finding.Refused refusal) is = tt
    by finding.TooManyCores is = tt
    by (finding.Script line cause) is = omega (arith, stimulus_within (plan_of is.found.plan) [] (lines_of s) line cause is.bad, lines_fit s, fits)
    by (finding.Trace checked) is = absurd is
    by finding.NoComponent is = absurd is
    by (finding.Clash name) is = absurd is
    by (finding.RefusedOf refusal which) is = absurd is
    by finding.NoLink is = absurd is

-- ---- two descriptions

pub refused_one : (c d s : Bytes) (r : Refused) → IsPlanRefusalOf c r → IsNotPaired c d s (stopped_at r 1)
refused_one c d s (Rule refusal) is = inl (refl, is)
refused_one c d s Memory is = tt

pub refused_two : (c d s : Bytes) (found : PlannedDescription) → IsPlannedOf c found → (r : Refused) → IsPlanRefusalOf d r → IsNotPaired c d s (stopped_at r 2)
refused_two c d s found planned (Rule refusal) is = inr (refl, (found, planned), is)
refused_two c d s found planned Memory is = tt

-- ---- a description and stimuli

pub not_planned : (d s : Bytes) (why : Stop) → IsNotPlanned d why → IsNotServed d s why
not_planned d s (stop.Found (finding.Refused refusal)) is = is
not_planned d s (stop.Found (finding.Script line cause)) is = absurd is
not_planned d s (stop.Found (finding.Trace checked)) is = absurd is
not_planned d s (stop.Found finding.NoComponent) is = absurd is
not_planned d s (stop.Found (finding.Clash name)) is = absurd is
not_planned d s (stop.Found (finding.RefusedOf refusal which)) is = absurd is
not_planned d s (stop.Found finding.NoLink) is = absurd is
not_planned d s (stop.Found finding.TooManyCores) is = absurd is
not_planned d s stop.Memory is = tt
not_planned d s stop.Words is = absurd is
not_planned d s (stop.NotRead place) is = absurd is

-- ---- over a plan

-- a script that is refused over the plan of a description
pub bad_script : (d s : Bytes) (found : PlannedDescription) → IsPlannedOf d found → (why : Stop) → IsBadScript (plan_of found.plan) s why → IsNotRun d s why
bad_script d s found planned (stop.Found (finding.Script line cause)) bad = record { found = found; described = planned; bad = bad }
bad_script d s found planned (stop.Found (finding.Refused refusal)) bad = absurd bad
bad_script d s found planned (stop.Found (finding.Trace checked)) bad = absurd bad
bad_script d s found planned (stop.Found finding.NoComponent) bad = absurd bad
bad_script d s found planned (stop.Found (finding.Clash name)) bad = absurd bad
bad_script d s found planned (stop.Found (finding.RefusedOf refusal which)) bad = absurd bad
bad_script d s found planned (stop.Found finding.NoLink) bad = absurd bad
bad_script d s found planned (stop.Found finding.TooManyCores) bad = absurd bad
bad_script d s found planned stop.Memory bad = tt
bad_script d s found planned stop.Words bad = absurd bad
bad_script d s found planned (stop.NotRead place) bad = absurd bad

-- a trace that is checked over the plan and the script of two files
module _ (d t s : Bytes) (found : PlannedDescription) (lines : List Line) (inputs : AreInputs d s found lines) where
  pub legal_trace : {E : Type 0} → (r : Result (Unit {0}) E) → OnOk r (IsVerdict (plan_of found.plan) found.mapping lines t Legal) → OnOk r (IsCheckedAs d t s Legal)
  legal_trace (Ok x) verdict = record { found = found; lines = lines; inputs = inputs; verdict = verdict }
  legal_trace (Err e) verdict = tt

  refused_by : (why : Stop) → IsRefusedTrace (plan_of found.plan) found.mapping lines t why → IsNotLegal d t s why
  refused_by (stop.Found (finding.Trace checked)) is = (is.0, record { found = found; lines = lines; inputs = inputs; verdict = is.1 })
  refused_by (stop.Found (finding.Refused refusal)) is = absurd is
  refused_by (stop.Found (finding.Script line cause)) is = absurd is
  refused_by (stop.Found finding.NoComponent) is = absurd is
  refused_by (stop.Found (finding.Clash name)) is = absurd is
  refused_by (stop.Found (finding.RefusedOf refusal which)) is = absurd is
  refused_by (stop.Found finding.NoLink) is = absurd is
  refused_by (stop.Found finding.TooManyCores) is = absurd is
  refused_by stop.Memory is = tt
  refused_by stop.Words is = absurd is
  refused_by (stop.NotRead place) is = absurd is

  pub refused_trace : {X : Type 0} → (r : Result X Stop) → IfErr r (IsRefusedTrace (plan_of found.plan) found.mapping lines t) → IfErr r (IsNotLegal d t s)
  refused_trace (Ok x) is = tt
  refused_trace (Err why) is = refused_by why is

-- a description or a script that is refused is so for a trace too
pub not_run : (d t s : Bytes) (why : Stop) → IsNotRun d s why → IsNotLegal d t s why
not_run d t s (stop.Found (finding.Refused refusal)) is = is
not_run d t s (stop.Found (finding.Script line cause)) is = is
not_run d t s (stop.Found (finding.Trace checked)) is = absurd is
not_run d t s (stop.Found finding.NoComponent) is = absurd is
not_run d t s (stop.Found (finding.Clash name)) is = absurd is
not_run d t s (stop.Found (finding.RefusedOf refusal which)) is = absurd is
not_run d t s (stop.Found finding.NoLink) is = absurd is
not_run d t s (stop.Found finding.TooManyCores) is = absurd is
not_run d t s stop.Memory is = tt
not_run d t s stop.Words is = absurd is
not_run d t s (stop.NotRead place) is = absurd is

-- ---- what is said where nothing is found

pub planned : (d description : Bytes) (found : PlannedDescription) → IsPlannedOf description found → (answer : Status) (before after : Option Bytes) (f g : ℕ)
    → IsPut (plan_text found.description found.flat found.plan) status.Done answer before after f g ⊎ IsUnsaid answer before after f g → CarriesOut (plan d) (description ∷ []) answer before after f g
planned d description found is answer before after f g (inl put) = inl (record {
  verdict = done;
  verdict_is = (found, is);
  text = plan_text found.description found.flat found.plan;
  said = record { found = found; planned = is; text_is = refl };
  put = put;
})
planned d description found is answer before after f g (inr unsaid) = inr (inr (record { status_is = unsaid.status_is; faults = unsaid.faults; put = inl unsaid.told }))

pub legal : (d t s description trace script : Bytes) → IsCheckedAs description trace script Legal → (answer : Status) (before after : Option Bytes) (f g : ℕ)
    → IsPut (checked_text Legal) status.Done answer before after f g → CarriesOut (check d t s) (description ∷ trace ∷ script ∷ []) answer before after f g
legal d t s description trace script is answer before after f g put = inl (record { verdict = done; verdict_is = is; text = checked_text Legal; said = refl; put = put })

pub listed : (d description name text : Bytes) → SaysHeader description name text → (answer : Status) (before after : Option Bytes) (f g : ℕ)
    → IsPut text status.Done answer before after f g → CarriesOut (header d name) (description ∷ []) answer before after f g
listed d description name text says answer before after f g put = inl (record { verdict = done; verdict_is = (text, says); text = text; said = says; put = put })
