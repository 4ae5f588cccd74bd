-- What the pieces of a line are, and what code makes of them.
use Rattle.std.specs.Prelude.{◌≡◌, ℕ, ◌+◌, ◌≤◌, List, [], ◌∷◌, length, Option, Some, None, MatchResult, Result, option_copied}
use Rattle.bus_semantics.specs.Spelling.{Letters}
use Rattle.script_reading.specs.declared.fields.Fields.{Fields}
use Rattle.script_reading.specs.declared.fields.Fields.TheVariants.{One, Two, Three, More}
use Rattle.script_reading.specs.declared.line.Said.{Said}
use Rattle.script_reading.specs.declared.line.Said.TheVariants as said
use Rattle.script_reading.specs.declared.phrases.Parsed.{Parsed}
use Rattle.script_reading.specs.declared.phrases.Parsed.TheVariants as parsed
use Rattle.script_reading.specs.Forms.{Phrase, to_wait, to_run, to_call}
use Rattle.script_reading.specs.declared.counts.Counts.{Counts}
use Rattle.script_reading.specs.Limits.{are_too_many, runs_said, ticks_said}
use Rattle.script_reading.specs.Reading.{least_cause}
use Rattle.script_reading.specs.Meaning.{Saying, nothing, asks, is_bad, asked_of}

abbrev pub AreFields : List Letters → Fields → Type 0
AreFields ts (One a) = ts ≡ a.now ∷ []
AreFields ts (Two a b) = ts ≡ a.now ∷ b.now ∷ []
AreFields ts (Three a b c) = ts ≡ a.now ∷ b.now ∷ c.now ∷ []
AreFields ts More = 4 ≤ length ts

abbrev pub phrase_of : Parsed → Phrase
phrase_of (parsed.Wait n) = to_wait n
phrase_of parsed.Run = to_run
phrase_of (parsed.Call f name third) = to_call f name.now (option_copied third)

abbrev pub saying_of : Said → Saying
saying_of said.Nothing = nothing
saying_of (said.Line l) = asks (asked_of l)
saying_of (said.Bad cause) = is_bad cause

-- the counts with one more line
abbrev pub AreCountedWith : Counts → Saying → Counts → Type 0
AreCountedWith c s more = (more.lines ≡ c.lines + 1) × (more.ticks ≡ c.ticks + ticks_said s) × (more.runs ≡ c.runs + runs_said s)

-- the least cause of a line that says so, after lines with these counts
abbrev pub cause_after : Counts → Saying → Option ℕ
cause_after c s = least_cause (are_too_many (c.lines + 1) (c.ticks + ticks_said s) (c.runs + runs_said s)) s

-- the counts with one more line that is good, or the least cause of one that is bad
abbrev pub IsJudged : Counts → Saying → Result Counts ℕ → Type 0
IsJudged c s r = MatchResult r (λ more. (cause_after c s ≡ None) × AreCountedWith c s more) (λ cause. cause_after c s ≡ Some cause)
