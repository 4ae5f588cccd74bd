-- What a script is read as: what its lines ask for, in order, or its first bad line with its least cause. What a line says is given by a
-- function: over a plan it is `saying`.
use Rattle.std.specs.Prelude.{◌≡◌, ℕ, ◌+◌, List, [], ◌∷◌, ◌++◌, length, map, Bool, if◌then◌else◌, Option, Some, None}
use Rattle.bus_semantics.specs.Common.{Plan, Letters}
use Rattle.bus_semantics.specs.declared.script.Line.{Line}
use Rattle.script_reading.specs.declared.script_read.ScriptRead.{ScriptRead}
use Rattle.script_reading.specs.declared.script_read.ScriptRead.TheVariants as answer
use Rattle.line_fields.specs.Texts.{lines_of}
use Rattle.script_reading.specs.Meaning.{Asked, asked_of, Saying, nothing, asks, is_bad, saying}
use Rattle.script_reading.specs.Limits.{ticks_said, runs_said, ticks_in, runs_in, are_too_many}

-- ---- causes

-- the line passes a limit
abbrev pub too_many : ℕ
too_many = 4

-- whether this line, which says so, passes a limit if these lines stand before it
abbrev pub passes : (say : Letters → Saying) → (before : List Letters) → Saying → Bool
passes say before s = are_too_many (length before + 1) (ticks_in say before + ticks_said s) (runs_in say before + runs_said s)

-- the least cause of a line that says so, and none if it is good
abbrev pub least_cause : (passes : Bool) → Saying → Option ℕ
least_cause past (is_bad cause) = Some cause
least_cause past nothing = if past then Some too_many else None
least_cause past (asks a) = if past then Some too_many else None

abbrev pub cause_of : (say : Letters → Saying) → (before : List Letters) → Letters → Option ℕ
cause_of say before t = least_cause (passes say before (say t)) (say t)

abbrev pub bad_or : (number : ℕ) → Option ℕ → Option (ℕ × ℕ) → Option (ℕ × ℕ)
bad_or n None later = later
bad_or n (Some cause) later = Some (n, cause)

-- the number of the first bad line after those before, counted from 1, with its cause
abbrev pub first_bad : (say : Letters → Saying) → (before : List Letters) → List Letters → Option (ℕ × ℕ)
first_bad say before [] = None
first_bad say before (t ∷ ts) = bad_or (length before + 1) (cause_of say before t) (first_bad say (before ++ t ∷ []) ts)

-- ---- a script

-- what the lines ask for; empty lines and comments ask for nothing
abbrev pub asked_by : Saying → List Asked
asked_by (asks a) = a ∷ []
asked_by _ = []

abbrev pub asked_in : (say : Letters → Saying) → List Letters → List Asked
asked_in say [] = []
asked_in say (t ∷ ts) = asked_by (say t) ++ asked_in say ts

-- the bytes are a script of these lines, if lines say this
pub record IsScriptBy (say : Letters → Saying) (bytes : Letters) (lines : List Line) : Type 0 where
  pub good : first_bad say [] (lines_of bytes) ≡ None
  pub lines_are : map asked_of lines ≡ asked_in say (lines_of bytes)

-- the bytes are a script of these lines over the plan
abbrev pub IsScript : Plan → (bytes : Letters) → List Line → Type 0
IsScript p bytes lines = IsScriptBy (saying p) bytes lines

-- ---- what reading answers

-- if a script was read, this holds of its lines
abbrev pub IfRead : ScriptRead → (List Line → Type 0) → Type 0
IfRead (answer.Read script) P = P script.lines
IfRead (answer.BadLine line cause) P = Unit {0}
IfRead answer.Memory P = Unit {0}

-- if a line is bad, this holds of its number and the cause
abbrev pub IfBadLine : ScriptRead → (ℕ → ℕ → Type 0) → Type 0
IfBadLine (answer.Read script) P = Unit {0}
IfBadLine (answer.BadLine line cause) P = P line cause
IfBadLine answer.Memory P = Unit {0}
