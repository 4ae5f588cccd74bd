-- What is said if nothing is run, and how a text is put.
use Rattle.std.specs.Prelude.{◌≡◌, ◌<◌, ◌^◌, ◌⊎◌, ℕ, ◌++◌, codes, decimal, Option}
use Rattle.rte_text.specs.declared.sink.Put.{Put}
use Rattle.rte_text.specs.declared.sink.Put.TheVariants as put
use Rattle.rte_text.specs.Sinks.{ToldAfter, SinkFaultsAfter}
use Rattle.trace_reading.specs.declared.checked.Checked.{Checked}
use Rattle.trace_reading.specs.declared.checked.Checked.TheVariants.{Legal, BadLine, Illegal}
use Rattle.commands.specs.declared.status.Status.{Status}
use Rattle.commands.specs.declared.status.Status.TheVariants as status
use Rattle.commands.specs.declared.stop.Stop.{Stop}
use Rattle.commands.specs.declared.stop.Stop.TheVariants as stop
use Rattle.commands.specs.declared.stop.Finding.{Finding}
use Rattle.commands.specs.declared.stop.Finding.TheVariants as finding
use Rattle.commands.specs.Commands.{Bytes}

-- ---- the texts

abbrev pub words_text : Bytes
words_text = codes "words refused\n"

-- the place of the file among those that the command reads, counted from 1
abbrev pub unread_text : ℕ → Bytes
unread_text place = codes "not read " ++ decimal place ++ codes "\n"

abbrev pub refusal_text : ℕ → Bytes → Bytes
refusal_text rule place = codes "refused rule " ++ decimal rule ++ codes " at " ++ place ++ codes "\n"

-- of two descriptions the one at this place, counted from 1
abbrev pub refusal_of_text : ℕ → Bytes → (which : ℕ) → Bytes
refusal_of_text rule place which = codes "refused rule " ++ decimal rule ++ codes " at " ++ place ++ codes " of " ++ decimal which ++ codes "\n"

abbrev pub script_refusal_text : ℕ → ℕ → Bytes
script_refusal_text line cause = codes "script refused line " ++ decimal line ++ codes " cause " ++ decimal cause ++ codes "\n"

-- the first line that is refused, with the clause that it breaks if it has a reading
abbrev pub checked_text : Checked → Bytes
checked_text Legal = codes "legal\n"
checked_text (BadLine line) = codes "bad line " ++ decimal line ++ codes "\n"
checked_text (Illegal line clause) = codes "illegal " ++ decimal line ++ codes " D" ++ decimal clause ++ codes "\n"

-- a name that two different calls have
abbrev pub clash_text : Bytes → Bytes
clash_text name = codes "clash " ++ name ++ codes "\n"

abbrev pub finding_text : Finding → Bytes
finding_text (finding.Refused refusal) = refusal_text refusal.rule refusal.place
finding_text (finding.Script line cause) = script_refusal_text line cause
finding_text (finding.Trace checked) = checked_text checked
finding_text finding.NoComponent = codes "no component\n"
finding_text (finding.Clash name) = clash_text name
finding_text (finding.RefusedOf refusal which) = refusal_of_text refusal.rule refusal.place which
finding_text finding.NoLink = codes "no link\n"
finding_text finding.TooManyCores = codes "too many cores\n"

abbrev pub finding_status : Finding → Status
finding_status (finding.Refused refusal) = status.Refused
finding_status (finding.Script line cause) = status.Script
finding_status (finding.Trace checked) = status.Trace
finding_status finding.NoComponent = status.NoComponent
finding_status (finding.Clash name) = status.Clash
finding_status (finding.RefusedOf refusal which) = status.Refused
finding_status finding.NoLink = status.NoLink
finding_status finding.TooManyCores = status.TooManyCores

-- ---- the put of a text

-- the status after the put of a text that has this one
abbrev pub answer_after : Put → Status → Status
answer_after put.Done answer = answer
answer_after put.Failed answer = status.NotWritten

-- the text was put or cut by a fault, and the answer is this status or that of a fault
pub record IsPut (text : Bytes) (wanted answer : Status) (before after : Option Bytes) (faults_before faults_after : ℕ) : Type 0 where
  pub answered : Put
  pub status_is : answer ≡ answer_after answered wanted
  pub told : ToldAfter answered before after text
  pub faults : SinkFaultsAfter answered faults_before faults_after

-- there was no memory, and nothing was put
pub record IsUnsaid (answer : Status) (before after : Option Bytes) (faults_before faults_after : ℕ) : Type 0 where
  pub status_is : answer ≡ status.Memory
  pub told : after ≡ before
  pub faults : faults_after ≡ faults_before

-- the text of a stop was put; that of a broken rule takes memory, since its place may be long
abbrev pub Says : Stop → Status → (before : Option Bytes) → (after : Option Bytes) → (faults_before : ℕ) → (faults_after : ℕ) → Type 0
Says stop.Memory answer before after f g = IsUnsaid answer before after f g
Says stop.Words answer before after f g = IsPut words_text status.Words answer before after f g
Says (stop.NotRead place) answer before after f g = IsPut (unread_text place) status.NotRead answer before after f g
Says (stop.Found found) answer before after f g = IsPut (finding_text found) (finding_status found) answer before after f g ⊎ IsUnsaid answer before after f g

-- the number of a line is one that a line of text takes
abbrev pub IsShortVerdict : Checked → Type 0
IsShortVerdict Legal = Unit {0}
IsShortVerdict (BadLine line) = line < 2 ^ 63
IsShortVerdict (Illegal line clause) = line < 2 ^ 63

abbrev pub IsShortFinding : Finding → Type 0
IsShortFinding (finding.Refused refusal) = Unit {0}
IsShortFinding (finding.Script line cause) = line < 2 ^ 63
IsShortFinding (finding.Trace checked) = IsShortVerdict checked
IsShortFinding finding.NoComponent = Unit {0}
IsShortFinding (finding.Clash name) = Unit {0}
IsShortFinding (finding.RefusedOf refusal which) = Unit {0}
IsShortFinding finding.NoLink = Unit {0}
IsShortFinding finding.TooManyCores = Unit {0}

abbrev pub IsShort : Stop → Type 0
IsShort stop.Words = Unit {0}
IsShort (stop.NotRead place) = Unit {0}
IsShort (stop.Found found) = IsShortFinding found
IsShort stop.Memory = Unit {0}
