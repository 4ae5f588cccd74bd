-- What a command finds of its files, and what it then puts: a line a command. What is of one command alone stands in a file of its own.
use Rattle.std.specs.Prelude.{◌≡◌, List, [], ◌∷◌}
use Rattle.commands.specs.declared.status.Status.{Status}
use Rattle.commands.specs.declared.status.Status.TheVariants as status
use Rattle.commands.specs.declared.stop.Finding.{Finding}
use Rattle.trace_reading.specs.declared.checked.Checked.TheVariants.{Legal}
use Rattle.commands.specs.Commands.{Bytes, Command, run, plan, header, soak, check, pair, live}
use Rattle.commands.specs.Texts.{checked_text, finding_status, finding_text}
use Rattle.commands.specs.RunCommand.{CanRun, IsRunFinding, SaysRun, BeginsRun}
use Rattle.commands.specs.PlanCommand.{CanPlan, IsPlanFinding, SaysPlan}
use Rattle.commands.specs.HeaderCommand.{CanList, IsHeaderFinding, SaysHeader}
use Rattle.commands.specs.CheckCommand.{IsCheckedAs, IsCheckFinding}
use Rattle.commands.specs.SoakCommand.{SaysNumbers}
use Rattle.commands.specs.PairCommand.{CanPair, IsPairFinding, SaysPair, BeginsPair}
use Rattle.commands.specs.LiveCommand.{CanServe, IsLiveFinding, SaysLive, BeginsLive}

-- the command can be carried out, or its files are refused
pub data Verdict : Type 0 where
  done : Verdict
  refused : Finding → Verdict

abbrev pub status_of : Verdict → Status
status_of done = status.Done
status_of (refused finding) = finding_status finding

-- ---- over the bytes of the files that the command reads, in their order

abbrev pub CanBeDone : Command → (files : List Bytes) → Type 0
CanBeDone (run d s) (description ∷ script ∷ []) = CanRun description script
CanBeDone (plan d) (description ∷ []) = CanPlan description
CanBeDone (header d name) (description ∷ []) = CanList description name
CanBeDone (soak n) [] = Unit {0}
CanBeDone (check d t s) (description ∷ trace ∷ script ∷ []) = IsCheckedAs description trace script Legal
CanBeDone (pair d e s) (one ∷ two ∷ script ∷ []) = CanPair one two script
CanBeDone (live d) (description ∷ stimuli ∷ []) = CanServe description stimuli
CanBeDone command files = ⊥

abbrev pub IsFindingOn : Command → (files : List Bytes) → Finding → Type 0
IsFindingOn (run d s) (description ∷ script ∷ []) finding = IsRunFinding description script finding
IsFindingOn (plan d) (description ∷ []) finding = IsPlanFinding description finding
IsFindingOn (header d name) (description ∷ []) finding = IsHeaderFinding description name finding
IsFindingOn (check d t s) (description ∷ trace ∷ script ∷ []) finding = IsCheckFinding description trace script finding
IsFindingOn (pair d e s) (one ∷ two ∷ script ∷ []) finding = IsPairFinding one two script finding
IsFindingOn (live d) (description ∷ stimuli ∷ []) finding = IsLiveFinding description stimuli finding
IsFindingOn command files finding = ⊥

abbrev pub IsVerdictOn : Command → (files : List Bytes) → Verdict → Type 0
IsVerdictOn command files done = CanBeDone command files
IsVerdictOn command files (refused finding) = IsFindingOn command files finding

-- the text that is put if the command is carried out
abbrev pub SaysDone : Command → (files : List Bytes) → Bytes → Type 0
SaysDone (run d s) (description ∷ script ∷ []) text = SaysRun description script text
SaysDone (plan d) (description ∷ []) text = SaysPlan description text
SaysDone (header d name) (description ∷ []) text = SaysHeader description name text
SaysDone (soak n) [] text = SaysNumbers n text
SaysDone (check d t s) (description ∷ trace ∷ script ∷ []) text = text ≡ checked_text Legal
SaysDone (pair d e s) (one ∷ two ∷ script ∷ []) text = SaysPair one two script text
SaysDone (live d) (description ∷ stimuli ∷ []) text = SaysLive description stimuli text
SaysDone command files text = ⊥

-- the text that is put with the verdict
abbrev pub SaysVerdict : Command → (files : List Bytes) → Verdict → Bytes → Type 0
SaysVerdict command files done text = SaysDone command files text
SaysVerdict command files (refused finding) text = text ≡ finding_text finding

-- The text of a begun run. Every other command puts its text at once.
abbrev pub Begins : Command → (files : List Bytes) → Bytes → Type 0
Begins (run d s) (description ∷ script ∷ []) text = BeginsRun description script text
Begins (pair d e s) (one ∷ two ∷ script ∷ []) text = BeginsPair one two script text
Begins (live d) (description ∷ stimuli ∷ []) text = BeginsLive description stimuli text
Begins command files text = ⊥
