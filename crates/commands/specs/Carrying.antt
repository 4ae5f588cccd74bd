-- How a command ends.
use Rattle.std.specs.Prelude.{◌≡◌, ℕ, ◌⊎◌, List, Option}
use Rattle.rte_text.specs.Counts.{Rose}
use Rattle.rte_text.specs.Shelves.{ToldFiles, ShelfCounts}
use Rattle.rte_text.specs.Sinks.{AppendsPrefixWhereTold}
use Rattle.commands.specs.declared.status.Status.{Status}
use Rattle.commands.specs.declared.status.Status.TheVariants as status
use Rattle.commands.specs.Commands.{Bytes, Command, files_of}
use Rattle.commands.specs.Fetching.{counts_of, AreFetched, AreHeldWhereTold, IsUnreadAt}
use Rattle.commands.specs.Texts.{unread_text, IsPut, IsUnsaid}
use Rattle.commands.specs.Verdicts.{Verdict, status_of, Begins, IsVerdictOn, SaysVerdict}

-- ---- over the bytes of its files

-- the verdict on the files was said, or cut by a fault
pub record TellsVerdict (command : Command) (files : List Bytes) (answer : Status) (before after : Option Bytes) (faults_before faults_after : ℕ) : Type 0 where
  pub verdict : Verdict
  pub verdict_is : IsVerdictOn command files verdict
  pub text : Bytes
  pub said : SaysVerdict command files verdict text
  pub put : IsPut text (status_of verdict) answer before after faults_before faults_after

-- a prefix of the text of a begun run was put
pub record PutsBeginning (command : Command) (files : List Bytes) (before after : Option Bytes) : Type 0 where
  pub text : Bytes
  pub begun : Begins command files text
  pub put : AppendsPrefixWhereTold before after text

-- a put failed in a run
pub record BreaksOff (command : Command) (files : List Bytes) (answer : Status) (before after : Option Bytes) (faults_before faults_after : ℕ) : Type 0 where
  pub status_is : answer ≡ status.NotWritten
  pub rose : Rose faults_before faults_after
  pub put : PutsBeginning command files before after

-- there was no memory: nothing was put, or a run was cut
pub record WantsMemory (command : Command) (files : List Bytes) (answer : Status) (before after : Option Bytes) (faults_before faults_after : ℕ) : Type 0 where
  pub status_is : answer ≡ status.Memory
  pub faults : faults_after ≡ faults_before
  pub put : (after ≡ before) ⊎ PutsBeginning command files before after

-- the command was carried out over its files
abbrev pub CarriesOut : Command → (files : List Bytes) → Status → (before : Option Bytes) → (after : Option Bytes) → (faults_before : ℕ) → (faults_after : ℕ) → Type 0
CarriesOut command files answer before after f g =
    TellsVerdict command files answer before after f g ⊎ (BreaksOff command files answer before after f g ⊎ WantsMemory command files answer before after f g)

-- ---- over a shelf and a sink

-- what a shelf and a sink have
pub record World : Type 0 where
  pub files : ToldFiles
  pub counts : ShelfCounts
  pub fetches : ℕ
  pub told : Option Bytes
  pub faults : ℕ

abbrev pub world : (files : ToldFiles) → (faults : ℕ) → (long_files : ℕ) → (fetches : ℕ) → (told : Option Bytes) → (sink_faults : ℕ) → World
world files faults long_files fetches told sink_faults =
    record { files = files; counts = counts_of faults long_files; fetches = fetches; told = told; faults = sink_faults }

-- a file of the command was not read, and that was said
pub record ReadsNot (command : Command) (answer : Status) (before after : World) : Type 0 where
  pub place : ℕ
  pub unread : IsUnreadAt before.files (files_of command) before.counts after.counts place
  pub fetched : AreFetched before.files before.fetches after.fetches place
  pub put : IsPut (unread_text place) status.NotRead answer before.told after.told before.faults after.faults

-- there was no memory for a file
pub record FetchesNot (answer : Status) (before after : World) : Type 0 where
  pub counts : after.counts ≡ before.counts
  pub unsaid : IsUnsaid answer before.told after.told before.faults after.faults

-- the files were read, and the command carried out over them
pub record ReadsAll (command : Command) (answer : Status) (before after : World) : Type 0 where
  pub files : List Bytes
  pub held : AreHeldWhereTold before.files (files_of command) files
  pub counts : after.counts ≡ before.counts
  pub carried : CarriesOut command files answer before.told after.told before.faults after.faults

-- how the command ended
abbrev pub Ends : Command → Status → (before : World) → (after : World) → Type 0
Ends command answer before after = ReadsNot command answer before after ⊎ (FetchesNot answer before after ⊎ ReadsAll command answer before after)
