-- What each answer of the top call says of the words, of the files, and of what was put.
use Rattle.std.specs.Prelude.{◌≡◌, ℕ, ◌≤◌, ◌⊎◌, List, [], ◌∷◌, length, Option, Some, None}
use Rattle.rte_text.specs.Counts.{Rose}
use Rattle.rte_text.specs.Shelves.{ToldFiles, ShelfCounts}
use Rattle.rte_text.specs.Sinks.{AppendsWhereTold, AppendsPrefixWhereTold}
use Rattle.commands.specs.declared.status.Status.{Status}
use Rattle.commands.specs.declared.status.Status.TheVariants as status
use Rattle.commands.specs.Commands.{Bytes, Words, Command, command_of, files_of}
use Rattle.commands.specs.Fetching.{AreFetched, AreHeldWhereTold, IsUnreadAt}
use Rattle.commands.specs.Texts.{unread_text, words_text}
use Rattle.commands.specs.Verdicts.{Verdict, status_of, Begins, IsVerdictOn, SaysVerdict}

-- ---- what each answer says

-- the words give this command, and the files that it reads hold these bytes if the shelf tells them
pub record Names (words : Words) (told : ToldFiles) (command : Command) (files : List Bytes) : Type 0 where
  pub given : command_of words ≡ Some command
  pub held : AreHeldWhereTold told (files_of command) files

-- the answer is that of a verdict
abbrev pub IsOfVerdict : Status → Type 0
IsOfVerdict answer = (verdict : Verdict) × (answer ≡ status_of verdict)

-- the headline: the words give a command, the answer is that of the verdict on its files, and the text was put that is said with this verdict
pub record Answers (words : Words) (told : ToldFiles) (answer : Status) (before after : Option Bytes) : Type 0 where
  pub command : Command
  pub files : List Bytes
  pub named : Names words told command files
  pub verdict : Verdict
  pub verdict_is : IsVerdictOn command files verdict
  pub status_is : answer ≡ status_of verdict
  pub text : Bytes
  pub said : SaysVerdict command files verdict text
  pub put : AppendsWhereTold before after text

-- the words give no command
pub record RefusesWords (words : Words) (before after : Option Bytes) : Type 0 where
  pub no_command : command_of words ≡ None
  pub put : AppendsWhereTold before after words_text

-- the words give a command, and the file at this place of those that it reads, counted from 1, was not read
pub record NamesUnread (words : Words) (told : ToldFiles) (shelf_before shelf_after : ShelfCounts) (place : ℕ) : Type 0 where
  pub command : Command
  pub given : command_of words ≡ Some command
  pub unread : IsUnreadAt told (files_of command) shelf_before shelf_after place

-- the place of the first file that was not read was put
pub record SaysUnread (words : Words) (told : ToldFiles) (shelf_before shelf_after : ShelfCounts) (fetches_before fetches_after : ℕ) (before after : Option Bytes) : Type 0 where
  pub place : ℕ
  pub named : NamesUnread words told shelf_before shelf_after place
  pub first : AreFetched told fetches_before fetches_after place
  pub put : AppendsWhereTold before after (unread_text place)

-- a text that may be put: that of words, of a file, of a verdict, or of a begun run
pub data MayBePut (words : Words) (told : ToldFiles) (shelf_before : ShelfCounts) (shelf_after : ShelfCounts) (text : Bytes) : Type 0 where
  of_words : command_of words ≡ None → shelf_after ≡ shelf_before → text ≡ words_text → MayBePut words told shelf_before shelf_after text
  of_file : (place : ℕ) → NamesUnread words told shelf_before shelf_after place → text ≡ unread_text place → MayBePut words told shelf_before shelf_after text
  of_verdict : (command : Command) → (files : List Bytes) → Names words told command files → shelf_after ≡ shelf_before
      → (verdict : Verdict) → IsVerdictOn command files verdict → SaysVerdict command files verdict text → MayBePut words told shelf_before shelf_after text
  of_run : (command : Command) → (files : List Bytes) → Names words told command files → shelf_after ≡ shelf_before
      → Begins command files text → MayBePut words told shelf_before shelf_after text

-- a prefix of such a text was put
pub record CutsText (words : Words) (told : ToldFiles) (shelf_before shelf_after : ShelfCounts) (before after : Option Bytes) : Type 0 where
  pub text : Bytes
  pub may_be : MayBePut words told shelf_before shelf_after text
  pub put : AppendsPrefixWhereTold before after text

-- a prefix of the text of a begun run was put
pub record CutsRun (words : Words) (told : ToldFiles) (before after : Option Bytes) : Type 0 where
  pub command : Command
  pub files : List Bytes
  pub named : Names words told command files
  pub text : Bytes
  pub begun : Begins command files text
  pub put : AppendsPrefixWhereTold before after text

-- for want of memory nothing was put, or a run was cut
abbrev pub EndsForMemory : Words → ToldFiles → Option Bytes → Option Bytes → Type 0
EndsForMemory words told before after = (after ≡ before) ⊎ CutsRun words told before after

-- ---- when an answer comes

-- the file of this name is held, with these bytes, and may be read
pub record IsHeld (told : ToldFiles) (name bytes : Bytes) : Type 0 where
  pub held : Bytes → Option Bytes
  pub told_is : told ≡ Some held
  pub bytes_are : held name ≡ Some bytes
  pub within_limit : length bytes ≤ 8388608

abbrev pub AreHeld : ToldFiles → (names : List Bytes) → (files : List Bytes) → Type 0
AreHeld told [] [] = Unit {0}
AreHeld told (name ∷ names) (file ∷ files) = IsHeld told name file × AreHeld told names files
AreHeld told names files = ⊥

-- the answer is that of this verdict, with its text
pub record AnswersWith (command : Command) (files : List Bytes) (verdict : Verdict) (answer : Status) (before after : Option Bytes) : Type 0 where
  pub status_is : answer ≡ status_of verdict
  pub text : Bytes
  pub said : SaysVerdict command files verdict text
  pub put : AppendsWhereTold before after text

-- so it is, unless there was no memory, a fetch failed or a put failed
abbrev pub AnswersUnlessFault : Command → (files : List Bytes) → Verdict → Status → (before : Option Bytes) → (after : Option Bytes)
    → (shelf_before : ℕ) → (shelf_after : ℕ) → (sink_before : ℕ) → (sink_after : ℕ) → Type 0
AnswersUnlessFault command files verdict answer before after s t f g =
    AnswersWith command files verdict answer before after
    ⊎ ((answer ≡ status.Memory) ⊎ (((answer ≡ status.NotRead) × Rose s t) ⊎ ((answer ≡ status.NotWritten) × Rose f g)))
