-- The commands, which are this project's own: the words that give each, and the files that it reads.
use Rattle.std.specs.Prelude.{◌≤◌, ℕ, nat_le, List, [], ◌∷◌, Bool, true, false, ◌&&◌, Option, Some, None, option_map, bytes_eq, codes, if◌then◌else◌}
use Rattle.std.specs.Option.{option_map_or}
use Rattle.line_fields.specs.Numbers.{is_number, number_in}
use Rattle.commands.specs.declared.command.Command as code
use Rattle.commands.specs.declared.command.Command.TheVariants as code_as

-- a text, or what a file holds
abbrev pub Bytes : Type 0
Bytes = List ℕ

-- the words of a command, the command's own first
abbrev pub Words : Type 0
Words = List Bytes

-- what is asked for, with the names of files
pub data Command : Type 0 where
  run : (description : Bytes) → (script : Bytes) → Command
  plan : (description : Bytes) → Command
  header : (description : Bytes) → (name : Bytes) → Command
  soak : (pairs : ℕ) → Command
  check : (description : Bytes) → (trace : Bytes) → (script : Bytes) → Command
  pair : (one : Bytes) → (two : Bytes) → (script : Bytes) → Command
  live : (description : Bytes) → Command

-- from 1 to 64, in decimal without leading zeros
abbrev pub pairs_of : Bytes → Option ℕ
pairs_of text = if is_number text && (nat_le 1 (number_in text) && nat_le (number_in text) 64) then Some (number_in text) else None

-- `plan C`, `live C`, `soak N`, `run C S`, `header C name`, `check C T S` and `pair C1 C2 S`
abbrev pub command_of : Words → Option Command
command_of (w ∷ a ∷ []) =
    if bytes_eq w (codes "plan") then Some (plan a)
    else (if bytes_eq w (codes "live") then Some (live a) else (if bytes_eq w (codes "soak") then option_map soak (pairs_of a) else None))
command_of (w ∷ a ∷ b ∷ []) = if bytes_eq w (codes "run") then Some (run a b) else (if bytes_eq w (codes "header") then Some (header a b) else None)
command_of (w ∷ a ∷ b ∷ c ∷ []) = if bytes_eq w (codes "check") then Some (check a b c) else (if bytes_eq w (codes "pair") then Some (pair a b c) else None)
command_of words = None

-- the file of stimuli: the program reads standard input for it
abbrev pub stimuli : Bytes
stimuli = codes "-"

-- the names of the files that it reads, in the order in which they are fetched
abbrev pub files_of : Command → List Bytes
files_of (run description script) = description ∷ script ∷ []
files_of (plan description) = description ∷ []
files_of (header description name) = description ∷ []
files_of (soak pairs) = []
files_of (check description trace script) = description ∷ trace ∷ script ∷ []
files_of (pair one two script) = one ∷ two ∷ script ∷ []
files_of (live description) = description ∷ stimuli ∷ []

-- the number of pairs is one that `soak` takes
abbrev pub IsWell : Command → Type 0
IsWell (run description script) = Unit {0}
IsWell (plan description) = Unit {0}
IsWell (header description name) = Unit {0}
IsWell (soak pairs) = (1 ≤ pairs) × (pairs ≤ 64)
IsWell (check description trace script) = Unit {0}
IsWell (pair one two script) = Unit {0}
IsWell (live description) = Unit {0}

-- whether nodes run for it
abbrev pub runs : Command → Bool
runs (run description script) = true
runs (plan description) = false
runs (header description name) = false
runs (soak pairs) = true
runs (check description trace script) = false
runs (pair one two script) = true
runs (live description) = true

-- whether the words give a command for which nodes run
abbrev pub ask_to_run : Words → Bool
ask_to_run words = option_map_or runs (command_of words) false

-- what a command of the code means
abbrev pub meant : code.Command → Command
meant (code_as.Run description script) = run description.now script.now
meant (code_as.Plan description) = plan description.now
meant (code_as.Header description name) = header description.now name.now
meant (code_as.Soak pairs) = soak pairs
meant (code_as.Check description trace script) = check description.now trace.now script.now
meant (code_as.Pair one two script) = pair one.now two.now script.now
meant (code_as.Live description) = live description.now
