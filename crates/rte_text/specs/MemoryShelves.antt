-- A shelf in memory, and what it does at a call.
use Rattle.std.specs.Prelude.{◌≡◌, ℕ, ◌<◌, ◌≤◌, ◌==◌, ◌||◌, Bool, false, IsTrue, List, length, find, Option, Some, option_map, is_none, IsSomeAnd, bytes_eq}
use Rattle.std.specs.List.{list_any}
use Rattle.rte_text.specs.Counts.{raised}
use Rattle.rte_text.specs.declared.shelf.Fetched.{Fetched}
use Rattle.rte_text.specs.declared.shelf.Fetched.TheVariants.{Bytes, Failed, TooLong, Memory}

-- the files by name, the numbers of the calls that fail, the number of calls so far, and the counts
pub record HeldFiles : Type 0 where
  pub files : List (List ℕ × List ℕ)
  pub fails : List ℕ
  pub calls : ℕ
  pub faults : ℕ
  pub long_files : ℕ

-- the bytes held under the name: those of the first file that has it
abbrev pub file_named : List (List ℕ × List ℕ) → List ℕ → Option (List ℕ)
file_named files name = option_map (λ file. file.1) (find (λ file. bytes_eq file.0 name) files)

-- whether the next call is one that fails
abbrev pub next_fails : HeldFiles → Bool
next_fails s = list_any (λ call. call == s.calls) s.fails

-- an answer to the next call: the bytes or no memory for them, a fault exactly if the call fails or no file has the name
abbrev pub Answers : HeldFiles → List ℕ → Fetched → Type 0
Answers s name (Bytes given) = (next_fails s ≡ false) × (file_named s.files name ≡ Some given.items) × (length given.items ≤ 8388608)
Answers s name Failed = IsTrue (next_fails s || is_none (file_named s.files name))
Answers s name TooLong = (next_fails s ≡ false) × IsSomeAnd (file_named s.files name) (λ bytes. 8388608 < length bytes)
Answers s name Memory = (next_fails s ≡ false) × IsSomeAnd (file_named s.files name) (λ bytes. length bytes ≤ 8388608)

-- the shelf after an answer: one more call, and one more in the answer's count
abbrev pub counted : HeldFiles → Fetched → HeldFiles
counted s (Bytes given) = record s { calls = raised s.calls }
counted s Failed = record s { calls = raised s.calls; faults = raised s.faults }
counted s TooLong = record s { calls = raised s.calls; long_files = raised s.long_files }
counted s Memory = record s { calls = raised s.calls }
