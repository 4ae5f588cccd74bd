-- What a shelf's answer to `fetch` says.
use Rattle.std.specs.Prelude.{◌≡◌, ℕ, ◌<◌, List, length, Option, Some, None, IfSome, IsSomeAnd}
use Rattle.rte_text.specs.Counts.{Rose}
use Rattle.rte_text.specs.declared.shelf.Fetched.{Fetched}
use Rattle.rte_text.specs.declared.shelf.Fetched.TheVariants.{Bytes, Failed, TooLong, Memory}

-- the files of a shelf that tells them: for each name the bytes held, if any; None if the shelf does not tell
abbrev pub ToldFiles : Type 0
ToldFiles = Option (List ℕ → Option (List ℕ))

-- of the bytes, if the answer has them
abbrev pub IfBytes : Fetched → (List ℕ → Type 0) → Type 0
IfBytes (Bytes given) P = P given.items
IfBytes Failed P = Unit {0}
IfBytes TooLong P = Unit {0}
IfBytes Memory P = Unit {0}

-- if the answer is that the file is too long
abbrev pub OnTooLong : Fetched → Type 0 → Type 0
OnTooLong (Bytes given) P = Unit {0}
OnTooLong Failed P = Unit {0}
OnTooLong TooLong P = P
OnTooLong Memory P = Unit {0}

-- the answer is a fault
abbrev pub IsFailed : Fetched → Type 0
IsFailed (Bytes given) = ⊥
IsFailed Failed = Unit {0}
IsFailed TooLong = ⊥
IsFailed Memory = ⊥

-- a fault raises the count of faults, and every other answer leaves it
abbrev pub FaultsAfter : Fetched → ℕ → ℕ → Type 0
FaultsAfter (Bytes given) before after = after ≡ before
FaultsAfter Failed before after = Rose before after
FaultsAfter TooLong before after = after ≡ before
FaultsAfter Memory before after = after ≡ before

-- a file that is too long raises the count of long files, and every other answer leaves it
abbrev pub LongFilesAfter : Fetched → ℕ → ℕ → Type 0
LongFilesAfter (Bytes given) before after = after ≡ before
LongFilesAfter Failed before after = after ≡ before
LongFilesAfter TooLong before after = Rose before after
LongFilesAfter Memory before after = after ≡ before

-- if the files are told, these bytes are held under this name
abbrev pub HeldWhereTold : ToldFiles → List ℕ → List ℕ → Type 0
HeldWhereTold files name bytes = IfSome files (λ held. held name ≡ Some bytes)

-- if the files are told, the file of this name is longer than the limit
abbrev pub LongWhereTold : ToldFiles → List ℕ → Type 0
LongWhereTold files name = IfSome files (λ held. IsSomeAnd (held name) (λ bytes. 8388608 < length bytes))

-- if the files are told and none has this name, the answer is a fault
abbrev pub FailsWhereMissing : ToldFiles → List ℕ → Fetched → Type 0
FailsWhereMissing files name answer = IfSome files (λ held. held name ≡ None → IsFailed answer)

-- the two counts of a shelf
pub record ShelfCounts : Type 0 where
  pub faults : ℕ
  pub long_files : ℕ
