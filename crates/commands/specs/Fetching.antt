-- What the fetches of the files that a command reads say.
use Rattle.std.specs.Prelude.{◌≡◌, ℕ, ◌+◌, ◌<◌, ◌≤◌, ◌^◌, ◌⊎◌, List, [], ◌∷◌, length, slice_get, Some, OnSome}
use Rattle.rte_text.specs.Counts.{Rose, last_count}
use Rattle.rte_text.specs.Shelves.{ToldFiles, HeldWhereTold, LongWhereTold, ShelfCounts}
use Rattle.commands.specs.declared.stop.Stop.{Stop}
use Rattle.commands.specs.declared.stop.Stop.TheVariants as stop
use Rattle.commands.specs.Commands.{Bytes}

-- the two counts of a shelf
abbrev pub counts_of : (faults : ℕ) → (long_files : ℕ) → ShelfCounts
counts_of faults long_files = record { faults = faults; long_files = long_files }

-- the files of these names hold these bytes, if the shelf tells its files
abbrev pub AreHeldWhereTold : ToldFiles → (names : List Bytes) → (files : List Bytes) → Type 0
AreHeldWhereTold told [] [] = Unit {0}
AreHeldWhereTold told (name ∷ names) (file ∷ files) = HeldWhereTold told name file × AreHeldWhereTold told names files
AreHeldWhereTold told names files = ⊥

-- each is within the limit of a file
abbrev pub AreWithin : List Bytes → Type 0
AreWithin [] = Unit {0}
AreWithin (file ∷ files) = (length file ≤ 8388608) × AreWithin files

-- the file of this name was not read: a fault, or it is too long
abbrev pub IsUnread : ToldFiles → (name : Bytes) → ShelfCounts → ShelfCounts → Type 0
IsUnread told name before after = Rose before.faults after.faults ⊎ (Rose before.long_files after.long_files × LongWhereTold told name)

-- the file at this place of the names, counted from 1, was not read
pub record IsUnreadAt (told : ToldFiles) (names : List Bytes) (before after : ShelfCounts) (place : ℕ) : Type 0 where
  pub index : ℕ
  pub place_is : place ≡ index + 1
  pub name : Bytes
  pub name_is : slice_get names index ≡ Some name
  pub unread : IsUnread told name before after

-- one fetch more
abbrev pub IsFetched : ToldFiles → (before : ℕ) → (after : ℕ) → Type 0
IsFetched told before after = OnSome told (before < last_count → after ≡ before + 1)

-- If the files are told, so many fetches were made. Since files are fetched in their order up to the first that cannot be read, this is
-- the place of that one.
abbrev pub AreFetched : ToldFiles → (before : ℕ) → (after : ℕ) → (fetched : ℕ) → Type 0
AreFetched told before after fetched = OnSome told (before < 2 ^ 63 → after ≡ before + fetched)

-- why a file was not fetched
abbrev pub IsUnfetched : ToldFiles → (names : List Bytes) → ShelfCounts → ShelfCounts → (fetches_before : ℕ) → (fetches_after : ℕ) → Stop → Type 0
IsUnfetched told names before after m n (stop.NotRead place) = IsUnreadAt told names before after place × AreFetched told m n place
IsUnfetched told names before after m n stop.Memory = after ≡ before
IsUnfetched told names before after m n stop.Words = ⊥
IsUnfetched told names before after m n (stop.Found finding) = ⊥

-- why the file of one name was not fetched
abbrev pub IsOneUnfetched : ToldFiles → (name : Bytes) → (place : ℕ) → ShelfCounts → ShelfCounts → Stop → Type 0
IsOneUnfetched told name place before after (stop.NotRead n) = (n ≡ place) × IsUnread told name before after
IsOneUnfetched told name place before after stop.Memory = after ≡ before
IsOneUnfetched told name place before after stop.Words = ⊥
IsOneUnfetched told name place before after (stop.Found finding) = ⊥

-- the first files of a list were fetched
pub record AreFetchedSo (told : ToldFiles) (names files : List Bytes) (before after : ShelfCounts) (fetches_before fetches_after : ℕ) : Type 0 where
  pub held : AreHeldWhereTold told names files
  pub within : AreWithin files
  pub counts : after ≡ before
  pub fetched : AreFetched told fetches_before fetches_after (length names)
