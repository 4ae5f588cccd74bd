-- What a link's answers say of the bytes on the way and of the count of faults.
use Rattle.std.specs.Prelude.{◌≡◌, ◌≤◌, ◌<◌, ℕ, List, [], ◌++◌, length, take, drop, Bool, false}
use Rattle.rte_text.specs.Counts.{Rose}
use Rattle.signal_link.specs.declared.link.Sent.{Sent}
use Rattle.signal_link.specs.declared.link.Sent.TheVariants as sent
use Rattle.signal_link.specs.declared.link.Got.{Got}
use Rattle.signal_link.specs.declared.link.Got.TheVariants as got

-- the first n bytes of the piece went behind those on the way
pub record IsTaken (n : ℕ) (before after piece : List ℕ) : Type 0 where
  pub within : n ≤ length piece
  pub way : after ≡ before ++ take n piece
  pub moves : 0 < length piece → before ≡ [] → 0 < n

abbrev pub SentAfter : Sent → (before after piece : List ℕ) → Type 0
SentAfter (sent.Took n) before after piece = IsTaken n before after piece
SentAfter sent.Failed before after piece = after ≡ before

abbrev pub SendFaults : Sent → (before after : ℕ) → Type 0
SendFaults (sent.Took n) before after = after ≡ before
SendFaults sent.Failed before after = Rose before after

-- it fails only if it may fail
abbrev pub MayFailToSend : Sent → (never : Bool) → Type 0
MayFailToSend (sent.Took n) never = Unit {0}
MayFailToSend sent.Failed never = never ≡ false

-- the first n bytes on the way went into the beginning of the room
pub record IsGiven (n : ℕ) (before after old filled : List ℕ) : Type 0 where
  pub within : n ≤ length old
  pub there : n ≤ length before
  pub room : filled ≡ take n before ++ drop n old
  pub way : after ≡ drop n before
  pub moves : 0 < length old → 0 < length before → 0 < n

abbrev pub GotAfter : Got → (before after room filled : List ℕ) → Type 0
GotAfter (got.Gave n) before after room filled = IsGiven n before after room filled
GotAfter got.Failed before after room filled = (after ≡ before) × (filled ≡ room)

abbrev pub ReceiveFaults : Got → (before after : ℕ) → Type 0
ReceiveFaults (got.Gave n) before after = after ≡ before
ReceiveFaults got.Failed before after = Rose before after

abbrev pub MayFailToReceive : Got → (never : Bool) → Type 0
MayFailToReceive (got.Gave n) never = Unit {0}
MayFailToReceive got.Failed never = never ≡ false
