-- Feeds one after the other.
use Rattle.std.specs.Prelude.{◌≡◌, ℕ, List, [], ◌∷◌, take}
use Rattle.std.specs.List.{flat_map}
use Rattle.signal_link.specs.declared.unframer.Fed.{Fed}
use Rattle.signal_link.specs.declared.unframer.Found.{Found}
use Rattle.signal_link.specs.Frames.{Pair}
use Rattle.signal_link.specs.Unframing.{Kept, Finds, used_by, after_feed, given}

-- a feed of a piece: what was used of it, and what was found
pub record Feed : Type 0 where
  pub piece : List ℕ
  pub used : ℕ
  pub found : Found

abbrev pub feed_of : (piece : List ℕ) → Fed → Feed
feed_of piece fed = record { piece = piece; used = fed.used; found = fed.found }

-- the feed answers so and leaves this
pub record IsFed (u : Kept) (f : Feed) (after : Kept) : Type 0 where
  pub found : Finds u f.piece f.found
  pub used : f.used ≡ used_by u f.piece f.found
  pub kept : after ≡ after_feed u f.piece f.found

-- the feeds come one after the other, the first of the list first
abbrev pub AreFed : Kept → List Feed → Kept → Type 0
AreFed u [] after = after ≡ u
AreFed u (f ∷ fs) after = (between : Kept) × IsFed u f between × AreFed between fs after

abbrev pub all_used : List Feed → List ℕ
all_used fs = flat_map (λ (f : Feed). take f.used f.piece) fs

abbrev pub all_given : List Feed → List Pair
all_given fs = flat_map (λ (f : Feed). given f.found) fs
