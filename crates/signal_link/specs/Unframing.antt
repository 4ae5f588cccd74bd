-- The values in a stream of frames, and what an unframer keeps of it.
use Rattle.std.specs.Prelude.{◌≡◌, ◌<◌, ◌-◌, ◌^◌, ℕ, ℤ, List, [], ◌∷◌, ◌++◌, length, true, Option, Some, None, slice_get}
use Rattle.std.specs.List.{AllByRecursion}
use Rattle.std.specs.Option.{option_map, option_map_or}
use Rattle.rte_value.specs.Values.{words_of}
use Rattle.signal_link.specs.declared.link_elem.LinkElem.{LinkElem}
use Rattle.signal_link.specs.declared.unframer.Found.{Found}
use Rattle.signal_link.specs.declared.unframer.Found.TheVariants.{Whole, More, BadFrame}
use Rattle.signal_link.specs.Links.{takes}
use Rattle.signal_link.specs.Frames.{Pair, frame, frames}

-- the frame of these words for this link is a good one: the link takes them
pub record IsGood (links : List LinkElem) (k : ℕ) (ws : List ℤ) : Type 0 where
  pub link : LinkElem
  pub linked : slice_get links k ≡ Some link
  pub numbered : k < 2 ^ 16
  pub taken : takes link ws ≡ true

-- the bytes begin with a good frame
pub record BeginsWithFrame (links : List LinkElem) (bytes : List ℕ) : Type 0 where
  pub link : ℕ
  pub words : List ℤ
  pub after : List ℕ
  pub good : IsGood links link words
  pub is : bytes ≡ frame link words ++ after

-- a good frame begins with the bytes
pub record IsBeginning (links : List LinkElem) (bytes : List ℕ) : Type 0 where
  pub link : ℕ
  pub words : List ℤ
  pub missing : List ℕ
  pub good : IsGood links link words
  pub is : frame link words ≡ bytes ++ missing

-- the values of the good frames at the beginning of the bytes, as many as there are, and what stands behind these frames
pub record IsFrames (links : List LinkElem) (bytes : List ℕ) (pairs : List Pair) (rest : List ℕ) : Type 0 where
  pub good : AllByRecursion (λ (p : Pair). IsGood links p.0 p.1) pairs
  pub is : bytes ≡ frames pairs ++ rest
  pub no_more : BeginsWithFrame links rest → ⊥

-- ---- what an unframer keeps

pub record Kept : Type 0 where
  pub links : List LinkElem
  -- the bytes of a frame that is not finished; none behind a bad frame
  pub begun : Option (List ℕ)

abbrev pub fresh : List LinkElem → Kept
fresh links = record { links = links; begun = Some [] }

-- the bytes are kept while a good frame may begin with them
abbrev pub Keeps : List LinkElem → (begun : Option (List ℕ)) → (rest : List ℕ) → Type 0
Keeps links None rest = IsBeginning links rest → ⊥
Keeps links (Some kept) rest = (kept ≡ rest) × IsBeginning links rest

-- the unframer was fed these bytes, of which it gave these values
pub record StandsFor (u : Kept) (bytes : List ℕ) (pairs : List Pair) : Type 0 where
  pub rest : List ℕ
  pub frames : IsFrames u.links bytes pairs rest
  pub kept : Keeps u.links u.begun rest

-- ---- what a feed finds

-- what bytes that no good frame ends before show: the value of the good frame that they begin with; that more may make them one; or
-- that nothing ever does
abbrev pub Shows : List LinkElem → (bytes : List ℕ) → Found → Type 0
Shows links bytes (Whole k v) = (after : List ℕ) × IsGood links k (words_of v) × (bytes ≡ frame k (words_of v) ++ after)
Shows links bytes More = IsBeginning links bytes × (BeginsWithFrame links bytes → ⊥)
Shows links bytes BadFrame = (IsBeginning links bytes → ⊥) × (BeginsWithFrame links bytes → ⊥)

-- it looks at the bytes that are kept and then the piece; behind a bad frame all is bad
abbrev pub Finds : Kept → (piece : List ℕ) → Found → Type 0
Finds u piece found = by_begun u.begun
  where
    by_begun : Option (List ℕ) → Type 0
    by_begun None = found ≡ BadFrame
    by_begun (Some kept) = Shows u.links (kept ++ piece) found

-- how much of the piece a feed uses: what is missing of a whole frame, else all of it
abbrev pub used_by : Kept → (piece : List ℕ) → Found → ℕ
used_by u piece (Whole k v) = length (frame k (words_of v)) - option_map_or length u.begun 0
used_by u piece More = length piece
used_by u piece BadFrame = length piece

-- what is kept after a feed: nothing of a whole frame, all of one that is not finished, and of a bad one that it came
abbrev pub after_feed : Kept → (piece : List ℕ) → Found → Kept
after_feed u piece (Whole k v) = record { links = u.links; begun = Some [] }
after_feed u piece More = record { links = u.links; begun = option_map (λ kept. kept ++ piece) u.begun }
after_feed u piece BadFrame = record { links = u.links; begun = None }

-- the value that a feed gives
abbrev pub given : Found → List Pair
given (Whole k v) = (k, words_of v) ∷ []
given More = []
given BadFrame = []
