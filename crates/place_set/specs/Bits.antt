-- Bits in words of 64, and what is known of a word.
use Rattle.std.specs.Prelude.{◌≡◌, ℕ, ◌+◌, ◌*◌, ◌/◌, ◌%◌, ◌^◌, ◌<◌, ◌≤◌, ◌==◌, List, length, map, Bool, true, false, slice_index_or, Option, Some, None}
use Rattle.std.specs.Int.{bit_at}
use Rattle.std.specs.List.{range_with_len}

-- whether a bit is set
unfoldable pub bit_of : List ℕ → ℕ → Bool
bit_of words place = bit_at (slice_index_or words (place / 64) 0) (place % 64) == 1

-- the flags for which the first bits stand, so many
unfoldable pub flags_of : List ℕ → ℕ → List Bool
flags_of words len = map (bit_of words) (range_with_len 0 len)

-- the first bit of a word that is set and not before a place
abbrev pub IsFirstOfWord : (word : ℕ) → (from : ℕ) → Option ℕ → Type 0
IsFirstOfWord word from None = (place : ℕ) → from ≤ place → place < 64 → bit_at word place ≡ 0
IsFirstOfWord word from (Some at) = (from ≤ at) × (at < 64) × (bit_at word at ≡ 1) × ((place : ℕ) → from ≤ place → place < at → bit_at word place ≡ 0)

-- the first bit that is set and not before a place
abbrev pub IsFirstBit : (words : List ℕ) → (from : ℕ) → Option ℕ → Type 0
IsFirstBit words from None = (place : ℕ) → from ≤ place → bit_of words place ≡ false
IsFirstBit words from (Some at) = (from ≤ at) × (bit_of words at ≡ true) × ((place : ℕ) → from ≤ place → place < at → bit_of words place ≡ false)

-- the places of so many words have numbers of 64 bits
abbrev pub HasPlaces : List ℕ → Type 0
HasPlaces words = length words * 64 ≤ 2 ^ 64

-- a word for each 64 places, and one for what is left; a bit for each word, which is set if one of the word's bits is
pub record IsSummary (len : ℕ) (words summary : List ℕ) : Type 0 where
  pub count : length words ≡ len / 64 + 1
  pub marks : length summary ≡ length words / 64 + 1
  pub some : (word : ℕ) → word < length words → bit_of summary word ≡ true → 0 < slice_index_or words word 0
  pub none : (word : ℕ) → word < length words → bit_of summary word ≡ false → slice_index_or words word 0 ≡ 0
