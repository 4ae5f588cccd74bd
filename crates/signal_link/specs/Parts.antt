-- How an unframer holds the bytes of a frame that is not finished.
use Rattle.std.specs.Prelude.{◌≡◌, ◌<◌, ◌≤◌, ◌+◌, ◌*◌, ◌^◌, ℕ, ℤ, List, [], ◌∷◌, ◌++◌, length, take, Bool, true, false, Option, Some, None, slice_get}
use Rattle.std.specs.List.{flat_map, list_all}
use Rattle.byteorder.specs.Endian.{big_bytes}
use Rattle.rte_value.specs.declared.kinds.Limits.{Limits}
use Rattle.rte_value.specs.declared.value.Value.{Value}
use Rattle.rte_value.specs.Values.{words_of}
use Rattle.signal_link.specs.declared.header.Header.{Header}
use Rattle.signal_link.specs.declared.header.Header.TheVariants.{Nothing, Mark, High, Number}
use Rattle.signal_link.specs.declared.link_elem.LinkElem.{LinkElem}
use Rattle.signal_link.specs.declared.part.Part.{Part}
use Rattle.signal_link.specs.declared.part.Part.TheVariants.{InHeader, InWords, Bad}
use Rattle.signal_link.specs.declared.payload.Payload.{Payload}
use Rattle.signal_link.specs.declared.unframer.Found.{Found}
use Rattle.signal_link.specs.declared.unframer.Found.TheVariants.{Whole, More, BadFrame}
use Rattle.signal_link.specs.declared.word_head.WordHead.{WordHead}
use Rattle.signal_link.specs.Frames.{frame, header, word_bytes}
use Rattle.signal_link.specs.Links.{is_link, is_within}
use Rattle.signal_link.specs.Unframing.{IsBeginning, IsGood, Kept}

-- ---- the beginning of a word

pub record IsHead (h : WordHead) : Type 0 where
  pub few : h.count ≤ 8
  pub small : h.number < 256 ^ h.count

abbrev pub empty_head : WordHead
empty_head = record { number = 0; count = 0 }

abbrev pub head_bytes : WordHead → List ℕ
head_bytes h = big_bytes h.count h.number

-- a word within the limits begins with these bytes
pub record IsOpen (l : Limits) (h : WordHead) : Type 0 where
  pub word : ℤ
  pub within : is_within l word ≡ true
  pub is : take h.count (word_bytes word) ≡ head_bytes h

-- ---- the words

abbrev pub payload_bytes : Payload → List ℕ
payload_bytes p = (header p.number p.link.words ++ flat_map word_bytes p.words.items) ++ head_bytes p.head

pub record IsPayload (p : Payload) : Type 0 where
  pub linked : is_link p.link ≡ true
  pub within : list_all (is_within p.link.limits) p.words.items ≡ true
  pub few : length p.words.items ≤ p.link.words
  pub head : IsHead p.head
  pub unfinished : p.head.count < 8
  pub may_end : IsOpen p.link.limits p.head
  pub all : length p.words.items ≡ p.link.words → p.head.count ≡ 0

-- the next byte was taken, or no word within the limits begins so
abbrev pub IsPushed : (old : Payload) → (byte : ℕ) → (new : Payload) → (goes_on : Bool) → Type 0
IsPushed old b new true =
    IsPayload new × (payload_bytes new ≡ payload_bytes old ++ b ∷ []) × (new.number ≡ old.number) × (new.link ≡ old.link)
IsPushed old b new false =
    (h : WordHead) → h.count ≡ old.head.count + 1 → h.number ≡ old.head.number * 256 + b → IsOpen old.link.limits h → ⊥

-- these are all words of the frame
pub record IsValueOf (p : Payload) (v : Value) : Type 0 where
  pub words : words_of v ≡ p.words.items
  pub all : length p.words.items ≡ p.link.words

-- ---- all of it

abbrev pub header_bytes : Header → List ℕ
header_bytes Nothing = []
header_bytes Mark = 0x52 ∷ []
header_bytes (High h) = 0x52 ∷ h ∷ []
header_bytes (Number k) = 0x52 ∷ big_bytes 2 k

abbrev pub IsHeader : List LinkElem → Header → Type 0
IsHeader links Nothing = Unit {0}
IsHeader links Mark = Unit {0}
IsHeader links (High h) = (h < 256) × (h * 256 < length links)
IsHeader links (Number k) = (k < 2 ^ 16) × (k < length links)

pub record IsLinked (links : List LinkElem) (p : Payload) : Type 0 where
  pub numbered : p.number < 2 ^ 16
  pub linked : slice_get links p.number ≡ Some p.link
  pub payload : IsPayload p

-- the bytes of a frame that is not finished; none behind a bad frame
abbrev pub begun_of : Part → Option (List ℕ)
begun_of (InHeader h) = Some (header_bytes h)
begun_of (InWords p) = Some (payload_bytes p)
begun_of Bad = None

-- what stands between feeds: some word is missing
abbrev pub IsPart : List LinkElem → Part → Type 0
IsPart links (InHeader h) = IsHeader links h
IsPart links (InWords p) = IsLinked links p × (length p.words.items < p.link.words)
IsPart links Bad = Unit {0}

-- the part stands for these bytes, of which all may have come
abbrev pub IsNext : List LinkElem → (bytes : List ℕ) → Part → Type 0
IsNext links bytes (InHeader h) = IsHeader links h × (header_bytes h ≡ bytes)
IsNext links bytes (InWords p) = IsLinked links p × (payload_bytes p ≡ bytes)
IsNext links bytes Bad = IsBeginning links bytes → ⊥

-- the part stands for these bytes, and the answer tells what they show; behind a whole frame it stands for nothing
abbrev pub IsFound : List LinkElem → (bytes : List ℕ) → Found → Part → Type 0
IsFound links bytes (Whole k v) after = IsGood links k (words_of v) × (bytes ≡ frame k (words_of v)) × (after ≡ InHeader Nothing)
IsFound links bytes More after = IsPart links after × (begun_of after ≡ Some bytes)
IsFound links bytes BadFrame after = (IsBeginning links bytes → ⊥) × (after ≡ Bad)

abbrev pub kept_of : List LinkElem → Part → Kept
kept_of links part = record { links = links; begun = begun_of part }
