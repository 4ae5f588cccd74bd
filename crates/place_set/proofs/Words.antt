-- Bits of a word, and of words.
use Rattle.std.proofs.Common.{◌≡◌, ℕ, ◌<◌, ◌≤◌, ◌+◌, ◌-◌, ◌*◌, ◌/◌, ◌%◌, ◌^◌, ◌==◌, max, List, length, true, false, get_or, set, Option, Some, None, sym, ap, ◌∙◌, arith, inl, inr, w64}
use Rattle.std.proofs.Common.{shr-shr, get_or-set_same, get_or-set_other}
use Rattle.std.proofs.lemmas.Bool.{cases_eq, cases_lt}
use Rattle.std.proofs.lemmas.List.{get_or_past}
use Rattle.std.proofs.lemmas.Nat.Bits.{bit_at-zero, bit_at_above, bit_at-trailing_zeros}
use Rattle.std.specs.Int.{bit_at, trailing_zeros}
use Rattle.place_set.specs.Bits.{bit_of, IsFirstOfWord, IsFirstBit, IsSummary}

-- what is shifted down has the bits from there on
shifted : (word from place : ℕ) → from ≤ place → bit_at (word / 2 ^ from) (place - from) ≡ bit_at word place
shifted word from place after =
    let whole : from + (place - from) ≡ place = omega arith in
    ap (λ x. x % 2) (shr-shr word from (place - from)) ∙ ap (λ at. bit_at word at) whole

pub none_left : (word from : ℕ) → word / 2 ^ from ≡ 0 → (place : ℕ) → from ≤ place → bit_at word place ≡ 0
none_left word from empty place after = sym (shifted word from place after) ∙ ap (λ x. bit_at x (place - from)) empty ∙ bit_at-zero (place - from)

pub first_left : (word from : ℕ) → word < 2 ^ 64 → 0 < word / 2 ^ from → word / 2 ^ from < 2 ^ 64
    → IsFirstOfWord word from (Some (from + trailing_zeros w64 (word / 2 ^ from)))
first_left word from fits some small =
    let zeros : ℕ = trailing_zeros w64 (word / 2 ^ from) in
    let lowest = bit_at-trailing_zeros w64 (word / 2 ^ from) some small in
    let back : from + zeros - from ≡ zeros = omega arith in
    let chosen : bit_at word (from + zeros) ≡ 1 = sym (shifted word from (from + zeros) (omega arith)) ∙ ap (λ at. bit_at (word / 2 ^ from) at) back ∙ lowest.1 in (
      omega arith,
      elim (cases_lt (from + zeros) 64) [ inl within ↦ within | inr beyond ↦ absurd (let none = bit_at_above word 64 (from + zeros) fits beyond in omega arith) ],
      chosen,
      λ place after before. sym (shifted word from place after) ∙ lowest.2 (place - from) (omega arith),
    )

-- a bit where its word and its place within that are known
pub clear_at : (words : List ℕ) (place word at : ℕ) → word * 64 + at ≡ place → at < 64 → bit_at (get_or words word 0) at ≡ 0 → bit_of words place ≡ false
unfolding bit_of
clear_at words place word at is small zero =
    let block : place / 64 ≡ word = omega arith in
    let rest : place % 64 ≡ at = omega arith in
    ap (λ i. bit_at (get_or words i 0) (place % 64) == 1) block ∙ ap (λ i. bit_at (get_or words word 0) i == 1) rest ∙ ap (λ b. b == 1) zero

pub set_at : (words : List ℕ) (place word at : ℕ) → word * 64 + at ≡ place → at < 64 → bit_at (get_or words word 0) at ≡ 1 → bit_of words place ≡ true
unfolding bit_of
set_at words place word at is small one =
    let block : place / 64 ≡ word = omega arith in
    let rest : place % 64 ≡ at = omega arith in
    ap (λ i. bit_at (get_or words i 0) (place % 64) == 1) block ∙ ap (λ i. bit_at (get_or words word 0) i == 1) rest ∙ ap (λ b. b == 1) one

-- no bit of an empty word is set, and none past the end
pub clear_word : (words : List ℕ) (place word : ℕ) → place / 64 ≡ word → get_or words word 0 ≡ 0 → bit_of words place ≡ false
clear_word words place word is zero =
    clear_at words place word (place % 64) (omega arith) (omega arith) (ap (λ x. bit_at x (place % 64)) zero ∙ bit_at-zero (place % 64))

pub clear_past : (words : List ℕ) (place : ℕ) → length words * 64 ≤ place → bit_of words place ≡ false
clear_past words place past = clear_word words place (place / 64) (omega arith) (get_or_past words (place / 64) 0 (omega arith))

-- a bit that is set keeps its word from being empty
some_in : (words : List ℕ) (place : ℕ) → bit_of words place ≡ true → 0 < get_or words (place / 64) 0
some_in words place is = elim (cases_lt 0 (get_or words (place / 64) 0)) [
  | inl some ↦ some
  | inr none ↦ absurd (let clear : bit_of words place ≡ false = clear_word words place (place / 64) (omega arith) (omega arith) in grind (arith, clear, is))
]

-- a word of which one bit was changed
module _ (words : List ℕ) (place word : ℕ) (within : place / 64 < length words) where
  pub other_bits : ((at : ℕ) → at < 64 → (at ≡ place % 64 → ⊥) → bit_at word at ≡ bit_at (get_or words (place / 64) 0) at)
      → (other : ℕ) → (other ≡ place → ⊥) → bit_of (set words (place / 64) word) other ≡ bit_of words other
  unfolding bit_of
  other_bits alike other apart = elim (cases_eq (other / 64) (place / 64)) [
    | inl same ↦
        ap (λ i. bit_at (get_or (set words (place / 64) word) i 0) (other % 64) == 1) same
        ∙ ap (λ x. bit_at x (other % 64) == 1) (get_or-set_same words (place / 64) word 0 within)
        ∙ ap (λ b. b == 1) (alike (other % 64) (omega arith) (λ even. apart (omega arith)))
        ∙ sym (ap (λ i. bit_at (get_or words i 0) (other % 64) == 1) same)
    | inr differs ↦ ap (λ x. bit_at x (other % 64) == 1) (get_or-set_other words (place / 64) (other / 64) word 0 differs)
  ]

  pub bit_here : (bit : ℕ) → bit_at word (place % 64) ≡ bit → bit_of (set words (place / 64) word) place ≡ (bit == 1)
  unfolding bit_of
  bit_here bit is = ap (λ x. bit_at x (place % 64) == 1) (get_or-set_same words (place / 64) word 0 within) ∙ ap (λ b. b == 1) is

-- the first bit in words of which none before is set
pub first_in : (words : List ℕ) (from word behind at : ℕ) → word * 64 + behind ≡ max from (word * 64)
    → ((place : ℕ) → from ≤ place → place < word * 64 → bit_of words place ≡ false) → IsFirstOfWord (get_or words word 0) behind (Some at) → IsFirstBit words from (Some (word * 64 + at))
first_in words from word behind at is none first = (
  let after = first.0 in omega arith,
  set_at words (word * 64 + at) word at (omega arith) first.1 first.2,
  λ place after before. elim (cases_lt place (word * 64)) [
    | inl low ↦ none place after low
    | inr high ↦ let small = first.1 in clear_at words place word (place - word * 64) (omega arith) (omega arith) (first.3 (place - word * 64) (omega arith) (omega arith))
  ],
)

pub none_in : (words : List ℕ) (from word behind : ℕ) → word * 64 + behind ≡ max from (word * 64)
    → ((place : ℕ) → from ≤ place → place < word * 64 → bit_of words place ≡ false) → IsFirstOfWord (get_or words word 0) behind None
    → (place : ℕ) → from ≤ place → place < word * 64 + 64 → bit_of words place ≡ false
none_in words from word behind is none rest place after before = elim (cases_lt place (word * 64)) [
  | inl low ↦ none place after low
  | inr high ↦ clear_at words place word (place - word * 64) (omega arith) (omega arith) (rest (place - word * 64) (omega arith) (omega arith))
]

-- words whose summary has no bit
pub none_marked : (len : ℕ) (words summary : List ℕ) → IsSummary len words summary → (from to : ℕ)
    → ((word : ℕ) → from ≤ word → word < to → bit_of summary word ≡ false) → (place : ℕ) → from * 64 ≤ place → place < to * 64 → bit_of words place ≡ false
none_marked len words summary s from to none place after before = elim (cases_lt (place / 64) (length words)) [
  | inl inside ↦ clear_word words place (place / 64) (omega arith) (s.none (place / 64) inside (none (place / 64) (omega arith) (omega arith)))
  | inr beyond ↦ clear_past words place (omega arith)
]

-- words of which one bit was set, or cleared
pub set_in : (len : ℕ) (old new summary marked : List ℕ) (place : ℕ) → IsSummary len old summary → length new ≡ length old → length marked ≡ length summary
    → bit_of new place ≡ true → ((word : ℕ) → (word ≡ place / 64 → ⊥) → get_or new word 0 ≡ get_or old word 0)
    → bit_of marked (place / 64) ≡ true → ((other : ℕ) → (other ≡ place / 64 → ⊥) → bit_of marked other ≡ bit_of summary other)
    → IsSummary len new marked
set_in len old new summary marked place s count marks chosen words here others =
    let old_count = s.count in
    let old_marks = s.marks in
    record {
      count = omega arith;
      marks = omega arith;
      some = λ word inside is. elim (cases_eq word (place / 64)) [
        | inl same ↦ rw same (some_in new place chosen)
        | inr apart ↦ let kept : 0 < get_or old word 0 = s.some word (omega arith) (sym (others word apart) ∙ is) in omega (arith, words word apart)
      ];
      none = λ word inside is. elim (cases_eq word (place / 64)) [
        | inl same ↦ absurd (let marked_here : bit_of marked word ≡ true = ap (bit_of marked) same ∙ here in grind (arith, marked_here, is))
        | inr apart ↦ words word apart ∙ s.none word (omega arith) (sym (others word apart) ∙ is)
      ];
    }

pub cleared_in : (len : ℕ) (old new summary marked : List ℕ) (place : ℕ) → IsSummary len old summary → length new ≡ length old → length marked ≡ length summary
    → get_or new (place / 64) 0 ≡ 0 → ((word : ℕ) → (word ≡ place / 64 → ⊥) → get_or new word 0 ≡ get_or old word 0)
    → bit_of marked (place / 64) ≡ false → ((other : ℕ) → (other ≡ place / 64 → ⊥) → bit_of marked other ≡ bit_of summary other)
    → IsSummary len new marked
cleared_in len old new summary marked place s count marks empty words here others =
    let old_count = s.count in
    let old_marks = s.marks in
    record {
      count = omega arith;
      marks = omega arith;
      some = λ word inside is. elim (cases_eq word (place / 64)) [
        | inl same ↦ absurd (let marked_here : bit_of marked word ≡ false = ap (bit_of marked) same ∙ here in grind (arith, marked_here, is))
        | inr apart ↦ let kept : 0 < get_or old word 0 = s.some word (omega arith) (sym (others word apart) ∙ is) in omega (arith, words word apart)
      ];
      none = λ word inside is. elim (cases_eq word (place / 64)) [
        | inl same ↦ ap (λ i. get_or new i 0) same ∙ empty
        | inr apart ↦ words word apart ∙ s.none word (omega arith) (sym (others word apart) ∙ is)
      ];
    }

-- words of which one bit was cleared beside others of its word
pub left_in : (len : ℕ) (old new summary : List ℕ) (place : ℕ) → IsSummary len old summary → length new ≡ length old
    → 0 < get_or new (place / 64) 0 → get_or new (place / 64) 0 ≤ get_or old (place / 64) 0
    → ((word : ℕ) → (word ≡ place / 64 → ⊥) → get_or new word 0 ≡ get_or old word 0) → IsSummary len new summary
left_in len old new summary place s count some less words =
    let old_count = s.count in
    record {
      count = omega arith;
      marks = s.marks ∙ ap (λ n. n / 64 + 1) (sym count);
      some = λ word inside is. elim (cases_eq word (place / 64)) [
        | inl same ↦ rw same some
        | inr apart ↦ let kept : 0 < get_or old word 0 = s.some word (omega arith) is in omega (arith, words word apart)
      ];
      none = λ word inside is. elim (cases_eq word (place / 64)) [
        | inl same ↦ absurd (let old_zero : get_or old (place / 64) 0 ≡ 0 = sym (ap (λ i. get_or old i 0) same) ∙ s.none word (omega arith) is in omega arith)
        | inr apart ↦ words word apart ∙ s.none word (omega arith) is
      ];
    }

-- the first bit, from a place before which there is none
pub beyond : (words : List ℕ) (from to : ℕ) (result : Option ℕ) → from ≤ to → ((place : ℕ) → from ≤ place → place < to → bit_of words place ≡ false)
    → IsFirstBit words to result → IsFirstBit words from result
beyond words from to None order none rest =
    λ place after. elim (cases_lt place to) [ inl low ↦ none place after low | inr high ↦ rest place high ]
beyond words from to (Some at) order none first = (
  let after = first.0 in omega arith,
  first.1,
  λ place after before. elim (cases_lt place to) [ inl low ↦ none place after low | inr high ↦ first.2 place high before ],
)
