-- Flags as the first bits of words.
use Rattle.std.proofs.Common.{◌≡◌, ℕ, ◌<◌, ◌≤◌, List, length, Bool, false, get_or, set, replicate, sym, ap, ◌∙◌, arith, inl, inr, Some, None, ext_get_or, get_or-set_same, get_or-set_other, length-set}
use Rattle.std.proofs.lemmas.Bool.{cases_eq}
use Rattle.std.proofs.lemmas.List.{get_or_past, get_or-replicate, length-replicate}
use Rattle.std.proofs.lemmas.List.FromFn.{length-map-range_with_len, get_or-map-range_with_len}
use Rattle.place_set.specs.Bits.{bit_of, flags_of, IsFirstBit}
use Rattle.place_set.specs.Places.{IsNext}

pub length_of : (words : List ℕ) (len : ℕ) → length (flags_of words len) ≡ len
unfolding flags_of
length_of words len = length-map-range_with_len (bit_of words) 0 len

pub flag_at : (words : List ℕ) (len place : ℕ) → place < len → get_or (flags_of words len) place false ≡ bit_of words place
unfolding flags_of
flag_at words len place within = get_or-map-range_with_len (bit_of words) 0 len place place false within (omega arith)

pub flag_past : (words : List ℕ) (len place : ℕ) → len ≤ place → get_or (flags_of words len) place false ≡ false
flag_past words len place past = get_or_past (flags_of words len) place false (omega (arith, length_of words len))

-- flags that are all alike
pub all_alike : (words : List ℕ) (len : ℕ) (flag : Bool) → ((place : ℕ) → place < len → bit_of words place ≡ flag) → flags_of words len ≡ replicate len flag
all_alike words len flag alike =
    ext_get_or false _ _ (length_of words len ∙ sym (length-replicate len flag))
    (λ i within. let small : i < len = omega (arith, length_of words len) in flag_at words len i small ∙ alike i small ∙ sym (get_or-replicate len i flag false small))

-- flags of which one was changed
pub changed : (old new : List ℕ) (len place : ℕ) (flag : Bool) → place < len → bit_of new place ≡ flag
    → ((other : ℕ) → (other ≡ place → ⊥) → bit_of new other ≡ bit_of old other) → flags_of new len ≡ set (flags_of old len) place flag
changed old new len place flag within here others =
    let count : length (flags_of old len) ≡ len = length_of old len in
    ext_get_or false _ _ (length_of new len ∙ sym (length-set (flags_of old len) place flag ∙ count))
    (λ i inside. let small : i < len = omega (arith, length_of new len) in flag_at new len i small ∙ elim (cases_eq i place) [
      | inl same ↦ ap (bit_of new) same ∙ here ∙ sym (ap (λ k. get_or (set (flags_of old len) place flag) k false) same ∙ get_or-set_same (flags_of old len) place flag false (omega arith))
      | inr apart ↦ others i apart ∙ sym (get_or-set_other (flags_of old len) place i flag false apart ∙ flag_at old len i small)
    ])

-- the first bit is the first flag, if there are so many
pub first_flag : (words : List ℕ) (len from at : ℕ) → at < len → IsFirstBit words from (Some at) → IsNext (flags_of words len) from (length (flags_of words len)) (Some at)
first_flag words len from at within first =
    record {
      behind = first.0;
      within = omega (arith, length_of words len);
      chosen = flag_at words len at within ∙ first.1;
      none = λ place after before. flag_at words len place (omega arith) ∙ first.2 place after before;
    }

pub no_flag : (words : List ℕ) (len from : ℕ) → ((place : ℕ) → from ≤ place → place < len → bit_of words place ≡ false) → IsNext (flags_of words len) from (length (flags_of words len)) None
no_flag words len from none place after before =
    let small : place < len = omega (arith, length_of words len) in flag_at words len place small ∙ none place after small
