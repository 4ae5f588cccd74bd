-- What a feed answers, by the bytes at which it ends.
use Rattle.std.proofs.Common.{◌≡◌, ◌≤◌, ◌<◌, ℕ, ◌+◌, List, [], ◌∷◌, ◌++◌, length, take, drop, get_or, Option, Some, None, is_none, false, true≢false, refl, sym, ap, ◌∙◌, ◌⊎◌, inl, inr}
use Rattle.std.proofs.Common.{arith, subst, append_assoc, length-append}
use Rattle.std.proofs.lemmas.List.{length-take-le, take-append-drop, take_more}
use Rattle.rte_value.specs.declared.value.Value.{Value}
use Rattle.rte_value.specs.Values.{words_of}
use Rattle.signal_link.specs.Common.{LinkElem, Found, Whole, More, BadFrame, Feed, IsFed, frame, BeginsWithFrame, IsBeginning, IsGood, Kept}
use Rattle.signal_link.proofs.Beginnings.{IsCut, earlier, no_frame_in_a_cut}
use Rattle.signal_link.proofs.Prefixes.{shorter}

-- the bytes kept, and those of a piece up to one
abbrev pub up_to : (kept piece : List ℕ) (at : ℕ) → List ℕ
up_to kept piece at = (kept ++ take at piece) ++ get_or piece at 0 ∷ []

all_of : (kept piece : List ℕ) (at : ℕ) → at < length piece → kept ++ piece ≡ up_to kept piece at ++ drop (at + 1) piece
all_of kept piece at within =
    ap (λ (l : List ℕ). kept ++ l)
    (sym (take-append-drop (at + 1) piece) ∙ ap (λ (l : List ℕ). l ++ drop (at + 1) piece) (take_more piece at 0 within))
    ∙ sym (append_assoc kept (take at piece ++ get_or piece at 0 ∷ []) (drop (at + 1) piece))
    ∙ ap (λ (l : List ℕ). l ++ drop (at + 1) piece) (sym (append_assoc kept (take at piece) (get_or piece at 0 ∷ [])))

-- the bytes up to the next one
pub next_byte : (kept piece : List ℕ) (at : ℕ) → at < length piece → up_to kept piece at ≡ kept ++ take (at + 1) piece
next_byte kept piece at within =
    append_assoc kept (take at piece) (get_or piece at 0 ∷ []) ∙ ap (λ (l : List ℕ). kept ++ l) (sym (take_more piece at 0 within))

pub some_of : (o : Option (List ℕ)) → is_none o ≡ false → (l : List ℕ) × (o ≡ Some l)
some_of None e = absurd (true≢false e)
some_of (Some l) e = (l, refl)

long : (kept piece : List ℕ) (at : ℕ) → at < length piece → length (up_to kept piece at) ≡ length kept + (at + 1)
long kept piece at within =
    let a = length-append (kept ++ take at piece) (get_or piece at 0 ∷ []) in
    let b = length-append kept (take at piece) in
    let t = length-take-le at piece (omega arith) in
    omega (arith, a, b, t)

abbrev pub kept_as : List LinkElem → Option (List ℕ) → Kept
kept_as links begun = record { links = links; begun = begun }

abbrev pub fed_as : (piece : List ℕ) → (used : ℕ) → Found → Feed
fed_as piece used found = record { piece = piece; used = used; found = found }

split_at : (a b c : ℕ) → a ≡ c + 1 → (a ≤ b) ⊎ (b ≤ c)
split_at a b c e = grind arith

module _ (links : List LinkElem) (init : List ℕ) (b : ℕ) (after : List ℕ) (cut : IsCut links init)
    (hopeless : IsBeginning links (init ++ b ∷ []) → ⊥) (whole : BeginsWithFrame links ((init ++ b ∷ []) ++ after)) where
  by_length : (length (init ++ b ∷ []) ≤ length (frame whole.link whole.words)) ⊎ (length (frame whole.link whole.words) ≤ length init) → ⊥
  by_length (inl short) =
      hopeless (record {
        link = whole.link;
        words = whole.words;
        missing = drop (length (init ++ b ∷ [])) (frame whole.link whole.words);
        good = whole.good;
        is = shorter (init ++ b ∷ []) after (frame whole.link whole.words) whole.after whole.is short;
      })
  by_length (inr short) =
      let apart : frame whole.link whole.words ++ whole.after ≡ init ++ (b ∷ [] ++ after) = sym whole.is ∙ append_assoc init (b ∷ []) after in
      no_frame_in_a_cut links init cut (record {
        link = whole.link;
        words = whole.words;
        after = drop (length (frame whole.link whole.words)) init;
        good = whole.good;
        is = shorter (frame whole.link whole.words) whole.after init (b ∷ [] ++ after) apart short;
      })

  -- no good frame stands at the beginning of bytes that a cut one and a bad byte begin
  pub no_frame_behind : ⊥
  no_frame_behind =
      let more = length-append init (b ∷ []) in
      by_length (split_at (length (init ++ b ∷ [])) (length (frame whole.link whole.words)) (length init) (omega (arith, more)))

-- ---- the answers

pub fed_more : (links : List LinkElem) (kept piece : List ℕ) → IsCut links (kept ++ piece)
    → IsFed (kept_as links (Some kept)) (fed_as piece (length piece) More) (kept_as links (Some (kept ++ piece)))
fed_more links kept piece cut = record { found = (cut.begins, no_frame_in_a_cut links (kept ++ piece) cut); used = refl; kept = refl }

pub fed_bad : (links : List LinkElem) (kept piece : List ℕ) (at : ℕ) → at < length piece → IsCut links (kept ++ take at piece)
    → (IsBeginning links (up_to kept piece at) → ⊥)
    → IsFed (kept_as links (Some kept)) (fed_as piece (length piece) BadFrame) (kept_as links None)
fed_bad links kept piece at within cut hopeless =
    let all = all_of kept piece at within in
    record {
      found = (
        λ b. hopeless (earlier links (up_to kept piece at) (drop (at + 1) piece) (subst (λ (l : List ℕ). IsBeginning links l) all b)),
        λ w. no_frame_behind links (kept ++ take at piece) (get_or piece at 0) (drop (at + 1) piece) cut hopeless
            (subst (λ (l : List ℕ). BeginsWithFrame links l) all w),
      );
      used = refl;
      kept = refl;
    }

pub fed_whole : (links : List LinkElem) (kept piece : List ℕ) (at k : ℕ) (v : Value) → at < length piece → IsGood links k (words_of v)
    → up_to kept piece at ≡ frame k (words_of v)
    → IsFed (kept_as links (Some kept)) (fed_as piece (at + 1) (Whole k v)) (kept_as links (Some []))
fed_whole links kept piece at k v within good is =
    let count = long kept piece at within in
    let same = ap (λ (l : List ℕ). length l) is in
    record {
      found = (drop (at + 1) piece, good, all_of kept piece at within ∙ ap (λ (l : List ℕ). l ++ drop (at + 1) piece) is);
      used = omega (arith, count, same);
      kept = refl;
    }
