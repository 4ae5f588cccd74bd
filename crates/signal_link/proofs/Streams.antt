-- The values of a stream of frames, however it is cut.
use Rattle.std.proofs.Common.{◌≡◌, ◌≤◌, ◌<◌, ℕ, zero, suc, ◌+◌, ◌-◌, ℤ, pos, negsuc, List, [], ◌∷◌, ◌++◌, length, take, drop, get_or, true, ◌&&◌, ◌==◌, Option, Some, None, slice_get, refl}
use Rattle.std.proofs.Common.{sym, ap, ◌∙◌, ◌⊎◌, inl, inr, arith, subst, append_assoc, length-append}
use Rattle.std.proofs.lemmas.Bool.{and_parts}
use Rattle.std.proofs.lemmas.Grind.{flat_map-append}
use Rattle.std.proofs.Math.Seq.{take-append-add}
use Rattle.std.proofs.lemmas.List.{append-nil, take_all, take_at}
use Rattle.std.specs.Int.{w64}
use Rattle.std.specs.Int.RustNames.{FitsSigned, int_le}
use Rattle.std.specs.List.{AllByRecursion, flat_map, list_all}
use Rattle.std.specs.Option.{unwrap_or}
use Rattle.rte_value.specs.EqualValues.{Value-by_words}
use Rattle.rte_value.specs.Values.{words_of}
use Rattle.signal_link.specs.declared.header.Header.TheVariants.{Nothing}
use Rattle.signal_link.specs.Common.{LinkElem, Found, Whole, More, BadFrame, Feed, IsFed, frame, word_bytes, AreLinks, AreOfWords, is_within, BeginsWithFrame, Finds, IsBeginning, IsGood}
use Rattle.signal_link.specs.Common.{Kept, Shows, StandsFor, after_feed, fresh, given}
use Rattle.signal_link.specs.Feeding.{AreFed, all_given, all_used}
use Rattle.signal_link.specs.Frames.{Pair, frames}
use Rattle.signal_link.specs.Links.{is_word}
use Rattle.signal_link.specs.Unframing.{IsFrames, Keeps, used_by}
use Rattle.signal_link.proofs.Beginnings.{cut_header, earlier}
use Rattle.signal_link.proofs.Feeds.{kept_as}
use Rattle.signal_link.proofs.Heads.{fits_between, le_of}
use Rattle.signal_link.proofs.Frames.{length-frame, same_link, same_number, same_words}
use Rattle.signal_link.proofs.Prefixes.{shorter}

-- ---- one feed

-- what no good frame begins stays so
no_frame_later : (links : List LinkElem) (rest more : List ℕ) → (IsBeginning links rest → ⊥) → (BeginsWithFrame links rest → ⊥)
    → BeginsWithFrame links (rest ++ more) → ⊥
no_frame_later links rest more hopeless none whole = by_length (split_le (length rest) (length (frame whole.link whole.words)))
  where
    split_le : (a b : ℕ) → (a ≤ b) ⊎ (b ≤ a)
    split_le a b = grind arith

    by_length : (length rest ≤ length (frame whole.link whole.words)) ⊎ (length (frame whole.link whole.words) ≤ length rest) → ⊥
    by_length (inl short) = hopeless (record {
      link = whole.link;
      words = whole.words;
      missing = drop (length rest) (frame whole.link whole.words);
      good = whole.good;
      is = shorter rest more (frame whole.link whole.words) whole.after whole.is short;
    })
    by_length (inr short) = none (record {
      link = whole.link;
      words = whole.words;
      after = drop (length (frame whole.link whole.words)) rest;
      good = whole.good;
      is = shorter (frame whole.link whole.words) whole.after rest more (sym whole.is) short;
    })

no_frame_in_nothing : (links : List LinkElem) → BeginsWithFrame links [] → ⊥
no_frame_in_nothing links whole =
    let long = length-frame whole.link whole.words in
    let both = length-append (frame whole.link whole.words) whole.after in
    let e : 0 ≡ length (frame whole.link whole.words ++ whole.after) = ap (λ (l : List ℕ). length l) whole.is in
    absurd (omega (arith, long, both, e))

-- the bytes with the piece behind them
with_piece : (links : List LinkElem) (bytes piece : List ℕ) (pairs : List Pair) (rest : List ℕ) → IsFrames links bytes pairs rest
    → (BeginsWithFrame links (rest ++ piece) → ⊥) → IsFrames links (bytes ++ take (length piece) piece) (pairs ++ []) (rest ++ piece)
with_piece links bytes piece pairs rest is none =
    record {
      good = subst (λ (ps : List Pair). AllByRecursion (λ (p : Pair). IsGood links p.0 p.1) ps) (sym (append-nil pairs)) is.good;
      is =
          ap (λ (l : List ℕ). bytes ++ l) (take_all (length piece) piece (omega arith))
          ∙ ap (λ (l : List ℕ). l ++ piece) is.is
          ∙ append_assoc (frames pairs) rest piece
          ∙ ap (λ (ps : List Pair). frames ps ++ (rest ++ piece)) (sym (append-nil pairs));
      no_more = none;
    }

all_good : (links : List LinkElem) (ps qs : List Pair) → AllByRecursion (λ (p : Pair). IsGood links p.0 p.1) ps
    → AllByRecursion (λ (p : Pair). IsGood links p.0 p.1) qs → AllByRecursion (λ (p : Pair). IsGood links p.0 p.1) (ps ++ qs)
all_good links [] qs is also = also
all_good links (p ∷ ps) qs is also = (is.0, all_good links ps qs is.1 also)

-- where the bytes behind the frames begin with a whole one, what is kept is shorter, and the piece has what is missing
with_frame : (links : List LinkElem) (bytes piece : List ℕ) (pairs : List Pair) (kept after : List ℕ) (k : ℕ) (ws : List ℤ) (used : ℕ)
    → IsFrames links bytes pairs kept → IsGood links k ws → kept ++ piece ≡ frame k ws ++ after → used ≡ length (frame k ws) - length kept
    → IsFrames links (bytes ++ take used piece) (pairs ++ (k, ws) ∷ []) []
with_frame links bytes piece pairs kept after k ws used is good whole count = by_length (split_lt (length kept) (length (frame k ws)))
  where
    split_lt : (a b : ℕ) → (a < b) ⊎ (b ≤ a)
    split_lt a b = grind arith

    by_length : (length kept < length (frame k ws)) ⊎ (length (frame k ws) ≤ length kept) → IsFrames links (bytes ++ take used piece) (pairs ++ (k, ws) ∷ []) []
    by_length (inr short) = absurd (is.no_more (record {
      link = k;
      words = ws;
      after = drop (length (frame k ws)) kept;
      good = good;
      is = shorter (frame k ws) after kept piece (sym whole) short;
    }))
    by_length (inl short) =
        let sum : length kept + used ≡ length (frame k ws) = omega arith in
        let frame_is : kept ++ take used piece ≡ frame k ws =
        sym (take-append-add kept piece used)
        ∙ ap (λ (n : ℕ). take n (kept ++ piece)) sum
        ∙ ap (λ (l : List ℕ). take (length (frame k ws)) l) whole
        ∙ take_at (frame k ws) after (length (frame k ws)) refl in
        record {
          good = all_good links pairs ((k, ws) ∷ []) is.good (good, tt);
          is =
              ap (λ (l : List ℕ). l ++ take used piece) is.is
              ∙ append_assoc (frames pairs) kept (take used piece)
              ∙ ap (λ (l : List ℕ). frames pairs ++ l) (frame_is ∙ sym (append-nil (frame k ws)))
              ∙ sym (flat_map-append (λ (p : Pair). frame p.0 p.1) pairs ((k, ws) ∷ []))
              ∙ sym (append-nil (frames (pairs ++ (k, ws) ∷ [])));
          no_more = no_frame_in_nothing links;
        }

-- what stands for bytes stands for them and what was used behind them
module _ (links : List LinkElem) (piece bytes : List ℕ) (pairs : List Pair) where
  stands_bad : (rest : List ℕ) → IsFrames links bytes pairs rest → (IsBeginning links (rest ++ piece) → ⊥) → (BeginsWithFrame links (rest ++ piece) → ⊥)
      → StandsFor (kept_as links None) (bytes ++ take (length piece) piece) (pairs ++ [])
  stands_bad rest is hopeless none = record { rest = rest ++ piece; frames = with_piece links bytes piece pairs rest is none; kept = hopeless }

  -- behind a bad frame
  stands_behind : StandsFor (kept_as links None) bytes pairs → StandsFor (kept_as links None) (bytes ++ take (length piece) piece) (pairs ++ [])
  stands_behind stands =
      stands_bad stands.rest stands.frames (λ b. stands.kept (earlier links stands.rest piece b))
      (no_frame_later links stands.rest piece stands.kept stands.frames.no_more)

  stands_by : (kept : List ℕ) (found : Found) → StandsFor (kept_as links (Some kept)) bytes pairs → Shows links (kept ++ piece) found
      → StandsFor (after_feed (kept_as links (Some kept)) piece found)
      (bytes ++ take (used_by (kept_as links (Some kept)) piece found) piece) (pairs ++ given found)
  stands_by kept (Whole k v) stands shows =
      record {
        rest = [];
        frames = with_frame links bytes piece pairs kept shows.0 k (words_of v) (length (frame k (words_of v)) - length kept)
            (subst (λ (r : List ℕ). IsFrames links bytes pairs r) (sym stands.kept.0) stands.frames) shows.1 shows.2 refl;
        kept = (refl, record { link = k; words = words_of v; missing = frame k (words_of v); good = shows.1; is = refl });
      }
  stands_by kept More stands shows =
      record {
        rest = kept ++ piece;
        frames = with_piece links bytes piece pairs kept (subst (λ (r : List ℕ). IsFrames links bytes pairs r) (sym stands.kept.0) stands.frames) shows.1;
        kept = (refl, shows.0);
      }
  stands_by kept BadFrame stands shows =
      stands_bad kept (subst (λ (r : List ℕ). IsFrames links bytes pairs r) (sym stands.kept.0) stands.frames) shows.0 shows.1

stands_after : (links : List LinkElem) (begun : Option (List ℕ)) (piece bytes : List ℕ) (pairs : List Pair) (found : Found)
    → Finds (kept_as links begun) piece found → StandsFor (kept_as links begun) bytes pairs
    → StandsFor (after_feed (kept_as links begun) piece found)
    (bytes ++ take (used_by (kept_as links begun) piece found) piece) (pairs ++ given found)
stands_after links None piece bytes pairs found finds stands =
    subst (λ (f : Found). StandsFor (after_feed (kept_as links None) piece f) (bytes ++ take (used_by (kept_as links None) piece f) piece) (pairs ++ given f))
    (sym finds) (stands_behind links piece bytes pairs stands)
stands_after links (Some kept) piece bytes pairs found finds stands = stands_by links piece bytes pairs kept found stands finds

pub fed_stands : (u : Kept) (f : Feed) (after : Kept) (bytes : List ℕ) (pairs : List Pair)
    → IsFed u f after → StandsFor u bytes pairs → StandsFor after (bytes ++ take f.used f.piece) (pairs ++ given f.found)
fed_stands u f after bytes pairs fed stands =
    subst (λ (k : Kept). StandsFor k (bytes ++ take f.used f.piece) (pairs ++ given f.found)) (sym fed.kept)
    (subst (λ (n : ℕ). StandsFor (after_feed u f.piece f.found) (bytes ++ take n f.piece) (pairs ++ given f.found)) (sym fed.used)
    (stands_after u.links u.begun f.piece bytes pairs f.found fed.found stands))

-- ---- many feeds

pub fed_all : (u after : Kept) (feeds : List Feed) (bytes : List ℕ) (pairs : List Pair) → StandsFor u bytes pairs → AreFed u feeds after
    → StandsFor after (bytes ++ all_used feeds) (pairs ++ all_given feeds)
fed_all u after [] bytes pairs stands are =
    subst (λ (k : Kept). StandsFor k (bytes ++ []) (pairs ++ [])) (sym are)
    (subst (λ (b : List ℕ). StandsFor u b (pairs ++ [])) (sym (append-nil bytes))
    (subst (λ (ps : List Pair). StandsFor u bytes ps) (sym (append-nil pairs)) stands))
fed_all u after (f ∷ fs) bytes pairs stands are =
    subst (λ (b : List ℕ). StandsFor after b (pairs ++ all_given (f ∷ fs))) (append_assoc bytes (take f.used f.piece) (all_used fs))
    (subst (λ (ps : List Pair). StandsFor after ((bytes ++ take f.used f.piece) ++ all_used fs) ps) (append_assoc pairs (given f.found) (all_given fs))
    (fed_all are.0 after fs (bytes ++ take f.used f.piece) (pairs ++ given f.found) (fed_stands u f are.0 bytes pairs are.1 stands) are.2))

-- ---- one reading

word_fits : (w : ℤ) → is_word w ≡ true → FitsSigned w64 w
word_fits w is =
    let both = and_parts (int_le (negsuc 9223372036854775807) w) (int_le w (pos 9223372036854775807)) is in
    fits_between (negsuc 9223372036854775807) (pos 9223372036854775807) w (record { sfits = omega arith }) (record { sfits = omega arith })
    (le_of (negsuc 9223372036854775807) w both.0) (le_of w (pos 9223372036854775807) both.1)

limits_fit : (links : List LinkElem) (k : ℕ) (l : LinkElem) → AreOfWords links → slice_get links k ≡ Some l
    → FitsSigned w64 l.limits.low × FitsSigned w64 l.limits.high
limits_fit [] k l all at = cc
limits_fit (x ∷ xs) zero l all at =
    let here = and_parts (is_word x.limits.low && is_word x.limits.high) (list_all (λ (y : LinkElem). is_word y.limits.low && is_word y.limits.high) xs) all in
    let both = and_parts (is_word x.limits.low) (is_word x.limits.high) here.0 in
    subst (λ (y : LinkElem). FitsSigned w64 y.limits.low × FitsSigned w64 y.limits.high) (ap (λ (o : Option LinkElem). unwrap_or o x) at)
    (word_fits x.limits.low both.0, word_fits x.limits.high both.1)
limits_fit (x ∷ xs) (suc k) l all at =
    limits_fit xs k l
    (and_parts (is_word x.limits.low && is_word x.limits.high) (list_all (λ (y : LinkElem). is_word y.limits.low && is_word y.limits.high) xs) all).1 at

-- two good frames at the beginning of the same bytes are one
pub same_frame : (links : List LinkElem) (k j : ℕ) (ws vs : List ℤ) (a b : List ℕ) → AreOfWords links → IsGood links k ws → IsGood links j vs
    → frame k ws ++ a ≡ frame j vs ++ b → (k ≡ j) × (ws ≡ vs) × (a ≡ b)
same_frame links k j ws vs a b words good also same =
    let number : k ≡ j = same_number k j good.numbered also.numbered (ap (λ (l : List ℕ). get_or l 1 0) same) (ap (λ (l : List ℕ). get_or l 2 0) same) in
    let count : length ws ≡ length vs = ap (λ (l : List ℕ). get_or l 3 0) same in
    let elem : also.link ≡ good.link = sym (same_link links k j good.link also.link number good.linked also.linked) in
    let fit = limits_fit links k good.link words good.linked in
    let first = (and_parts (length ws == good.link.words) (list_all (is_within good.link.limits) ws) good.taken).1 in
    let second : list_all (is_within good.link.limits) vs ≡ true =
    subst (λ (l : LinkElem). list_all (is_within l.limits) vs ≡ true) elem
    (and_parts (length vs == also.link.words) (list_all (is_within also.link.limits) vs) also.taken).1 in
    let tails : flat_map word_bytes ws ++ a ≡ flat_map word_bytes vs ++ b = ap (λ (l : List ℕ). drop 4 l) same in
    let rest = same_words good.link.limits fit.0 fit.1 ws vs a b count first second tails in
    (number, rest.0, rest.1)

-- bytes have one list of good frames at their beginning
pub same_frames : (links : List LinkElem) (bytes : List ℕ) (ps qs : List Pair) (rest left : List ℕ) → AreOfWords links
    → IsFrames links bytes ps rest → IsFrames links bytes qs left → (ps ≡ qs) × (rest ≡ left)
same_frames links bytes [] [] rest left words is also = (refl, sym is.is ∙ also.is)
same_frames links bytes [] (q ∷ qs) rest left words is also =
    absurd (is.no_more (record {
      link = q.0;
      words = q.1;
      after = frames qs ++ left;
      good = also.good.0;
      is = sym is.is ∙ also.is ∙ append_assoc (frame q.0 q.1) (frames qs) left;
    }))
same_frames links bytes (p ∷ ps) [] rest left words is also =
    absurd (also.no_more (record {
      link = p.0;
      words = p.1;
      after = frames ps ++ rest;
      good = is.good.0;
      is = sym also.is ∙ is.is ∙ append_assoc (frame p.0 p.1) (frames ps) rest;
    }))
same_frames links bytes (p ∷ ps) (q ∷ qs) rest left words is also =
    let apart : frame p.0 p.1 ++ (frames ps ++ rest) ≡ frame q.0 q.1 ++ (frames qs ++ left) =
    sym (append_assoc (frame p.0 p.1) (frames ps) rest) ∙ sym is.is ∙ also.is ∙ append_assoc (frame q.0 q.1) (frames qs) left in
    let one = same_frame links p.0 q.0 p.1 q.1 (frames ps ++ rest) (frames qs ++ left) words is.good.0 also.good.0 apart in
    let more = same_frames links (frames ps ++ rest) ps qs rest left words
    (record { good = is.good.1; is = refl; no_more = is.no_more })
    (record { good = also.good.1; is = one.2; no_more = also.no_more }) in
    ((λ i. (one.0 i, one.1 i) ∷ more.0 i), more.1)

-- bytes show one thing
pub same_answer : (links : List LinkElem) (bytes : List ℕ) (found other : Found) → AreOfWords links → Shows links bytes found → Shows links bytes other → found ≡ other
same_answer links bytes (Whole k v) (Whole j w) words one two =
    let same = same_frame links k j (words_of v) (words_of w) one.0 two.0 words one.1 two.1 (sym one.2 ∙ two.2) in
    let value = Value-by_words v w same.1 in
    λ i. Whole (same.0 i) (value i)
same_answer links bytes (Whole k v) More words one two =
    absurd (two.1 (record { link = k; words = words_of v; after = one.0; good = one.1; is = one.2 }))
same_answer links bytes (Whole k v) BadFrame words one two =
    absurd (two.1 (record { link = k; words = words_of v; after = one.0; good = one.1; is = one.2 }))
same_answer links bytes More (Whole j w) words one two =
    absurd (one.1 (record { link = j; words = words_of w; after = two.0; good = two.1; is = two.2 }))
same_answer links bytes More More words one two = refl
same_answer links bytes More BadFrame words one two = absurd (two.0 one.0)
same_answer links bytes BadFrame (Whole j w) words one two =
    absurd (one.1 (record { link = j; words = words_of w; after = two.0; good = two.1; is = two.2 }))
same_answer links bytes BadFrame More words one two = absurd (one.0 two.0)
same_answer links bytes BadFrame BadFrame words one two = refl

pub same_find : (links : List LinkElem) (begun : Option (List ℕ)) (piece : List ℕ) (found other : Found) → AreOfWords links
    → Finds (kept_as links begun) piece found → Finds (kept_as links begun) piece other → found ≡ other
same_find links None piece found other words one two = one ∙ sym two
same_find links (Some kept) piece found other words one two = same_answer links (kept ++ piece) found other words one two

-- ---- what was sent

-- an unframer to which nothing came
pub stands_fresh : (links : List LinkElem) → AreLinks links → StandsFor (fresh links) [] []
stands_fresh links are =
    record {
      rest = [];
      frames = record { good = tt; is = refl; no_more = no_frame_in_nothing links };
      kept = (refl, (cut_header links Nothing are tt).begins);
    }

-- an unframer that stands for whole frames keeps nothing
keeps_nothing : (links : List LinkElem) (u : Kept) → u.links ≡ links → (begun : Option (List ℕ)) → u.begun ≡ begun → AreLinks links
    → Keeps links begun [] → u ≡ fresh links
keeps_nothing links u same None is are kept = absurd (kept (cut_header links Nothing are tt).begins)
keeps_nothing links u same (Some kept) is are keeps = λ i. record { links = same i; begun = (is ∙ ap (λ (l : List ℕ). Some l) keeps.0) i }

-- no feed changes the links
same_links : (u after : Kept) (feeds : List Feed) → AreFed u feeds after → after.links ≡ u.links
same_links u after [] are = ap (λ (k : Kept). k.links) are
same_links u after (f ∷ fs) are = same_links are.0 after fs are.2 ∙ ap (λ (k : Kept). k.links) are.1.kept ∙ links_stay u f.piece f.found
  where
    links_stay : (k : Kept) (piece : List ℕ) (found : Found) → (after_feed k piece found).links ≡ k.links
    links_stay k piece (Whole j v) = refl
    links_stay k piece More = refl
    links_stay k piece BadFrame = refl

pub what_was_sent : (links : List LinkElem) (feeds : List Feed) (after : Kept) (pairs : List Pair) → AreLinks links → AreOfWords links
    → AllByRecursion (λ (p : Pair). IsGood links p.0 p.1) pairs → AreFed (fresh links) feeds after → all_used feeds ≡ frames pairs
    → (all_given feeds ≡ pairs) × (after ≡ fresh links)
what_was_sent links feeds after pairs are words good fed used =
    let same = same_links (fresh links) after feeds fed in
    let stands = fed_all (fresh links) after feeds [] [] (stands_fresh links are) fed in
    let is : IsFrames links (all_used feeds) (all_given feeds) stands.rest =
    subst (λ (ls : List LinkElem). IsFrames ls (all_used feeds) (all_given feeds) stands.rest) same stands.frames in
    let also : IsFrames links (all_used feeds) pairs [] =
    record { good = good; is = used ∙ sym (append-nil (frames pairs)); no_more = no_frame_in_nothing links } in
    let one = same_frames links (all_used feeds) (all_given feeds) pairs stands.rest [] words is also in
    let kept : Keeps links after.begun [] =
    subst (λ (ls : List LinkElem). Keeps ls after.begun []) same (subst (λ (r : List ℕ). Keeps after.links after.begun r) one.1 stands.kept) in
    (one.0, keeps_nothing links after same after.begun refl are kept)
