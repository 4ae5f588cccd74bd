-- What is kept is the beginning of a good frame, and never all of one.
use Rattle.std.proofs.Common.{◌≡◌, ◌<◌, ℕ, zero, suc, ◌*◌, ◌-◌, ◌/◌, ◌%◌, ◌^◌, ℤ, List, [], ◌∷◌, ◌++◌, length, drop, true, Option, Some, slice_get, refl, sym, ap, ◌∙◌, arith, subst}
use Rattle.std.proofs.Common.{append_assoc, length-append, replicate}
use Rattle.std.proofs.lemmas.Bool.{and_from, and_parts, eq-eqb}
use Rattle.std.proofs.lemmas.Grind.{flat_map-append}
use Rattle.std.proofs.lemmas.List.{append-nil, length-drop, length-replicate, take-append-drop}
use Rattle.std.proofs.lemmas.List.Folds.{list_all-append}
use Rattle.std.specs.Int.RustNames.{int_le}
use Rattle.std.specs.List.{flat_map, list_all}
use Rattle.std.specs.Option.{unwrap_or}
use Rattle.rte_value.specs.declared.kinds.Limits.{Limits}
use Rattle.signal_link.specs.Common.{Header, LinkElem, Part, Payload, frame, header, word_bytes, AreLinks, is_link, is_within, IsLinked, IsPart, begun_of, head_bytes, header_bytes}
use Rattle.signal_link.specs.Common.{payload_bytes, BeginsWithFrame, IsBeginning, IsGood}
use Rattle.signal_link.specs.declared.header.Header.TheVariants.{Nothing, Mark, High, Number}
use Rattle.signal_link.specs.declared.part.Part.TheVariants.{InHeader, InWords, Bad}
use Rattle.signal_link.specs.Parts.{IsHeader}
use Rattle.signal_link.proofs.Bytes.{length-word_bytes}
use Rattle.signal_link.proofs.Frames.{length-frame, no_frame_in_a_cut_one}
use Rattle.signal_link.proofs.Heads.{le_self}
use Rattle.signal_link.proofs.Payloads.{ordered_limits}

-- something of the frame is missing
pub record IsCut (links : List LinkElem) (bytes : List ℕ) : Type 0 where
  pub begins : IsBeginning links bytes
  pub some : 0 < length begins.missing

pub no_frame_in_a_cut : (links : List LinkElem) (bytes : List ℕ) → IsCut links bytes → BeginsWithFrame links bytes → ⊥
no_frame_in_a_cut links bytes cut whole =
    no_frame_in_a_cut_one cut.begins.link whole.link cut.begins.words whole.words whole.after cut.begins.missing
    (cut.begins.is ∙ ap (λ (l : List ℕ). l ++ cut.begins.missing) whole.is) cut.some

-- a beginning that no frame begins is cut
pub cut_where_more : (links : List LinkElem) (bytes : List ℕ) → IsBeginning links bytes → (BeginsWithFrame links bytes → ⊥) → IsCut links bytes
cut_where_more links bytes b none = by_missing b.missing refl
  where
    by_missing : (m : List ℕ) → b.missing ≡ m → IsCut links bytes
    by_missing [] is = absurd (none (record {
      link = b.link;
      words = b.words;
      after = [];
      good = b.good;
      is = sym (append-nil bytes) ∙ ap (λ (l : List ℕ). bytes ++ l) (sym is) ∙ sym b.is ∙ sym (append-nil (frame b.link b.words));
    }))
    by_missing (m ∷ ms) is = record { begins = b; some = (let e = ap (λ (l : List ℕ). length l) is in omega (arith, e)) }

pub earlier : (links : List LinkElem) (bytes after : List ℕ) → IsBeginning links (bytes ++ after) → IsBeginning links bytes
earlier links bytes after b =
    record { link = b.link; words = b.words; missing = after ++ b.missing; good = b.good; is = b.is ∙ append_assoc bytes after b.missing }

-- ---- some value of each link

each_link : (links : List LinkElem) (k : ℕ) (l : LinkElem) → list_all is_link links ≡ true → slice_get links k ≡ Some l → is_link l ≡ true
each_link [] k l all at = cc
each_link (x ∷ xs) zero l all at =
    subst (λ (y : LinkElem). is_link y ≡ true) (ap (λ (o : Option LinkElem). unwrap_or o x) at) (and_parts (is_link x) (list_all is_link xs) all).0
each_link (x ∷ xs) (suc k) l all at = each_link xs k l (and_parts (is_link x) (list_all is_link xs) all).1 at

link_at : (links : List LinkElem) (k : ℕ) → k < length links → (l : LinkElem) × (slice_get links k ≡ Some l)
link_at [] k within = absurd (omega arith)
link_at (x ∷ xs) zero within = (x, refl)
link_at (x ∷ xs) (suc k) within = link_at xs k (omega arith)

least_words : (l : Limits) (n : ℕ) → int_le l.low l.high ≡ true → list_all (is_within l) (replicate n l.low) ≡ true
least_words l zero order = refl
least_words l (suc n) order =
    and_from (is_within l l.low) (list_all (is_within l) (replicate n l.low)) (and_from (int_le l.low l.low) (int_le l.low l.high) (le_self l.low) order) (least_words l n order)

some_value : (links : List LinkElem) (k : ℕ) (l : LinkElem) → AreLinks links → slice_get links k ≡ Some l → k < 2 ^ 16
    → IsGood links k (replicate l.words l.limits.low)
some_value links k l are at numbered =
    record {
      link = l;
      linked = at;
      numbered = numbered;
      taken = and_from _ _ (eq-eqb (length (replicate l.words l.limits.low)) l.words (length-replicate l.words l.limits.low))
          (least_words l.limits l.words (ordered_limits l (each_link links k l are.each at)));
    }

-- ---- beginnings

-- a beginning that is shorter than a frame is cut
cut_frame : (links : List LinkElem) (k : ℕ) (ws : List ℤ) (bytes missing : List ℕ) → IsGood links k ws → frame k ws ≡ bytes ++ missing
    → length bytes < 4 → IsCut links bytes
cut_frame links k ws bytes missing good is short =
    record {
      begins = record { link = k; words = ws; missing = missing; good = good; is = is };
      some = (let long = length-frame k ws in let e = ap (λ (l : List ℕ). length l) is in let both = length-append bytes missing in omega (arith, long, e, both));
    }

pub cut_header : (links : List LinkElem) (h : Header) → AreLinks links → IsHeader links h → IsCut links (header_bytes h)
cut_header links Nothing are is =
    let l = link_at links 0 are.some in
    cut_frame links 0 (replicate l.0.words l.0.limits.low) [] (frame 0 (replicate l.0.words l.0.limits.low)) (some_value links 0 l.0 are l.1 (omega arith)) refl (omega arith)
cut_header links Mark are is =
    let l = link_at links 0 are.some in
    cut_frame links 0 (replicate l.0.words l.0.limits.low) (0x52 ∷ []) (drop 1 (frame 0 (replicate l.0.words l.0.limits.low)))
    (some_value links 0 l.0 are l.1 (omega arith)) refl (omega arith)
cut_header links (High h) are is =
    let within = is.1 in
    let l = link_at links (h * 256) within in
    let small = is.0 in
    let byte : h * 256 / 256 % 256 ≡ h = omega arith in
    cut_frame links (h * 256) (replicate l.0.words l.0.limits.low) (0x52 ∷ h ∷ []) (drop 2 (frame (h * 256) (replicate l.0.words l.0.limits.low)))
    (some_value links (h * 256) l.0 are l.1 (omega arith))
    (ap (λ (b : ℕ). 0x52 ∷ b ∷ drop 2 (frame (h * 256) (replicate l.0.words l.0.limits.low))) byte) (omega arith)
cut_header links (Number k) are is =
    let l = link_at links k is.1 in
    cut_frame links k (replicate l.0.words l.0.limits.low) (header_bytes (Number k)) (drop 3 (frame k (replicate l.0.words l.0.limits.low)))
    (some_value links k l.0 are l.1 is.0) refl (omega arith)

cut_words : (links : List LinkElem) (p : Payload) → IsLinked links p → length p.words.items < p.link.words → IsCut links (payload_bytes p)
cut_words links p linked room =
    let l = p.link.limits in
    let is = linked.payload in
    let w = is.may_end.word in
    let left = p.link.words - length p.words.items - 1 in
    let lows = replicate (p.link.words - length p.words.items - 1) p.link.limits.low in
    let ws = p.words.items ++ w ∷ lows in
    let long : length (p.words.items ++ is.may_end.word ∷ replicate (p.link.words - length p.words.items - 1) p.link.limits.low) ≡ p.link.words =
    (let a = length-append p.words.items (w ∷ lows) in
    let r = length-replicate (p.link.words - length p.words.items - 1) p.link.limits.low in
    omega (arith, a, r)) in
    let good : IsGood links p.number ws =
    record {
      link = p.link;
      linked = linked.linked;
      numbered = linked.numbered;
      taken = and_from _ _ (eq-eqb (length ws) p.link.words long)
          (list_all-append (is_within p.link.limits) p.words.items (w ∷ lows)
          ∙ and_from _ _ is.within (and_from _ _ is.may_end.within (least_words p.link.limits left (ordered_limits p.link is.linked))));
    } in
    let missing = drop p.head.count (word_bytes w) ++ flat_map word_bytes lows in
    let word : word_bytes w ≡ head_bytes p.head ++ drop p.head.count (word_bytes w) =
    sym (take-append-drop p.head.count (word_bytes w)) ∙ ap (λ (bs : List ℕ). bs ++ drop p.head.count (word_bytes w)) is.may_end.is in
    let bytes : frame p.number ws ≡ payload_bytes p ++ missing =
    ap (λ (n : ℕ). header p.number n ++ flat_map word_bytes ws) long
    ∙ ap (λ (bs : List ℕ). header p.number p.link.words ++ bs) (flat_map-append word_bytes p.words.items (w ∷ lows))
    ∙ ap (λ (bs : List ℕ). header p.number p.link.words ++ (flat_map word_bytes p.words.items ++ (bs ++ flat_map word_bytes lows))) word
    ∙ ap (λ (bs : List ℕ). header p.number p.link.words ++ (flat_map word_bytes p.words.items ++ bs))
    (append_assoc (head_bytes p.head) (drop p.head.count (word_bytes w)) (flat_map word_bytes lows))
    ∙ sym (append_assoc (header p.number p.link.words) (flat_map word_bytes p.words.items) (head_bytes p.head ++ missing))
    ∙ sym (append_assoc (header p.number p.link.words ++ flat_map word_bytes p.words.items) (head_bytes p.head) missing) in
    record {
      begins = record { link = p.number; words = ws; missing = missing; good = good; is = bytes };
      some =
          let d = length-drop p.head.count (word_bytes w) in
          let e = length-word_bytes w in
          let a = length-append (drop p.head.count (word_bytes w)) (flat_map word_bytes lows) in
          let u = is.unfinished in
          omega (arith, d, e, a, u);
    }

-- what is kept is cut
pub kept_is_cut : (links : List LinkElem) (part : Part) (bytes : List ℕ) → AreLinks links → IsPart links part → begun_of part ≡ Some bytes → IsCut links bytes
kept_is_cut links (InHeader h) bytes are is begun =
    subst (λ (bs : List ℕ). IsCut links bs) (ap (λ (o : Option (List ℕ)). unwrap_or o []) begun) (cut_header links h are is)
kept_is_cut links (InWords p) bytes are is begun =
    subst (λ (bs : List ℕ). IsCut links bs) (ap (λ (o : Option (List ℕ)). unwrap_or o []) begun) (cut_words links p is.0 is.1)
kept_is_cut links Bad bytes are is begun = cc
