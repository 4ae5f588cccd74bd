-- A frame of which some bytes came, some are on the way, and some are not sent.
use Rattle.std.proofs.Common.{◌≡◌, ◌≤◌, ◌<◌, ℕ, ◌+◌, ◌-◌, ℤ, List, [], ◌∷◌, ◌++◌, length, take, drop, Some, refl, sym, ap, ◌∙◌, arith, subst, append_assoc, length-append}
use Rattle.std.proofs.lemmas.List.{append-nil, length-take-le, take-append-drop, take_at}
use Rattle.rte_value.specs.declared.value.Value.{Value}
use Rattle.rte_value.specs.Values.{words_of}
use Rattle.signal_link.specs.Common.{LinkElem, Found, Whole, More, BadFrame, frame, AreOfWords, Finds, IsBeginning, IsGood, Kept, Shows, after_feed, fresh}
use Rattle.signal_link.specs.Carrying.{IsCarried}
use Rattle.signal_link.specs.Ways.{IsGiven, IsTaken}
use Rattle.signal_link.proofs.Frames.{length-frame}
use Rattle.signal_link.proofs.Streams.{same_frame}

-- some bytes came and are kept, some are on the way, some are left to be sent, and together they are the frame. Not all came
pub record IsUnderWay (links : List LinkElem) (k : ℕ) (ws : List ℤ) (u : Kept) (way unsent : List ℕ) : Type 0 where
  pub came : List ℕ
  pub kept : u ≡ record { links = links; begun = Some came }
  pub whole : came ++ (way ++ unsent) ≡ frame k ws
  pub some : 0 < length (way ++ unsent)

-- nothing was sent
pub at_first : (links : List LinkElem) (k : ℕ) (ws : List ℤ) (u : Kept) (way unsent : List ℕ) → u ≡ fresh links → way ≡ [] → unsent ≡ frame k ws
    → IsUnderWay links k ws u way unsent
at_first links k ws u way unsent new none all =
    record {
      came = [];
      kept = new;
      whole = ap (λ (w : List ℕ). w ++ unsent) none ∙ all;
      some = (let long = length-frame k ws in let a = ap (λ (l : List ℕ). length l) all in let both = length-append way unsent in omega (arith, long, a, both));
    }

-- the first n bytes that were left went behind those on the way
pub sent_on : (links : List LinkElem) (k : ℕ) (ws : List ℤ) (u : Kept) (way unsent after : List ℕ) (n : ℕ) → IsUnderWay links k ws u way unsent
    → after ≡ way ++ take n unsent → IsUnderWay links k ws u after (drop n unsent)
sent_on links k ws u way unsent after n is sent =
    let same : after ++ drop n unsent ≡ way ++ unsent =
    ap (λ (l : List ℕ). l ++ drop n unsent) sent ∙ append_assoc way (take n unsent) (drop n unsent) ∙ ap (λ (l : List ℕ). way ++ l) (take-append-drop n unsent) in
    record {
      came = is.came;
      kept = is.kept;
      whole = ap (λ (l : List ℕ). is.came ++ l) same ∙ is.whole;
      some = subst (λ (l : List ℕ). 0 < length l) (sym same) is.some;
    }

module _ (links : List LinkElem) (k : ℕ) (ws : List ℤ) (u : Kept) (way unsent piece after : List ℕ) (is : IsUnderWay links k ws u way unsent)
    (good : IsGood links k ws) (taken : way ≡ piece ++ after) where
  -- what came and comes now begins the frame
  came_now : (is.came ++ piece) ++ (after ++ unsent) ≡ frame k ws
  came_now =
      append_assoc is.came piece (after ++ unsent)
      ∙ ap (λ (l : List ℕ). is.came ++ l) (sym (append_assoc piece after unsent) ∙ ap (λ (l : List ℕ). l ++ unsent) (sym taken))
      ∙ is.whole

  begins_now : IsBeginning links (is.came ++ piece)
  begins_now = record { link = k; words = ws; missing = after ++ unsent; good = good; is = sym came_now }

  finds : (found : Found) → Finds u piece found → Shows links (is.came ++ piece) found
  finds found f = subst (λ (v : Kept). Finds v piece found) is.kept f

  -- more is to come
  pub still_under_way : (v : Kept) → Finds u piece More → v ≡ after_feed u piece More → IsUnderWay links k ws v after unsent
  still_under_way v f next =
      record {
        came = is.came ++ piece;
        kept = next ∙ ap (λ (w : Kept). after_feed w piece More) is.kept;
        whole = came_now;
        some = by_rest (after ++ unsent) refl;
      }
    where
      by_rest : (rest : List ℕ) → after ++ unsent ≡ rest → 0 < length (after ++ unsent)
      by_rest [] none = absurd ((finds More f).1 (record {
        link = k;
        words = ws;
        after = [];
        good = good;
        is = sym (append-nil (is.came ++ piece)) ∙ ap (λ (l : List ℕ). (is.came ++ piece) ++ l) (sym none) ∙ came_now ∙ sym (append-nil (frame k ws));
      }))
      by_rest (x ∷ xs) e = (let long = ap (λ (l : List ℕ). length l) e in omega (arith, long))

  -- no bad frame comes
  pub never_bad : Finds u piece BadFrame → ⊥
  never_bad f = (finds BadFrame f).0 begins_now

  -- the value came, and nothing is left
  pub arrived : (j : ℕ) (v : Value) → AreOfWords links → Finds u piece (Whole j v) → (j ≡ k) × (words_of v ≡ ws) × (after ≡ [])
  arrived j v words f =
      let shows = finds (Whole j v) f in
      let apart : frame j (words_of v) ++ (shows.0 ++ (after ++ unsent)) ≡ frame k ws ++ [] =
      sym (append_assoc (frame j (words_of v)) shows.0 (after ++ unsent)) ∙ ap (λ (l : List ℕ). l ++ (after ++ unsent)) (sym shows.2) ∙ came_now ∙ sym (append-nil (frame k ws)) in
      let one = same_frame links j k (words_of v) ws (shows.0 ++ (after ++ unsent)) [] words shows.1 good apart in
      (one.0, one.1, nothing after (let none = ap (λ (l : List ℕ). length l) one.2 in let a = length-append shows.0 (after ++ unsent) in let b = length-append after unsent in omega (arith, none, a, b)))
    where
      nothing : (l : List ℕ) → length l ≡ 0 → l ≡ []
      nothing [] e = refl
      nothing (x ∷ xs) e = absurd (omega arith)

-- something moves in each turn
pub some_given : (way unsent after : List ℕ) (n : ℕ) → 0 < length (way ++ unsent) → after ≡ way ++ take n unsent
    → (0 < length unsent → way ≡ [] → 0 < n) → n ≤ length unsent → 0 < length after
some_given [] unsent after n some sent moves within =
    let a = length-append [] unsent in
    let full : 0 < n = moves (omega (arith, some, a)) refl in
    let long = ap (λ (l : List ℕ). length l) sent in
    let t = length-take-le n unsent within in
    omega (arith, long, t, full)
some_given (w ∷ ws) unsent after n some sent moves within =
    let long = ap (λ (l : List ℕ). length l) sent in
    let a = length-append (w ∷ ws) (take n unsent) in
    omega (arith, long, a)

-- ---- one turn: a send, a receive, a feed

module _ (links : List LinkElem) (k : ℕ) (ws : List ℤ) (u : Kept) (way sent left unsent : List ℕ) (n m : ℕ) (old filled piece : List ℕ)
    (is : IsUnderWay links k ws u way unsent) (good : IsGood links k ws) (taken : IsTaken n way sent unsent) (given : IsGiven m sent left old filled)
    (piece_is : piece ≡ take m filled) where
  -- what was received came first on the way
  parted : sent ≡ piece ++ left
  parted =
      sym (take-append-drop m sent)
      ∙ ap (λ (l : List ℕ). l ++ drop m sent)
      (sym (piece_is ∙ ap (λ (l : List ℕ). take m l) given.room ∙ take_at (take m sent) (drop m old) m (length-take-le m sent given.there)))
      ∙ ap (λ (l : List ℕ). piece ++ l) (sym given.way)

  on : IsUnderWay links k ws u sent (drop n unsent)
  on = sent_on links k ws u way unsent sent n is taken.way

  pub goes_on : (found : Found) (v : Kept) → Finds u piece found → found ≡ More → v ≡ after_feed u piece found → IsUnderWay links k ws v left (drop n unsent)
  goes_on found v f more next =
      still_under_way links k ws u sent (drop n unsent) piece left on good parted v
      (subst (λ (x : Found). Finds u piece x) more f) (subst (λ (x : Found). v ≡ after_feed u piece x) more next)

  pub is_never_bad : (found : Found) → Finds u piece found → found ≡ BadFrame → ⊥
  is_never_bad found f bad = never_bad links k ws u sent (drop n unsent) piece left on good parted (subst (λ (x : Found). Finds u piece x) bad f)

  pub is_carried : (found : Found) (v before : Kept) (j : ℕ) (value : Value) → AreOfWords links → before ≡ fresh links → Finds u piece found → found ≡ Whole j value
      → v ≡ after_feed u piece found → IsCarried k ws (record { link = j; value = value }) left before v
  is_carried found v before j value words new f whole next =
      let came = arrived links k ws u sent (drop n unsent) piece left on good parted j value words (subst (λ (x : Found). Finds u piece x) whole f) in
      record {
        link = came.0;
        words = came.1;
        empty = came.2;
        kept =
            subst (λ (x : Found). v ≡ after_feed u piece x) whole next
            ∙ ap (λ (w : Kept). after_feed w piece (Whole j value)) is.kept
            ∙ sym new;
      }
