-- An Answer gives the Return of the point's own request.
use Rattle.std.proofs.Common.{◌≡◌, ◌<◌, ℕ, ℤ, Bool, true, false, ◌&&◌, ◌==◌, not, if◌then◌else◌, refl, sym, ◌∙◌, ap, subst, arith, List, [], ◌∷◌, ◌++◌, Option, Some, None, is_some}
use Rattle.std.specs.Prelude.{is_none, unwrap_or}
use Rattle.bus_semantics.specs.Common.{option_or, and_parts, eqb-true, false≢true, same_Some, ActKey, Value, words_of, same_words, same_number, same_words-Decides, Plan, kind_of, server_of}
use Rattle.bus_semantics.specs.Common.{Noted, Past, newest, made_by, is_request_at, is_outstanding, returned_by, returned_to, answer_to, serves, start_names, start_fits, object_of_kind}
use Rattle.bus_semantics.specs.Common.{is_open, serves_by, Follows, IsPastOf, IsSound}
use Rattle.bus_semantics.specs.declared.plan.EventKind.{EventKind}
use Rattle.bus_semantics.specs.declared.plan.EventKind.TheVariants.{Invoked}
use Rattle.bus_semantics.specs.declared.script.Mapping.{Mapping}
use Rattle.bus_semantics.specs.declared.entries.Actor.{Actor}
use Rattle.bus_semantics.specs.declared.entries.Actor.TheVariants.{Env, Machine, Act}
use Rattle.bus_semantics.specs.declared.entries.Deed.{Deed}
use Rattle.bus_semantics.specs.declared.entries.Deed.TheVariants as deed
use Rattle.bus_semantics.specs.Legal as legal
use Rattle.object_kinds.proofs.Options.{clash}
use Rattle.object_kinds.proofs.Proper.{noting}
use Rattle.server_objects.specs.Answered.{none_asked, none_served, IsReturnOf}
use Rattle.server_objects.specs.Kept.{Kept, opening}
use Rattle.server_objects.specs.Layout.{server_in, IsServer}
use Rattle.server_objects.specs.Leading.{lead}
use Rattle.server_objects.specs.Standing.{last_asked, Keeps}
use Rattle.server_objects.proofs.Facts.{if_same, same_keys, same_option, server_is, start_part}
use Rattle.server_objects.proofs.Leading.{leads_keep}
use Rattle.server_objects.proofs.Missing.{misses_nothing, named_request}
use Rattle.server_objects.proofs.Opening.{server_opens}
use Rattle.server_objects.proofs.Points.{returns_none}

invoked_kind : (p : Plan) (k : EventKind) (q : ℕ) (ws : List ℤ) → start_fits p k (Some q) ws ≡ true → (s : ℕ) × (k ≡ Invoked s)
invoked_kind p (Invoked s) q ws fit = (s, refl)
invoked_kind p k q ws fit = absurd (false≢true fit)

module _ (p : Plan) (m : Mapping) (object : ℕ) (sound : IsSound p m) (server : IsServer p object) where
  abbrev s : ℕ
  s = server_in p object

  -- what is kept after a past
  pub kept_after : (l : Past) → IsPastOf p object l → (k : Kept) × Keeps p object k l
  kept_after [] past = (opening p object, server_opens p object server)
  kept_after (n ∷ l) past =
      let before = kept_after l past.0 in
      by_lead before.0 before.1 (lead before.0 n) refl (misses_nothing p m object sound before.0 l n (record { past = past.0; kept = before.1 }) past.1)
    where
      by_lead : (k : Kept) → Keeps p object k l → (o : Option Kept) → lead k n ≡ o → is_some (lead k n) ≡ true → (k : Kept) × Keeps p object k (n ∷ l)
      by_lead k keeps None is some = absurd (false≢true (sym (ap is_some is) ∙ some))
      by_lead k keeps (Some after) is some = (after, leads_keep p object k after l n (record { past = past.0; kept = keeps }) past.1.touching past.1.proper is)

  module _ (q : ℕ) (key : ActKey) where
    -- the start by the key that names the point, and no start nor Return of the key and no request of the point after it
    record Begun (l : Past) : Type 0 where
      starting : Noted
      between : Past
      before : Past
      event : ℕ
      given : Value
      whole : l ≡ between ++ starting ∷ before
      started_by : starting.entry.actor ≡ Act key
      started : starting.entry.deed ≡ deed.Start event (Some q) given
      requested : last_asked q before ≡ Some (words_of given)
      quiet : none_asked q between ≡ true
      alone : none_served key between ≡ true

    -- the words of a start that names the point are those of its last request
    starts_with : (l : Past) (event : Option ℕ) (e : ℕ) (value : Value) → IsPastOf p object l → Follows p object l (noting (Act key) (deed.Start e (Some q) value) event) → last_asked q l ≡ Some (words_of value)
    starts_with l event e value past follows =
        let kept = kept_after l past in
        let keeps = kept.1 in
        let of = invoked_kind p (kind_of p e) q (words_of value) (start_part p (Act key) e (Some q) value event follows.proper) in
        let kind : kind_of p e ≡ Invoked s = of.1 ∙ ap Invoked (this_server of.0 of.1) in
        let named = named_request p object kept.0 l keeps key event e (Some q) value follows kind in
        let same : named.number ≡ q = same_Some named.number q (sym named.names) in
        let asked : last_asked named.number l ≡ Some (words_of named.request.given) = (keeps.each named.request.place named.number named.request.there).request named.request.given named.request.asked in
        ap (λ r. last_asked r l) (sym same) ∙ asked ∙ ap (λ ws. Some ws) (sym ((same_words-Decides (words_of value) (words_of named.request.given)).0 named.request.words))
      where
        this_server : (t : ℕ) → kind_of p e ≡ Invoked t → t ≡ s
        this_server t is = same_Some t s (server_is p object server (Some t) (subst (λ k. same_number (object_of_kind p k) (Some object) ≡ true) is follows.touching))

    begin : (n : Noted) (l : Past) → Begun l → is_request_at q n.entry.deed ≡ false → serves_by (Act key) n ≡ None → Begun (n ∷ l)
    begin n l of asks serves_none = record {
      starting = of.starting;
      between = n ∷ of.between;
      before = of.before;
      event = of.event;
      given = of.given;
      whole = ap (λ h. n ∷ h) of.whole;
      started_by = of.started_by;
      started = of.started;
      requested = of.requested;
      quiet = λ i. not (asks i) && of.quiet i;
      alone = λ i. is_none (serves_none i) && of.alone i;
    }

    still_open : (n : Noted) (l : Past) → serves_by (Act key) n ≡ None → is_open (serves_by (Act key)) (n ∷ l) ≡ is_open (serves_by (Act key)) l
    still_open n l none = λ i. unwrap_or (option_or (none i) (newest (serves_by (Act key)) l)) false

    other_serves : (n : Noted) (l : Past) → is_request_at q n.entry.deed ≡ false → made_by key n.entry.actor ≡ false → serves q key (n ∷ l) ≡ serves q key l
    other_serves n l asks other = rw (asks, other) refl

    still_serves : (n : Noted) (l : Past) → is_request_at q n.entry.deed ≡ false → made_by key n.entry.actor ≡ true → start_names q n.entry.deed ≡ None → serves q key (n ∷ l) ≡ serves q key l
    still_serves n l asks own names = rw (asks, own, names) refl

    by_this : (a : Actor) → made_by key a ≡ true → a ≡ Act key
    by_this Env own = absurd (false≢true own)
    by_this (Machine n) own = absurd (false≢true own)
    by_this (Act j) own = ap Act (sym (same_keys key j own))

    begun : (l : Past) → IsPastOf p object l → serves q key l ≡ true → is_open (serves_by (Act key)) l ≡ true → Begun l
    begun [] past on opened = absurd (false≢true on)
    begun (n ∷ l) past on opened = by_request (is_request_at q n.entry.deed) refl (begun l past.0)
      where
        by_deed : (d : Deed) (a : Actor) (event : Option ℕ) → made_by key a ≡ true → Follows p object l (noting a d event) → is_request_at q d ≡ false → serves q key (noting a d event ∷ l) ≡ true
            → is_open (serves_by (Act key)) (noting a d event ∷ l) ≡ true → (serves q key l ≡ true → is_open (serves_by (Act key)) l ≡ true → Begun l) → Begun (noting a d event ∷ l)
        by_deed (deed.Start e point value) a event own follows asks on opened deeper =
            let this : same_number point (Some q) ≡ true = sym (λ i. if own i then same_number point (Some q) else serves q key l) ∙ on in
            let names : point ≡ Some q = same_option point (Some q) this in
            let by : a ≡ Act key = by_this a own in
            record {
              starting = noting a (deed.Start e point value) event;
              between = [];
              before = l;
              event = e;
              given = value;
              whole = refl;
              started_by = by;
              started = ap (λ o. deed.Start e o value) names;
              requested = starts_with l event e value past.0 (subst (λ b. Follows p object l (noting b (deed.Start e (Some q) value) event)) by (subst (λ o. Follows p object l (noting a (deed.Start e o value) event)) names follows));
              quiet = refl;
              alone = refl;
            }
        by_deed (deed.Return code value) a event own follows asks on opened deeper =
            clash (is_open (serves_by (Act key)) (noting a (deed.Return code value) event ∷ l)) opened (λ i. unwrap_or (option_or (if own i then Some false else None) (newest (serves_by (Act key)) l)) false)
        by_deed d a event own follows asks on opened deeper =
            let none : serves_by (Act key) (noting a d event) ≡ None = if_same (made_by key a) None in
            begin (noting a d event) l (deeper (sym (still_serves (noting a d event) l asks own refl) ∙ on) (sym (still_open (noting a d event) l none) ∙ opened)) asks none

        by_key : (b : Bool) → made_by key n.entry.actor ≡ b → is_request_at q n.entry.deed ≡ false → (serves q key l ≡ true → is_open (serves_by (Act key)) l ≡ true → Begun l) → Begun (n ∷ l)
        by_key false other asks deeper =
            let none : serves_by (Act key) n ≡ None = rw other refl in
            begin n l (deeper (sym (other_serves n l asks other) ∙ on) (sym (still_open n l none) ∙ opened)) asks none
        by_key true own asks deeper = by_deed n.entry.deed n.entry.actor n.event own past.1 asks on opened deeper

        by_request : (b : Bool) → is_request_at q n.entry.deed ≡ b → (serves q key l ≡ true → is_open (serves_by (Act key)) l ≡ true → Begun l) → Begun (n ∷ l)
        by_request true asks deeper = let off : serves q key (n ∷ l) ≡ false = rw asks refl in clash (serves q key (n ∷ l)) on off
        by_request false asks deeper = by_key (made_by key n.entry.actor) refl asks deeper

  -- ---- the Return

  module _ (q code : ℕ) (ws : List ℤ) where
    -- an entry more after it
    later : (n : Noted) (l : Past) → IsReturnOf q code ws l → is_request_at q n.entry.deed ≡ false → IsReturnOf q code ws (n ∷ l)
    later n l of asks = record {
      key = of.key;
      returning = of.returning;
      starting = of.starting;
      since = n ∷ of.since;
      between = of.between;
      before = of.before;
      event = of.event;
      given = of.given;
      value = of.value;
      whole = ap (λ h. n ∷ h) of.whole;
      returned_by = of.returned_by;
      returned = of.returned;
      returned_words = of.returned_words;
      started_by = of.started_by;
      started = of.started;
      requested = of.requested;
      quiet_since = λ i. not (asks i) && of.quiet_since i;
      quiet_between = of.quiet_between;
      alone = of.alone;
    }

    back_to : (n : Noted) (l : Past) → is_request_at q n.entry.deed ≡ false → returned_by q n.entry.actor n.entry.deed l ≡ None → returned_to q (n ∷ l) ≡ returned_to q l
    back_to n l asks none = rw (asks, none) refl

    now_returned : (n : Noted) (l : Past) (x : ℕ × List ℤ) → is_request_at q n.entry.deed ≡ false → returned_by q n.entry.actor n.entry.deed l ≡ Some x → returned_to q (n ∷ l) ≡ Some x
    now_returned n l x asks some = rw (asks, some) refl

    pub return_of : (l : Past) → IsPastOf p object l → returned_to q l ≡ Some (code, ws) → IsReturnOf q code ws l
    return_of [] past is = absurd (cc is)
    return_of (n ∷ l) past is = by_request (is_request_at q n.entry.deed) refl (return_of l past.0)
      where
        goes_on : (d : Deed) (a : Actor) (event : Option ℕ) → is_request_at q d ≡ false → returned_by q a d l ≡ None → returned_to q (noting a d event ∷ l) ≡ Some (code, ws) → (returned_to q l ≡ Some (code, ws) → IsReturnOf q code ws l)
            → IsReturnOf q code ws (noting a d event ∷ l)
        goes_on d a event asks none is deeper = later (noting a d event) l (deeper (sym (back_to (noting a d event) l asks none) ∙ is)) asks

        by_deed : (d : Deed) (a : Actor) (event : Option ℕ) → Follows p object l (noting a d event) → is_request_at q d ≡ false → returned_to q (noting a d event ∷ l) ≡ Some (code, ws) → (returned_to q l ≡ Some (code, ws) → IsReturnOf q code ws l)
            → IsReturnOf q code ws (noting a d event ∷ l)
        by_deed (deed.Return c v) (Act key) event follows asks is deeper = by_serves (serves q key l) refl
          where
            by_serves : (b : Bool) → serves q key l ≡ b → IsReturnOf q code ws (noting (Act key) (deed.Return c v) event ∷ l)
            by_serves false off = goes_on (deed.Return c v) (Act key) event asks (λ i. if off i then Some (c, words_of v) else None) is deeper
            by_serves true on =
                let gave : Some (c, words_of v) ≡ Some (code, ws) = sym (now_returned (noting (Act key) (deed.Return c v) event) l (c, words_of v) asks (λ i. if on i then Some (c, words_of v) else None)) ∙ is in
                let same : (c, words_of v) ≡ (code, ws) = same_Some (c, words_of v) (code, ws) gave in
                let of = begun q key l past.0 on follows.matching in
                record {
                  key = key;
                  returning = noting (Act key) (deed.Return c v) event;
                  starting = of.starting;
                  since = [];
                  between = of.between;
                  before = of.before;
                  event = of.event;
                  given = of.given;
                  value = v;
                  whole = ap (λ h. noting (Act key) (deed.Return c v) event ∷ h) of.whole;
                  returned_by = refl;
                  returned = ap (λ (x : ℕ × List ℤ). deed.Return x.0 v) same;
                  returned_words = ap (λ (x : ℕ × List ℤ). x.1) same;
                  started_by = of.started_by;
                  started = of.started;
                  requested = of.requested;
                  quiet_since = refl;
                  quiet_between = of.quiet;
                  alone = of.alone;
                }
        by_deed (deed.Return c v) Env event follows asks is deeper = goes_on (deed.Return c v) Env event asks refl is deeper
        by_deed (deed.Return c v) (Machine k) event follows asks is deeper = goes_on (deed.Return c v) (Machine k) event asks refl is deeper
        by_deed d a event follows asks is deeper = goes_on d a event asks (returns_none q a d l refl) is deeper

        by_request : (b : Bool) → is_request_at q n.entry.deed ≡ b → (returned_to q l ≡ Some (code, ws) → IsReturnOf q code ws l) → IsReturnOf q code ws (n ∷ l)
        by_request true asks deeper = let none : returned_to q (n ∷ l) ≡ None = rw asks refl in absurd (cc (sym none ∙ is))
        by_request false asks deeper = by_deed n.entry.deed n.entry.actor n.event past.1 asks is deeper

  -- ---- what is answered

  by_answer : (q code : ℕ) (ws : List ℤ) (l : Past) → IsPastOf p object l → legal.is_some_outcome code ws (answer_to q l) ≡ true → IsReturnOf q code ws l
  by_answer q code ws l past is = by_outstanding (is_outstanding q l) refl (returned_to q l) refl
    where
      by_outstanding : (b : Bool) → is_outstanding q l ≡ b → (o : Option (ℕ × List ℤ)) → returned_to q l ≡ o → IsReturnOf q code ws l
      by_outstanding false off o at = absurd (false≢true (sym (λ i. legal.is_some_outcome code ws (if off i then returned_to q l else None)) ∙ is))
      by_outstanding true on None at = absurd (false≢true (sym (λ i. legal.is_some_outcome code ws (if on i then at i else None)) ∙ is))
      by_outstanding true on (Some x) at =
          let parts = and_parts (code == x.0) (same_words ws x.1) (sym (λ i. legal.is_some_outcome code ws (if on i then at i else None)) ∙ is) in
          let same_code : code ≡ x.0 = eqb-true code x.0 parts.0 in
          let same_ws : ws ≡ x.1 = (same_words-Decides ws x.1).0 parts.1 in
          return_of q code ws l past (at ∙ (λ i. Some (sym same_code i, sym same_ws i)))

  pub answer_own : (l : Past) (a : Actor) (event : Option ℕ) (q code : ℕ) (value : Value) → IsPastOf p object l → Follows p object l (noting a (deed.Answer q code value) event) → IsReturnOf q code (words_of value) l
  answer_own l a event q code value past follows = by_answer q code (words_of value) l past follows.answers.calls

  pub result_own : (l : Past) (a : Actor) (event : Option ℕ) (q code : ℕ) (value : Value) → IsPastOf p object l → Follows p object l (noting a (deed.TakeResult q code value) event) → code < 64 → IsReturnOf q code (words_of value) l
  result_own l a event q code value past follows few =
      let joined = server_is p object server (server_of p q) follows.touching in
      by_result joined (answer_to q l) refl
    where
      by_result : server_of p q ≡ Some s → (o : Option (ℕ × List ℤ)) → answer_to q l ≡ o → IsReturnOf q code (words_of value) l
      by_result joined None is =
          let calls = follows.answers.calls in
          let none = rw (joined, is) at calls in
          let no_data : code ≡ 131 = eqb-true code 131 (and_parts (code == 131) (same_words (words_of value) []) none).0 in
          absurd (omega arith)
      by_result joined (Some x) is =
          let calls = follows.answers.calls in
          let some = rw (joined, is) at calls in
          by_answer q code (words_of value) l past (ap (legal.is_some_outcome code (words_of value)) is ∙ some)
