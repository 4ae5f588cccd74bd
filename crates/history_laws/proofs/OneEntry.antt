-- Of one wish at most one entry may come.
use Rattle.std.proofs.Common.{◌≡◌, ℕ, ℤ, Bool, true, false, ◌&&◌, not, ◌==◌, refl, sym, ◌∙◌, ap, subst, List, [], Option, Some, None}
use Rattle.bus_semantics.specs.Common.{and_parts, eqb-true, false≢true, same_Some, slice_get, ActKey, Step, Value, words_of, same_words, Value-by_words, same_words-Decides, Plan, kind_of}
use Rattle.bus_semantics.specs.Common.{instance_of, server_of, Wanted, wanted_by, Noted, Past, key_fits, event_fits, start_fits, answer_fits, fits, is_key_point, is_request, starts_request}
use Rattle.bus_semantics.specs.Common.{next_request, answer_to, ask_code, result_of, starts_of, requests_of, has_unstarted, elems_of, value_at, moment_of, read_code, is_updated, send_code}
use Rattle.bus_semantics.specs.Common.{received_at, stage_of, switch_code, mode_at_port, is_disabled, first_unbegun, phase_after, phase_may_come, is_due_kind, counts_for, same_bool}
use Rattle.bus_semantics.specs.Common.{admission_allows, is_outcome, is_some_outcome, Answers, starts_its_own, is_proper, MayCome, IsSound}
use Rattle.std.specs.Prelude.{nat_lt, unwrap_or, length}
use Rattle.rte_value.specs.declared.kinds.Step.TheVariants as step
use Rattle.bus_laws.specs.Common.{EventKind, Timing, Init, DataReceived, Invoked, Returns, ModeSwitch, Ack, Mapping, Actor, Env, Machine, Act, Deed, Entry}
use Rattle.bus_semantics.specs.declared.entries.Deed.TheVariants as deed
use Rattle.bus_laws.proofs.Thinning.{noting, option_same}
use Rattle.bus_laws.proofs.LocalServers.{start_owned}
use Rattle.history_laws.proofs.Requests.{Serving, serving, counts_same, unstarted, Unstarted}

same_value : (v w : Value) (ws : List ℤ) → same_words (words_of v) ws ≡ true → same_words (words_of w) ws ≡ true → v ≡ w
same_value v w ws a b = Value-by_words v w ((same_words-Decides (words_of v) ws).0 a ∙ sym ((same_words-Decides (words_of w) ws).0 b))

same_flag : (b c d : Bool) → same_bool b d ≡ true → same_bool c d ≡ true → b ≡ c
same_flag true true d e f = refl
same_flag false false d e f = refl
same_flag true false true e f = absurd (false≢true f)
same_flag true false false e f = absurd (false≢true e)
same_flag false true true e f = absurd (false≢true e)
same_flag false true false e f = absurd (false≢true f)

-- ---- outcomes

record SameOutcome (code other : ℕ) (value held : Value) : Type 0 where
  codes : other ≡ code
  values : held ≡ value

one_outcome : (code other : ℕ) (value held : Value) (o : ℕ × List ℤ) → is_outcome code (words_of value) o ≡ true → is_outcome other (words_of held) o ≡ true → SameOutcome code other value held
one_outcome code other value held o here there =
    let first = and_parts (code == o.0) (same_words (words_of value) o.1) here in
    let second = and_parts (other == o.0) (same_words (words_of held) o.1) there in
    record { codes = eqb-true other o.0 second.0 ∙ sym (eqb-true code o.0 first.0); values = same_value held value o.1 second.1 first.1 }

some_outcome : (code other : ℕ) (value held : Value) (o : Option (ℕ × List ℤ)) → is_some_outcome code (words_of value) o ≡ true → is_some_outcome other (words_of held) o ≡ true → SameOutcome code other value held
some_outcome code other value held None here there = absurd (false≢true here)
some_outcome code other value held (Some o) here there = one_outcome code other value held o here there

-- ---- admissions

one_admission : (p : Plan) (l : Past) (v u : Option ℕ) (said other : Bool) → admission_allows p l v (deed.Admit said) ≡ true → admission_allows p l u (deed.Admit other) ≡ true
    → ((x y : ℕ) → v ≡ Some x → u ≡ Some y → y ≡ x) → other ≡ said
one_admission p l None u said other here there same = absurd (false≢true here)
one_admission p l (Some x) None said other here there same = absurd (false≢true there)
one_admission p l (Some x) (Some y) said other here there same =
    let moved : same_bool other (not (is_disabled p x l)) ≡ true = subst (λ z. same_bool other (not (is_disabled p z l)) ≡ true) (same x y refl refl) there in
    same_flag other said (not (is_disabled p x l)) moved here

-- ---- phases

one_step : (p : Plan) (m : ℕ) (l : Past) (stage s t : Step) → phase_after p m l stage s ≡ true → phase_after p m l stage t ≡ true → t ≡ s
one_step p m l step.Stable (step.Close mode) (step.Close other) here there =
    ap step.Close (same_Some other mode (sym (option_same (first_unbegun m l) (Some other) there) ∙ option_same (first_unbegun m l) (Some mode) here))
one_step p m l (step.Close mode) step.Exit step.Exit here there = refl
one_step p m l step.Exit step.Transition step.Transition here there = refl
one_step p m l step.Transition step.Entry step.Entry here there = refl
one_step p m l step.Entry step.Stable step.Stable here there = refl
one_step p m l step.Stable (step.Close mode) t here there = absurd (false≢true there)
one_step p m l (step.Close mode) step.Exit t here there = absurd (false≢true there)
one_step p m l step.Exit step.Transition t here there = absurd (false≢true there)
one_step p m l step.Transition step.Entry t here there = absurd (false≢true there)
one_step p m l step.Entry step.Stable t here there = absurd (false≢true there)
one_step p m l stage s t here there = absurd (false≢true here)

one_phase : (p : Plan) (a : Actor) (l : Past) (s t : Step) → phase_may_come p a l s ≡ true → phase_may_come p a l t ≡ true → t ≡ s
one_phase p Env l s t here there = absurd (false≢true here)
one_phase p (Machine m) l s t here there = one_step p m l (stage_of m l) s t here there
one_phase p (Act k) l s t here there = absurd (false≢true here)

-- ---- starts

-- a start that no server's event makes has no point and no words
record Unnamed (point : Option ℕ) (value : Value) : Type 0 where
  no_point : point ≡ None
  no_words : same_words (words_of value) [] ≡ true

abbrev is_served : EventKind → Bool
is_served (Invoked s) = true
is_served k = false

nameless : (p : Plan) (k : EventKind) → is_served k ≡ false → (point : Option ℕ) (value : Value) → start_fits p k point (words_of value) ≡ true → Unnamed point value
nameless p (Invoked s) other point value fit = absurd (false≢true (sym other))
nameless p k other None value fit = record { no_point = refl; no_words = fit }
nameless p k other (Some q) value fit = absurd (false≢true fit)

-- a start of a server names a point that is joined to it
record Named (p : Plan) (s : ℕ) (point : Option ℕ) : Type 0 where
  at : ℕ
  is : point ≡ Some at
  joined : server_of p at ≡ Some s

named : (p : Plan) (s : ℕ) (point : Option ℕ) (ws : List ℤ) → start_fits p (Invoked s) point ws ≡ true → Named p s point
named p s None ws fit = absurd (false≢true fit)
named p s (Some q) ws fit = record { at = q; is = refl; joined = option_same (server_of p q) (Some s) fit }

wish_part : (p : Plan) (k : ActKey) (e : ℕ) (point : Option ℕ) (value : Value) (v : Option ℕ) → is_proper p (noting (Act k) (deed.Start e point value) v) ≡ true → key_fits p k ≡ true
wish_part p k e point value v proper =
    let entry : Entry = record { actor = Act k; deed = deed.Start e point value } in
    (and_parts (key_fits p k) (event_fits p (instance_of p k.runnable) e)
    (and_parts (key_fits p k && event_fits p (instance_of p k.runnable) e) (answer_fits p (Act k) (deed.Start e point value))
    (and_parts (fits p entry) (starts_its_own p (Act k) (deed.Start e point value)) proper).0).0).0

module _ (p : Plan) (m : Mapping) (sound : IsSound p m) (l : Past) where
  -- what a server's start names is the next request
  record Takes (point : Option ℕ) (value : Value) (x : ℕ × List ℤ) : Type 0 where
    at : point ≡ Some x.0
    words : same_words x.1 (words_of value) ≡ true

  takes : (k : ActKey) (s : ℕ) (point : Option ℕ) (value : Value) → Serving p s k.point → (u : Unstarted (counts_for p s k.point) l) → start_fits p (Invoked s) point (words_of value) ≡ true
      → starts_request p (Act k) point (words_of value) l ≡ true → Takes point value u.request
  takes k s point value serves u fit starts =
      let of = named p s point (words_of value) fit in
      let parts = and_parts (is_key_point (Act k) of.at) (is_request of.at (words_of value) (next_request p of.at l)) (subst (λ o. starts_request p (Act k) o (words_of value) l ≡ true) of.is starts) in
      let mine : (r : ℕ) → k.point ≡ Some r → r ≡ of.at = λ r is. own_point r is parts.0 in
      let next : next_request p of.at l ≡ Some u.request = ap (λ (f : ℕ → Bool). slice_get (requests_of f l) (starts_of f l)) (counts_same p s of.at k.point serves of.joined mine) ∙ u.is in
      let is : is_request of.at (words_of value) (Some u.request) ≡ true = subst (λ o. is_request of.at (words_of value) o ≡ true) next parts.1 in
      let both = and_parts (u.request.0 == of.at) (same_words u.request.1 (words_of value)) is in
      record { at = of.is ∙ ap (λ n. Some n) (sym (eqb-true u.request.0 of.at both.0)); words = both.1 }
    where
      own_point : (r : ℕ) → k.point ≡ Some r → is_key_point (Act k) (named p s point (words_of value) fit).at ≡ true → r ≡ (named p s point (words_of value) fit).at
      own_point r is mine = eqb-true r _ (subst (λ (o : Option ℕ). is_key_point (Act (record { runnable = k.runnable; point = o })) (named p s point (words_of value) fit).at ≡ true) is mine)

  start_part : (k : ActKey) (e : ℕ) (point : Option ℕ) (value : Value) (v : Option ℕ) → is_proper p (noting (Act k) (deed.Start e point value) v) ≡ true → start_fits p (kind_of p e) point (words_of value) ≡ true
  start_part k e point value v proper =
      let entry : Entry = record { actor = Act k; deed = deed.Start e point value } in
      (and_parts (key_fits p k && event_fits p (instance_of p k.runnable) e) (answer_fits p (Act k) (deed.Start e point value))
      (and_parts (fits p entry) (starts_its_own p (Act k) (deed.Start e point value)) proper).0).1

  served_start : (k : ActKey) (e s : ℕ) (point other : Option ℕ) (value held : Value) (v u : Option ℕ) → kind_of p e ≡ Invoked s
      → is_proper p (noting (Act k) (deed.Start e point value) v) ≡ true → is_proper p (noting (Act k) (deed.Start e other held) u) ≡ true
      → Answers p l (noting (Act k) (deed.Start e point value) v) → Answers p l (noting (Act k) (deed.Start e other held) u) → deed.Start e other held ≡ deed.Start e point value
  served_start k e s point other value held v u kind proper fit here there =
      let serves = serving p m sound k e s kind (start_owned p k e point value v proper) (wish_part p k e point value v proper) in
      let due : has_unstarted (counts_for p s k.point) l ≡ true = subst (λ x. is_due_kind p (Act k) e x l ≡ true) kind here.due in
      let next = unstarted (counts_for p s k.point) l due in
      let first = takes k s point value serves next (subst (λ x. start_fits p x point (words_of value) ≡ true) kind (start_part k e point value v proper)) here.calls in
      let second = takes k s other held serves next (subst (λ x. start_fits p x other (words_of held) ≡ true) kind (start_part k e other held u fit)) there.calls in
      let at : other ≡ point = second.at ∙ sym first.at in
      let words : words_of held ≡ words_of value = sym ((same_words-Decides next.request.1 (words_of held)).0 second.words) ∙ (same_words-Decides next.request.1 (words_of value)).0 first.words in
      let is : held ≡ value = Value-by_words held value words in
      λ i. deed.Start e (at i) (is i)

  unnamed : (point other : Option ℕ) (value held : Value) (e : ℕ) (k : EventKind) → ((o : Option ℕ) (x : Value) → start_fits p k o (words_of x) ≡ true → Unnamed o x)
      → start_fits p k point (words_of value) ≡ true → start_fits p k other (words_of held) ≡ true → deed.Start e other held ≡ deed.Start e point value
  unnamed point other value held e k none here there =
      let first = none point value here in
      let second = none other held there in
      let at : other ≡ point = second.no_point ∙ sym first.no_point in
      let is : held ≡ value = same_value held value [] second.no_words first.no_words in
      λ i. deed.Start e (at i) (is i)

  key_start : (k : ActKey) (e : ℕ) (point other : Option ℕ) (value held : Value) (v u : Option ℕ)
      → is_proper p (noting (Act k) (deed.Start e point value) v) ≡ true → is_proper p (noting (Act k) (deed.Start e other held) u) ≡ true
      → Answers p l (noting (Act k) (deed.Start e point value) v) → Answers p l (noting (Act k) (deed.Start e other held) u) → deed.Start e other held ≡ deed.Start e point value
  key_start k e point other value held v u proper fit here there = by_kind (kind_of p e) refl (start_part k e point value v proper) (start_part k e other held u fit)
    where
      by_kind : (x : EventKind) → kind_of p e ≡ x → start_fits p x point (words_of value) ≡ true → start_fits p x other (words_of held) ≡ true → deed.Start e other held ≡ deed.Start e point value
      by_kind (Invoked s) is a c = served_start k e s point other value held v u is proper fit here there
      by_kind (Timing period) is a c = unnamed point other value held e (Timing period) (nameless p (Timing period) refl) a c
      by_kind Init is a c = unnamed point other value held e Init (nameless p Init refl) a c
      by_kind (DataReceived x) is a c = unnamed point other value held e (DataReceived x) (nameless p (DataReceived x) refl) a c
      by_kind (Returns q) is a c = unnamed point other value held e (Returns q) (nameless p (Returns q) refl) a c
      by_kind (ModeSwitch n moment) is a c = unnamed point other value held e (ModeSwitch n moment) (nameless p (ModeSwitch n moment) refl) a c
      by_kind (Ack n) is a c = unnamed point other value held e (Ack n) (nameless p (Ack n) refl) a c

  start_one : (a : Actor) (e : ℕ) (point other : Option ℕ) (value held : Value) (v u : Option ℕ)
      → is_proper p (noting a (deed.Start e point value) v) ≡ true → is_proper p (noting a (deed.Start e other held) u) ≡ true
      → Answers p l (noting a (deed.Start e point value) v) → Answers p l (noting a (deed.Start e other held) u) → deed.Start e other held ≡ deed.Start e point value
  start_one (Act k) e point other value held v u proper fit here there = key_start k e point other value held v u proper fit here there
  start_one Env e point other value held v u proper fit here there = absurd (false≢true proper)
  start_one (Machine n) e point other value held v u proper fit here there =
      let inside = nat_lt n (length p.machines) in
      let answer = start_fits p (kind_of p e) point (words_of value) in
      absurd (false≢true (and_parts inside false (and_parts (inside && false) answer (and_parts ((inside && false) && answer) true proper).0).0).1)

  -- ---- every deed

  one_deed : (a : Actor) (c d : Deed) (v u : Option ℕ) → is_proper p (noting a c v) ≡ true → is_proper p (noting a d u) ≡ true
      → Answers p l (noting a c v) → Answers p l (noting a d u) → wanted_by (unwrap_or u 0) d ≡ wanted_by (unwrap_or v 0) c → d ≡ c
  one_deed a deed.Tick d v u proper fit here there same = of_deed d fit there same
    where
      of_deed : (d : Deed) → is_proper p (noting a d u) ≡ true → Answers p l (noting a d u) → wanted_by (unwrap_or u 0) d ≡ wanted_by (unwrap_or v 0) deed.Tick → d ≡ deed.Tick
      of_deed deed.Tick f t e =
          refl
      of_deed d f t e = absurd (cc e)
  one_deed a (deed.Start n point value) d v u proper fit here there same = of_deed d fit there same
    where
      of_deed : (d : Deed) → is_proper p (noting a d u) ≡ true → Answers p l (noting a d u) → wanted_by (unwrap_or u 0) d ≡ wanted_by (unwrap_or v 0) (deed.Start n point value) → d ≡ deed.Start n point value
      of_deed (deed.Start o other held) f t e =
          let at : o ≡ n = cc e in
          let fits_at : is_proper p (noting a (deed.Start n other held) u) ≡ true = subst (λ z. is_proper p (noting a (deed.Start z other held) u) ≡ true) at f in
          let answers_at : Answers p l (noting a (deed.Start n other held) u) = subst (λ z. Answers p l (noting a (deed.Start z other held) u)) at t in
          ap (λ z. deed.Start z other held) at ∙ start_one a n point other value held v u proper fits_at here answers_at
      of_deed d f t e = absurd (cc e)
  one_deed a (deed.Admit said) d v u proper fit here there same = of_deed d fit there same
    where
      of_deed : (d : Deed) → is_proper p (noting a d u) ≡ true → Answers p l (noting a d u) → wanted_by (unwrap_or u 0) d ≡ wanted_by (unwrap_or v 0) (deed.Admit said) → d ≡ deed.Admit said
      of_deed (deed.Admit other) f t e =
          ap deed.Admit (one_admission p l v u said other here.admission t.admission (λ x y i j. cc (i, j, e)))
      of_deed d f t e = absurd (cc e)
  one_deed a (deed.Fetch x value) d v u proper fit here there same = of_deed d fit there same
    where
      of_deed : (d : Deed) → is_proper p (noting a d u) ≡ true → Answers p l (noting a d u) → wanted_by (unwrap_or u 0) d ≡ wanted_by (unwrap_or v 0) (deed.Fetch x value) → d ≡ deed.Fetch x value
      of_deed (deed.Fetch y held) f t e =
          let at : y ≡ x = cc e in
          let words : same_words (words_of held) (value_at p x l) ≡ true = subst (λ z. same_words (words_of held) (value_at p z l) ≡ true) at t.unqueued in
          let is : held ≡ value = same_value held value (value_at p x l) words here.unqueued in
          λ i. deed.Fetch (at i) (is i)
      of_deed d f t e = absurd (cc e)
  one_deed a (deed.Write x value) d v u proper fit here there same = of_deed d fit there same
    where
      of_deed : (d : Deed) → is_proper p (noting a d u) ≡ true → Answers p l (noting a d u) → wanted_by (unwrap_or u 0) d ≡ wanted_by (unwrap_or v 0) (deed.Write x value) → d ≡ deed.Write x value
      of_deed (deed.Write y held) f t e =
          let at : y ≡ x = cc e in
          let words : words_of held ≡ words_of value = cc e in
          let is : held ≡ value = Value-by_words held value words in
          λ i. deed.Write (at i) (is i)
      of_deed d f t e = absurd (cc e)
  one_deed a (deed.Publish x value) d v u proper fit here there same = of_deed d fit there same
    where
      of_deed : (d : Deed) → is_proper p (noting a d u) ≡ true → Answers p l (noting a d u) → wanted_by (unwrap_or u 0) d ≡ wanted_by (unwrap_or v 0) (deed.Publish x value) → d ≡ deed.Publish x value
      of_deed (deed.Publish y held) f t e =
          let at : y ≡ x = cc e in
          let words : words_of held ≡ words_of value = cc e in
          let is : held ≡ value = Value-by_words held value words in
          λ i. deed.Publish (at i) (is i)
      of_deed d f t e = absurd (cc e)
  one_deed a (deed.FetchAll x value) d v u proper fit here there same = of_deed d fit there same
    where
      of_deed : (d : Deed) → is_proper p (noting a d u) ≡ true → Answers p l (noting a d u) → wanted_by (unwrap_or u 0) d ≡ wanted_by (unwrap_or v 0) (deed.FetchAll x value) → d ≡ deed.FetchAll x value
      of_deed (deed.FetchAll y held) f t e =
          let at : y ≡ x = cc e in
          let words : same_words (words_of held) (moment_of p (elems_of p x) l) ≡ true = subst (λ z. same_words (words_of held) (moment_of p (elems_of p z) l) ≡ true) at t.unqueued in
          let is : held ≡ value = same_value held value (moment_of p (elems_of p x) l) words here.unqueued in
          λ i. deed.FetchAll (at i) (is i)
      of_deed d f t e = absurd (cc e)
  one_deed a (deed.PublishAll x written value) d v u proper fit here there same = of_deed d fit there same
    where
      of_deed : (d : Deed) → is_proper p (noting a d u) ≡ true → Answers p l (noting a d u) → wanted_by (unwrap_or u 0) d ≡ wanted_by (unwrap_or v 0) (deed.PublishAll x written value) → d ≡ deed.PublishAll x written value
      of_deed (deed.PublishAll y marks held) f t e =
          let at : y ≡ x = cc e in
          let marked : marks ≡ written = cc e in
          let words : words_of held ≡ words_of value = cc e in
          let is : held ≡ value = Value-by_words held value words in
          λ i. deed.PublishAll (at i) (marked i) (is i)
      of_deed d f t e = absurd (cc e)
  one_deed a (deed.Read x code value) d v u proper fit here there same = of_deed d fit there same
    where
      of_deed : (d : Deed) → is_proper p (noting a d u) ≡ true → Answers p l (noting a d u) → wanted_by (unwrap_or u 0) d ≡ wanted_by (unwrap_or v 0) (deed.Read x code value) → d ≡ deed.Read x code value
      of_deed (deed.Read y other held) f t e =
          let at : y ≡ x = cc e in
          let moved : is_outcome other (words_of held) (read_code p x l, value_at p x l) ≡ true = subst (λ z. is_outcome other (words_of held) (read_code p z l, value_at p z l) ≡ true) at t.unqueued in
          let one = one_outcome code other value held (read_code p x l, value_at p x l) here.unqueued moved in
          λ i. deed.Read (at i) (one.codes i) (one.values i)
      of_deed d f t e = absurd (cc e)
  one_deed a (deed.Invalidate x) d v u proper fit here there same = of_deed d fit there same
    where
      of_deed : (d : Deed) → is_proper p (noting a d u) ≡ true → Answers p l (noting a d u) → wanted_by (unwrap_or u 0) d ≡ wanted_by (unwrap_or v 0) (deed.Invalidate x) → d ≡ deed.Invalidate x
      of_deed (deed.Invalidate y) f t e =
          let at : y ≡ x = cc e in
          ap deed.Invalidate at
      of_deed d f t e = absurd (cc e)
  one_deed a (deed.Enter x) d v u proper fit here there same = of_deed d fit there same
    where
      of_deed : (d : Deed) → is_proper p (noting a d u) ≡ true → Answers p l (noting a d u) → wanted_by (unwrap_or u 0) d ≡ wanted_by (unwrap_or v 0) (deed.Enter x) → d ≡ deed.Enter x
      of_deed (deed.Enter y) f t e =
          let at : y ≡ x = cc e in
          ap deed.Enter at
      of_deed d f t e = absurd (cc e)
  one_deed a (deed.Leave x) d v u proper fit here there same = of_deed d fit there same
    where
      of_deed : (d : Deed) → is_proper p (noting a d u) ≡ true → Answers p l (noting a d u) → wanted_by (unwrap_or u 0) d ≡ wanted_by (unwrap_or v 0) (deed.Leave x) → d ≡ deed.Leave x
      of_deed (deed.Leave y) f t e =
          let at : y ≡ x = cc e in
          ap deed.Leave at
      of_deed d f t e = absurd (cc e)
  one_deed a (deed.IsUpdated x said) d v u proper fit here there same = of_deed d fit there same
    where
      of_deed : (d : Deed) → is_proper p (noting a d u) ≡ true → Answers p l (noting a d u) → wanted_by (unwrap_or u 0) d ≡ wanted_by (unwrap_or v 0) (deed.IsUpdated x said) → d ≡ deed.IsUpdated x said
      of_deed (deed.IsUpdated y flag) f t e =
          let at : y ≡ x = cc e in
          let moved : same_bool flag (is_updated p x l) ≡ true = subst (λ z. same_bool flag (is_updated p z l) ≡ true) at t.unqueued in
          let is : flag ≡ said = same_flag flag said (is_updated p x l) moved here.unqueued in
          λ i. deed.IsUpdated (at i) (is i)
      of_deed d f t e = absurd (cc e)
  one_deed a (deed.Send x value code) d v u proper fit here there same = of_deed d fit there same
    where
      of_deed : (d : Deed) → is_proper p (noting a d u) ≡ true → Answers p l (noting a d u) → wanted_by (unwrap_or u 0) d ≡ wanted_by (unwrap_or v 0) (deed.Send x value code) → d ≡ deed.Send x value code
      of_deed (deed.Send y held other) f t e =
          let at : y ≡ x = cc e in
          let words : words_of held ≡ words_of value = cc e in
          let is : held ≡ value = Value-by_words held value words in
          let codes : other ≡ code = eqb-true other (send_code p y l) t.queued ∙ ap (λ z. send_code p z l) at ∙ sym (eqb-true code (send_code p x l) here.queued) in
          λ i. deed.Send (at i) (is i) (codes i)
      of_deed d f t e = absurd (cc e)
  one_deed a (deed.Receive x code value) d v u proper fit here there same = of_deed d fit there same
    where
      of_deed : (d : Deed) → is_proper p (noting a d u) ≡ true → Answers p l (noting a d u) → wanted_by (unwrap_or u 0) d ≡ wanted_by (unwrap_or v 0) (deed.Receive x code value) → d ≡ deed.Receive x code value
      of_deed (deed.Receive y other held) f t e =
          let at : y ≡ x = cc e in
          let moved : is_outcome other (words_of held) (received_at p x l) ≡ true = subst (λ z. is_outcome other (words_of held) (received_at p z l) ≡ true) at t.queued in
          let one = one_outcome code other value held (received_at p x l) here.queued moved in
          λ i. deed.Receive (at i) (one.codes i) (one.values i)
      of_deed d f t e = absurd (cc e)
  one_deed a (deed.Ask q value code) d v u proper fit here there same = of_deed d fit there same
    where
      of_deed : (d : Deed) → is_proper p (noting a d u) ≡ true → Answers p l (noting a d u) → wanted_by (unwrap_or u 0) d ≡ wanted_by (unwrap_or v 0) (deed.Ask q value code) → d ≡ deed.Ask q value code
      of_deed (deed.Ask r held other) f t e =
          let at : r ≡ q = cc e in
          let words : words_of held ≡ words_of value = cc e in
          let is : held ≡ value = Value-by_words held value words in
          let codes : other ≡ code = eqb-true other (ask_code p r l) t.calls ∙ ap (λ z. ask_code p z l) at ∙ sym (eqb-true code (ask_code p q l) here.calls) in
          λ i. deed.Ask (at i) (is i) (codes i)
      of_deed d f t e = absurd (cc e)
  one_deed a (deed.Answer q code value) d v u proper fit here there same = of_deed d fit there same
    where
      of_deed : (d : Deed) → is_proper p (noting a d u) ≡ true → Answers p l (noting a d u) → wanted_by (unwrap_or u 0) d ≡ wanted_by (unwrap_or v 0) (deed.Answer q code value) → d ≡ deed.Answer q code value
      of_deed (deed.Answer r other held) f t e =
          let at : r ≡ q = cc e in
          let moved : is_some_outcome other (words_of held) (answer_to q l) ≡ true = subst (λ z. is_some_outcome other (words_of held) (answer_to z l) ≡ true) at t.calls in
          let one = some_outcome code other value held (answer_to q l) here.calls moved in
          λ i. deed.Answer (at i) (one.codes i) (one.values i)
      of_deed d f t e = absurd (cc e)
  one_deed a (deed.TakeResult q code value) d v u proper fit here there same = of_deed d fit there same
    where
      of_deed : (d : Deed) → is_proper p (noting a d u) ≡ true → Answers p l (noting a d u) → wanted_by (unwrap_or u 0) d ≡ wanted_by (unwrap_or v 0) (deed.TakeResult q code value) → d ≡ deed.TakeResult q code value
      of_deed (deed.TakeResult r other held) f t e =
          let at : r ≡ q = cc e in
          let moved : is_outcome other (words_of held) (result_of p q l) ≡ true = subst (λ z. is_outcome other (words_of held) (result_of p z l) ≡ true) at t.calls in
          let one = one_outcome code other value held (result_of p q l) here.calls moved in
          λ i. deed.TakeResult (at i) (one.codes i) (one.values i)
      of_deed d f t e = absurd (cc e)
  one_deed a (deed.Return code value) d v u proper fit here there same = of_deed d fit there same
    where
      of_deed : (d : Deed) → is_proper p (noting a d u) ≡ true → Answers p l (noting a d u) → wanted_by (unwrap_or u 0) d ≡ wanted_by (unwrap_or v 0) (deed.Return code value) → d ≡ deed.Return code value
      of_deed (deed.Return other held) f t e =
          let codes : other ≡ code = cc e in
          let words : words_of held ≡ words_of value = cc e in
          let is : held ≡ value = Value-by_words held value words in
          λ i. deed.Return (codes i) (is i)
      of_deed d f t e = absurd (cc e)
  one_deed a (deed.Switch n mode code) d v u proper fit here there same = of_deed d fit there same
    where
      of_deed : (d : Deed) → is_proper p (noting a d u) ≡ true → Answers p l (noting a d u) → wanted_by (unwrap_or u 0) d ≡ wanted_by (unwrap_or v 0) (deed.Switch n mode code) → d ≡ deed.Switch n mode code
      of_deed (deed.Switch o to other) f t e =
          let at : o ≡ n = cc e in
          let modes : to ≡ mode = cc e in
          let codes : other ≡ code = eqb-true other (switch_code p o l) t.modes ∙ ap (λ z. switch_code p z l) at ∙ sym (eqb-true code (switch_code p n l) here.modes) in
          λ i. deed.Switch (at i) (modes i) (codes i)
      of_deed d f t e = absurd (cc e)
  one_deed a (deed.Mode port mode) d v u proper fit here there same = of_deed d fit there same
    where
      of_deed : (d : Deed) → is_proper p (noting a d u) ≡ true → Answers p l (noting a d u) → wanted_by (unwrap_or u 0) d ≡ wanted_by (unwrap_or v 0) (deed.Mode port mode) → d ≡ deed.Mode port mode
      of_deed (deed.Mode other to) f t e =
          let at : other ≡ port = cc e in
          let modes : to ≡ mode = eqb-true to (mode_at_port p other l) t.modes ∙ ap (λ z. mode_at_port p z l) at ∙ sym (eqb-true mode (mode_at_port p port l) here.modes) in
          λ i. deed.Mode (at i) (modes i)
      of_deed d f t e = absurd (cc e)
  one_deed a (deed.Phase s) d v u proper fit here there same = of_deed d fit there same
    where
      of_deed : (d : Deed) → is_proper p (noting a d u) ≡ true → Answers p l (noting a d u) → wanted_by (unwrap_or u 0) d ≡ wanted_by (unwrap_or v 0) (deed.Phase s) → d ≡ deed.Phase s
      of_deed (deed.Phase s1) f t e =
          ap deed.Phase (one_phase p a l s s1 here.modes t.modes)
      of_deed d f t e = absurd (cc e)
  one_deed a deed.End d v u proper fit here there same = of_deed d fit there same
    where
      of_deed : (d : Deed) → is_proper p (noting a d u) ≡ true → Answers p l (noting a d u) → wanted_by (unwrap_or u 0) d ≡ wanted_by (unwrap_or v 0) deed.End → d ≡ deed.End
      of_deed deed.End f t e =
          refl
      of_deed d f t e = absurd (cc e)

pub one_entry : (p : Plan) (m : Mapping) (a : Actor) (w : Wanted) (l : Past) (one other : Noted) → IsSound p m → MayCome p a w l one → MayCome p a w l other → other.entry ≡ one.entry
one_entry p m a w l one other sound first second =
    let who : other.entry.actor ≡ one.entry.actor = second.actor ∙ sym first.actor in
    let proper : is_proper p (noting one.entry.actor other.entry.deed other.event) ≡ true = subst (λ x. is_proper p (noting x other.entry.deed other.event) ≡ true) who second.follows.proper in
    let answers : Answers p l (noting one.entry.actor other.entry.deed other.event) = subst (λ x. Answers p l (noting x other.entry.deed other.event)) who second.follows.answers in
    let is : other.entry.deed ≡ one.entry.deed =
    one_deed p m sound l one.entry.actor one.entry.deed other.entry.deed one.event other.event first.follows.proper proper first.follows.answers answers (second.wish ∙ sym first.wish) in
    λ i. record { actor = who i; deed = is i }
