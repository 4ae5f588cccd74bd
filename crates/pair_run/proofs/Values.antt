-- What goes over a link: on two is sent what on one was taken, and where a run was cut off, at most one value less.
use Rattle.std.proofs.Common.{◌≡◌, ◌⊎◌, ℕ, ℤ, zero, suc, Bool, true, false, not, ◌&&◌, ◌||◌, ◌==◌, cond, List, [], ◌∷◌, ◌++◌, replicate, Some, inl, inr, refl, sym, ap, ◌∙◌, subst}
use Rattle.std.proofs.Common.{append_assoc, append-nil}
use Rattle.bus_semantics.specs.Common.{All, AllByRecursion, list_all, slice_get, and_from, and_parts, and_right, eq-eqb, eqb-true, false≢true, false_from_ne_true, not-true, All-head}
use Rattle.bus_semantics.specs.Common.{All-tail, list_all-append, Value, words_of, History, is_environment, Plan, Item, Session, made, run_begins, run_closes, history_of, Ordered, a_run}
use Rattle.bus_semantics.specs.Common.{a_call, orders_of, orders_of_entry, orders_of_script, IsSound, Wanted, to_tick, to_receive, to_send, wanted_of}
use Rattle.std.proofs.lemmas.Bool.{not_from_false}
use Rattle.bus_laws.specs.Common.{Actor, Env, Deed, Entry, Line, Mapping}
use Rattle.bus_semantics.specs.declared.entries.Deed.TheVariants as deed
use Rattle.bus_semantics.specs.declared.script.Line.TheVariants as line
use Rattle.signal_link.specs.declared.link_elem.LinkElem.{LinkElem}
use Rattle.pair_run.specs.Common.{Then, InOrder, Takes, Sends, FindsNone, Passes, Passed, Drains, Crosses, Did, Makes, Follows, Joint, Side, one, two, side_of, all_on, links_of}
use Rattle.pair_run.specs.Common.{is_link_receive, IsPairLine}
use Rattle.pair_run.specs.Parts.{all_by_environment, value_sent, value_taken, values_sent, values_taken}
use Rattle.pair_run.proofs.Joints.{side-append}
use Rattle.pair_run.proofs.Limits.{history-append}
use Rattle.pair_run.proofs.Linking.{in_by_out, is_link_of, out_by_in}
use Rattle.pair_run.proofs.Sides.{IsRead, any_of, call_off, of_each}

-- ---- two ways to part a list

data Parted {X : Type 0} (a b c d : List X) : Type 0 where
  in_first : (m : List X) → a ≡ c ++ m → d ≡ m ++ b → Parted a b c d
  in_second : (m : List X) → c ≡ a ++ m → b ≡ m ++ d → Parted a b c d

abbrev first_or : {X : Type 0} → X → List X → X
first_or x [] = x
first_or x (y ∷ ys) = y

abbrev behind_first : {X : Type 0} → List X → List X
behind_first [] = []
behind_first (y ∷ ys) = ys

parted : {X : Type 0} (a b c d : List X) → a ++ b ≡ c ++ d → Parted a b c d
parted [] b c d e = in_second c refl e
parted (x ∷ a) b [] d e = in_first (x ∷ a) refl (sym e)
parted {X} (x ∷ a) b (y ∷ c) d e = step (ap (first_or x) e) (parted a b c d (ap behind_first e))
  where
    step : x ≡ y → Parted a b c d → Parted (x ∷ a) b (y ∷ c) d
    step same (in_first m p q) = in_first m (ap (λ (z : X). z ∷ a) same ∙ ap (λ (zs : List X). y ∷ zs) p) q
    step same (in_second m p q) = in_second m (ap (λ (z : X). z ∷ c) (sym same) ∙ ap (λ (zs : List X). x ∷ zs) p) q

-- of one item
alone : {X : Type 0} (x : X) (later i : List X) → x ∷ [] ≡ later ++ i → (i ≡ []) ⊎ (i ≡ x ∷ [])
alone x [] i e = inr (sym e)
alone x (y ∷ []) i e = inl (sym (ap behind_first e))
alone x (y ∷ z ∷ later) i e = absurd (cc (ap behind_first e))

-- ---- what the environment did with values

abbrev Words : Type 0
Words = List (List ℤ)

did-append : (f : Deed → Words) (newer older : History) → all_by_environment f (newer ++ older) ≡ all_by_environment f older ++ all_by_environment f newer
did-append f [] older = sym (append-nil (all_by_environment f older))
did-append f (e ∷ newer) older =
    ap (λ (ws : Words). ws ++ cond (is_environment e.actor) (f e.deed) []) (did-append f newer older)
    ∙ append_assoc (all_by_environment f older) (all_by_environment f newer) (cond (is_environment e.actor) (f e.deed) [])

abbrev values_on : (k : Side) → (Deed → Words) → Joint → Words
values_on k f j = all_by_environment f (history_of (side_of k j))

values_read : (k : Side) (f : Deed → Words) → IsRead (values_on k f)
values_read k f = record {
  none = refl;
  both = λ newer older.
      ap (λ (s : Session). all_by_environment f (history_of s)) (side-append k newer older)
      ∙ ap (all_by_environment f) (history-append (side_of k newer) (side_of k older))
      ∙ did-append f (history_of (side_of k newer)) (history_of (side_of k older));
}

value_by : (f : Deed → Words) (e : Entry) → e.actor ≡ Env → all_by_environment f (e ∷ []) ≡ f e.deed
value_by f e by = ap (λ (b : Bool). cond b (f e.deed) []) (ap is_environment by)

-- the order receives from the element, or sends to it
abbrev takes_from : ℕ → Ordered → Bool
takes_from x (a_call (to_receive y)) = x == y
takes_from x o = false

abbrev gives_to : ℕ → Ordered → Bool
gives_to x (a_call (to_send y ws)) = x == y
gives_to x o = false

-- ---- one link

module _ (l : LinkElem) where
  abbrev T : Joint → Words
  T j = values_taken l.out_elem (history_of (side_of one j))

  abbrev S : Joint → Words
  S j = values_sent l.in_elem (history_of (side_of two j))

  T_read : (newer older : Joint) → T (newer ++ older) ≡ T older ++ T newer
  T_read newer older = (values_read one (value_taken l.out_elem)).both newer older

  S_read : (newer older : Joint) → S (newer ++ older) ≡ S older ++ S newer
  S_read newer older = (values_read two (value_sent l.in_elem)).both newer older

  -- what was sent is what was taken, but maybe the last
  abbrev Begun : Joint → Type 0
  Begun i = (left : Words) × (T i ≡ S i ++ left)

  record IsEven (A : Joint → Type 0) : Type 0 where
    whole : (j : Joint) → A j → T j ≡ S j
    cut : (j : Joint) → A j → (later i : Joint) → j ≡ later ++ i → Begun i

  even_begun : (j : Joint) → T j ≡ S j → Begun j
  even_begun j same = ([], same ∙ sym (append-nil (S j)))

  begun_onto : (m first : Joint) → T first ≡ S first → Begun m → Begun (m ++ first)
  begun_onto m first same b = (
    b.0,
    T_read m first ∙ ap (λ (ws : Words). ws ++ T m) same ∙ ap (λ (ws : Words). S first ++ ws) b.1 ∙ sym (append_assoc (S first) (S m) b.0)
        ∙ ap (λ (ws : Words). ws ++ b.0) (sym (S_read m first)),
  )

  then_even : (A B : Joint → Type 0) → IsEven A → IsEven B → IsEven (Then A B)
  then_even A B a b = record { whole = whole; cut = cut }
    where
      whole : (j : Joint) → Then A B j → T j ≡ S j
      whole j t =
          ap T t.is ∙ T_read t.rest t.first ∙ ap (λ (ws : Words). ws ++ T t.rest) (a.whole t.first t.before) ∙ ap (λ (ws : Words). S t.first ++ ws) (b.whole t.rest t.after)
          ∙ sym (S_read t.rest t.first) ∙ ap S (sym t.is)

      by_part : (t : (j : Joint) × Then A B j) (later i : Joint) → Parted t.1.rest t.1.first later i → Begun i
      by_part t later i (in_first m rest is) =
          subst Begun (sym is) (begun_onto m t.1.first (a.whole t.1.first t.1.before) (b.cut t.1.rest t.1.after later m rest))
      by_part t later i (in_second m more is) = a.cut t.1.first t.1.before m i is

      cut : (j : Joint) → Then A B j → (later i : Joint) → j ≡ later ++ i → Begun i
      cut j t later i is = by_part (j, t) later i (parted t.rest t.first later i (sym t.is ∙ is))

  nothing_even : IsEven (λ j. j ≡ [])
  nothing_even = record { whole = λ j is. ap T is ∙ sym (ap S is); cut = λ j none later i is. empty later i (sym none ∙ is) }
    where
      empty : (later i : Joint) → [] ≡ later ++ i → Begun i
      empty [] i e = subst Begun e (even_begun [] refl)
      empty (x ∷ later) i e = absurd (cc e)

  order_even : {Y : Type 0} → (kind : Y → Joint → Type 0) (ys : List Y) → AllByRecursion (λ (y : Y). IsEven (kind y)) ys → IsEven (InOrder kind ys)
  order_even kind [] all = nothing_even
  order_even kind (y ∷ ys) all = then_even (kind y) (InOrder kind ys) all.0 (order_even kind ys all.1)

  -- ---- items that say nothing of the link

  abbrev AreSilent : Joint → Type 0
  AreSilent j = AllByRecursion (λ (i : Side × Item). (T (i ∷ []) ≡ []) × (S (i ∷ []) ≡ [])) j

  silent : (j : Joint) → AreSilent j → (T j ≡ []) × (S j ≡ [])
  silent [] all = (refl, refl)
  silent (i ∷ j) all =
      let more = silent j all.1 in
      (T_read (i ∷ []) j ∙ ap (λ (ws : Words). ws ++ T (i ∷ [])) more.0 ∙ all.0.0, S_read (i ∷ []) j ∙ ap (λ (ws : Words). ws ++ S (i ∷ [])) more.1 ∙ all.0.1)

  silent_behind : (later i : Joint) → AreSilent (later ++ i) → AreSilent i
  silent_behind [] i all = all
  silent_behind (x ∷ later) i all = silent_behind later i all.1

  silent_even : (A : Joint → Type 0) → ((j : Joint) → A j → AreSilent j) → IsEven A
  silent_even A f = record {
    whole = λ j a. (silent j (f j a)).0 ∙ sym (silent j (f j a)).1;
    cut = λ j a later i is. (let all = silent i (silent_behind later i (subst AreSilent is (f j a))) in even_begun i (all.0 ∙ sym all.1));
  }

  -- ---- a session in which nothing is received from the link's element, or nothing sent to it

  not_same : (a b : ℕ) → not (a == b) ≡ true → (a == b) ≡ false
  not_same a b h = not-true (a == b) h

  entry_takes_none : (a : Actor) (d : Deed) → list_all (λ (o : Ordered). not (takes_from l.out_elem o)) (orders_of_entry (record { actor = a; deed = d })) ≡ true
      → all_by_environment (value_taken l.out_elem) ((let e : Entry = record { actor = a; deed = d } in e) ∷ []) ≡ []
  entry_takes_none Env (deed.Receive y code value) h =
      ap (λ (b : Bool). cond (b && ((code == 0) || (code == 64))) (words_of value ∷ []) []) (not_same l.out_elem y (and_parts (not (l.out_elem == y)) true h).0)
  entry_takes_none a d h = refl

  entry_sends_none : (a : Actor) (d : Deed) → list_all (λ (o : Ordered). not (gives_to l.in_elem o)) (orders_of_entry (record { actor = a; deed = d })) ≡ true
      → all_by_environment (value_sent l.in_elem) ((let e : Entry = record { actor = a; deed = d } in e) ∷ []) ≡ []
  entry_sends_none Env (deed.Send y value code) h =
      ap (λ (b : Bool). cond b (words_of value ∷ []) []) (not_same l.in_elem y (and_parts (not (l.in_elem == y)) true h).0)
  entry_sends_none a d h = refl

  one_silent : (s : Session) → list_all (λ (o : Ordered). not (takes_from l.out_elem o)) (orders_of s) ≡ true → AreSilent (all_on one s)
  one_silent [] h = tt
  one_silent (made e ∷ s) h =
      let two_parts = and_parts (list_all (λ (o : Ordered). not (takes_from l.out_elem o)) (orders_of s)) _
      (sym (list_all-append (λ (o : Ordered). not (takes_from l.out_elem o)) (orders_of s) (orders_of_entry e)) ∙ h) in
      ((entry_takes_none e.actor e.deed two_parts.1, refl), one_silent s two_parts.0)
  one_silent (run_begins ∷ s) h = (
    (refl, refl),
    one_silent s (and_parts (list_all (λ (o : Ordered). not (takes_from l.out_elem o)) (orders_of s)) true
        (sym (list_all-append (λ (o : Ordered). not (takes_from l.out_elem o)) (orders_of s) (a_run ∷ [])) ∙ h)).0,
  )
  one_silent (run_closes word ∷ s) h = ((refl, refl), one_silent s h)

  two_silent : (s : Session) → list_all (λ (o : Ordered). not (gives_to l.in_elem o)) (orders_of s) ≡ true → AreSilent (all_on two s)
  two_silent [] h = tt
  two_silent (made e ∷ s) h =
      let two_parts = and_parts (list_all (λ (o : Ordered). not (gives_to l.in_elem o)) (orders_of s)) _
      (sym (list_all-append (λ (o : Ordered). not (gives_to l.in_elem o)) (orders_of s) (orders_of_entry e)) ∙ h) in
      ((refl, entry_sends_none e.actor e.deed two_parts.1), two_silent s two_parts.0)
  two_silent (run_begins ∷ s) h = (
    (refl, refl),
    two_silent s (and_parts (list_all (λ (o : Ordered). not (gives_to l.in_elem o)) (orders_of s)) true
        (sym (list_all-append (λ (o : Ordered). not (gives_to l.in_elem o)) (orders_of s) (a_run ∷ [])) ∙ h)).0,
  )
  two_silent (run_closes word ∷ s) h = ((refl, refl), two_silent s h)

  ticks_all : (f : Ordered → Bool) → f (a_call to_tick) ≡ true → (n : ℕ) → list_all f (replicate n (a_call to_tick) ++ []) ≡ true
  ticks_all f h zero = refl
  ticks_all f h (suc n) = and_from (f (a_call to_tick)) _ h (ticks_all f h n)

  did_one : (k : Line) → list_all (λ (o : Ordered). not (takes_from l.out_elem o)) (orders_of_script (k ∷ [])) ≡ true → IsEven (Did one k)
  did_one k none = silent_even (Did one k)
      (λ j d. subst AreSilent (sym d.is) (one_silent d.session (ap (list_all (λ (o : Ordered). not (takes_from l.out_elem o))) d.of_line.orders ∙ none)))

  did_two : (k : Line) → list_all (λ (o : Ordered). not (gives_to l.in_elem o)) (orders_of_script (k ∷ [])) ≡ true → IsEven (Did two k)
  did_two k none = silent_even (Did two k)
      (λ j d. subst AreSilent (sym d.is) (two_silent d.session (ap (list_all (λ (o : Ordered). not (gives_to l.in_elem o))) d.of_line.orders ∙ none)))

  -- ---- what passes over a link

  module _ (k : LinkElem) (same : (l.out_elem == k.out_elem) ≡ (l.in_elem == k.in_elem)) where
    abbrev passed : Value → Words
    passed v = cond (l.out_elem == k.out_elem) (words_of v ∷ []) []

    codes_take : (code : ℕ) → (code ≡ 0) ⊎ (code ≡ 64) → ((code == 0) || (code == 64)) ≡ true
    codes_take code (inl is) = ap (λ (n : ℕ). (n == 0) || (n == 64)) is
    codes_take code (inr is) = ap (λ (n : ℕ). (n == 0) || (n == 64)) is

    codes_none : (code : ℕ) → (code ≡ 131) ⊎ (code ≡ 134) → ((code == 0) || (code == 64)) ≡ false
    codes_none code (inl is) = ap (λ (n : ℕ). (n == 0) || (n == 64)) is
    codes_none code (inr is) = ap (λ (n : ℕ). (n == 0) || (n == 64)) is

    and_true : (b : Bool) → (b && true) ≡ b
    and_true true = refl
    and_true false = refl

    taken_one : (v : Value) (j : Joint) → Takes k v j → (T j ≡ passed v) × (S j ≡ [])
    taken_one v j t = (
      ap T t.is ∙ value_by (value_taken l.out_elem) t.entry t.by_one ∙ ap (value_taken l.out_elem) t.received
          ∙ ap (λ (b : Bool). cond ((l.out_elem == k.out_elem) && b) (words_of v ∷ []) []) (codes_take t.code t.taking)
          ∙ ap (λ (b : Bool). cond b (words_of v ∷ []) []) (and_true (l.out_elem == k.out_elem)),
      ap S t.is,
    )

    sent_two : (v : Value) (j : Joint) → Sends k v j → (T j ≡ []) × (S j ≡ passed v)
    sent_two v j t =
        (ap T t.is, ap S t.is ∙ value_by (value_sent l.in_elem) t.entry t.by_two ∙ ap (value_sent l.in_elem) t.sent ∙ ap (λ (b : Bool). cond b (words_of v ∷ []) []) (sym same))

    none_even : IsEven (FindsNone k)
    none_even = silent_even (FindsNone k) (λ j t. subst AreSilent (sym t.is) (
      (
        value_by (value_taken l.out_elem) t.entry t.by_one ∙ ap (value_taken l.out_elem) t.received
            ∙ ap (λ (b : Bool). cond b (words_of t.value ∷ []) []) (and_right (l.out_elem == k.out_elem) _ (codes_none t.code t.none)),
        refl,
      ),
      tt,
    ))

    pass_whole : (j : Joint) → Passes k j → T j ≡ S j
    pass_whole j p =
        let t = p.1 in
        let taken = taken_one p.0 t.first t.before in
        let sent = sent_two p.0 t.rest t.after in
        ap T t.is ∙ T_read t.rest t.first ∙ ap (λ (ws : Words). ws ++ T t.rest) taken.0 ∙ ap (λ (ws : Words). passed p.0 ++ ws) sent.0 ∙ append-nil (passed p.0)
        ∙ sym sent.1 ∙ ap (λ (ws : Words). ws ++ S t.rest) (sym taken.1) ∙ sym (S_read t.rest t.first) ∙ ap S (sym t.is)

    pass_parts : (j : Joint) (v : Value) (t : Then (Takes k v) (Sends k v) j) (later i : Joint) → Parted t.rest t.first later i → Begun i
    pass_parts j v t later i part = by_part part
      where
        taken_begun : Begun t.first
        taken_begun = (T t.first, ap (λ (ws : Words). ws ++ T t.first) (sym (taken_one v t.first t.before).1))

        by_rest : (m : Joint) → i ≡ m ++ t.first → (m ≡ []) ⊎ (m ≡ (two, made t.after.entry) ∷ []) → Begun i
        by_rest m e (inl none) = subst Begun (sym (e ∙ ap (λ (r : Joint). r ++ t.first) none)) taken_begun
        by_rest m e (inr all) =
            subst Begun (sym (e ∙ ap (λ (r : Joint). r ++ t.first) (all ∙ sym t.after.is) ∙ sym t.is)) (even_begun j (pass_whole j (v, t)))

        by_first : (i ≡ []) ⊎ (i ≡ (one, made t.before.entry) ∷ []) → Begun i
        by_first (inl none) = subst Begun (sym none) (even_begun [] refl)
        by_first (inr all) = subst Begun (sym (all ∙ sym t.before.is)) taken_begun

        by_part : Parted t.rest t.first later i → Begun i
        by_part (in_first m rest e) = by_rest m e (alone (let x : Side × Item = (two, made t.after.entry) in x) later m (sym t.after.is ∙ rest))
        by_part (in_second m more e) = by_first (alone (let x : Side × Item = (one, made t.before.entry) in x) m i (sym t.before.is ∙ e))

    pass_cut : (j : Joint) → (p : Passes k j) → (later i : Joint) → j ≡ later ++ i → Begun i
    pass_cut j p later i is = pass_parts j p.0 p.1 later i (parted p.1.rest p.1.first later i (sym p.1.is ∙ is))

    pass_even : IsEven (Passes k)
    pass_even = record { whole = pass_whole; cut = pass_cut }

    passed_even : (n : ℕ) → IsEven (Passed k n)
    passed_even zero = nothing_even
    passed_even (suc n) = then_even (Passed k n) (Passes k) (passed_even n) pass_even

    drains_even : IsEven (Drains k)
    drains_even = record {
      whole = λ j d. (then_even (Passed k d.0) (FindsNone k) (passed_even d.0) none_even).whole j d.1;
      cut = λ j d. (then_even (Passed k d.0) (FindsNone k) (passed_even d.0) none_even).cut j d.1;
    }

-- ---- all links of a pair

module _ (p q : Plan) (m : Mapping) (sound : IsSound p m) (number : ℕ) (l : LinkElem) (here : slice_get (links_of p q) number ≡ Some l) where
  same_ends : (i : ℕ) (k : LinkElem) → slice_get (links_of p q) i ≡ Some k → (l.out_elem == k.out_elem) ≡ (l.in_elem == k.in_elem)
  same_ends i k at = step (l.out_elem == k.out_elem) refl
    where
      step : (b : Bool) → (l.out_elem == k.out_elem) ≡ b → (l.out_elem == k.out_elem) ≡ (l.in_elem == k.in_elem)
      step true is =
          is ∙ sym (eq-eqb l.in_elem k.in_elem (in_by_out p q l k (is_link_of p q number l here) (is_link_of p q i k at) (eqb-true l.out_elem k.out_elem is)))
      step false is =
          is ∙ sym (false_from_ne_true (l.in_elem == k.in_elem) (λ e.
          false≢true (sym is ∙ eq-eqb l.out_elem k.out_elem (out_by_in p q m l k sound (is_link_of p q number l here) (is_link_of p q i k at) (eqb-true l.in_elem k.in_elem e)))))

  crosses_even : IsEven l (Crosses (links_of p q))
  crosses_even = order_even l Drains (links_of p q) (of_each (λ (k : LinkElem). IsEven l (Drains k)) (links_of p q) (λ i k at. drains_even l k (same_ends i k at)))

  -- a call of the script does not receive from the link's element
  call_takes_none : (c : Wanted) → is_link_receive (links_of p q) (a_call c) ≡ false → not (takes_from l.out_elem (a_call c)) ≡ true
  call_takes_none (to_receive x) off =
      not_from_false (l.out_elem == x) (false_from_ne_true (l.out_elem == x) (λ e. false≢true (sym off ∙ any_of (λ (k : LinkElem). k.out_elem == x) (links_of p q) number l here e)))
  call_takes_none c off = refl

  line_even : (k : Line) → IsPairLine p (links_of p q) k → IsEven l (Makes (links_of p q) k)
  line_even (line.Tick n) is =
      then_even l (Did one (line.Tick n)) (Did two (line.Tick n))
      (did_one l (line.Tick n) (ticks_all l (λ (o : Ordered). not (takes_from l.out_elem o)) refl n))
      (did_two l (line.Tick n) (ticks_all l (λ (o : Ordered). not (gives_to l.in_elem o)) refl n))
  line_even line.Run is =
      then_even l (Did one line.Run) (Then (Crosses (links_of p q)) (Did two line.Run)) (did_one l line.Run refl)
      (then_even l (Crosses (links_of p q)) (Did two line.Run) crosses_even (did_two l line.Run refl))
  line_even (line.Call w) is =
      did_one l (line.Call w) (and_from (not (takes_from l.out_elem (a_call (wanted_of w)))) true
      (call_takes_none (wanted_of w) (call_off p (links_of p q) (wanted_of w) is.carriable is.off)) refl)

  lines_even : (script : List Line) → All (IsPairLine p (links_of p q)) script → AllByRecursion (λ (k : Line). IsEven l (Makes (links_of p q) k)) script
  lines_even [] all = tt
  lines_even (k ∷ script) all =
      (line_even k (All-head (IsPairLine p (links_of p q)) k script all), lines_even script (All-tail (IsPairLine p (links_of p q)) k script all))

  script_even : (script : List Line) → All (IsPairLine p (links_of p q)) script → IsEven l (Follows (links_of p q) script)
  script_even script all = order_even l (Makes (links_of p q)) script (lines_even script all)

  pub all_arrive : (script : List Line) (j : Joint) → All (IsPairLine p (links_of p q)) script → Follows (links_of p q) script j
      → values_sent l.in_elem (history_of (side_of two j)) ≡ values_taken l.out_elem (history_of (side_of one j))
  all_arrive script j all follows = sym ((script_even script all).whole j follows)

  pub some_arrive : (script : List Line) (later j : Joint) → All (IsPairLine p (links_of p q)) script → Follows (links_of p q) script (later ++ j)
      → (left : Words) × (values_taken l.out_elem (history_of (side_of one j)) ≡ values_sent l.in_elem (history_of (side_of two j)) ++ left)
  some_arrive script later j all follows = (script_even script all).cut (later ++ j) follows later j refl
