-- The values that a queue accepted are those of the sends that found room.
use Rattle.std.proofs.Common.{◌≡◌, ◌↔◌, ◌<◌, ◌≤◌, ◌⊎◌, inl, inr, ℕ, zero, suc, ◌+◌, ℤ, List, [], ◌∷◌, ◌++◌, length, Bool, true, false, ◌||◌, ◌==◌, if◌then◌else◌, Option, Some, None, refl}
use Rattle.std.proofs.Common.{sym, ◌∙◌, ap, subst, arith}
use Rattle.bus_semantics.specs.Common.{slice_get, option_map_or, and_parts, eqb-true, false≢true, nat_tests, same_Some, length-append, Value, words_of, same_words-Decides, Plan, Noted, Past}
use Rattle.bus_semantics.specs.Common.{sent_in, sent_to, takes_at, taken_at, with_sent, is_room, places_at, accepted_at, has_room_at, has_lost, received_at, is_outcome}
use Rattle.bus_laws.specs.Common.{ElemPlan, Deed, IsAccepted}
use Rattle.bus_semantics.specs.declared.entries.Deed.TheVariants as deed

-- ---- a list with one more at its end

stays : {X : Type 0} (xs : List X) (y x : X) (k : ℕ) → slice_get xs k ≡ Some x → slice_get (xs ++ y ∷ []) k ≡ Some x
stays [] y x k at = cc
stays (a ∷ xs) y x zero at = at
stays (a ∷ xs) y x (suc k) at = stays xs y x k at

pub at_length : {X : Type 0} (xs : List X) (y : X) → slice_get (xs ++ y ∷ []) (length xs) ≡ Some y
at_length [] y = refl
at_length (a ∷ xs) y = at_length xs y

-- what is found stood there before, or is the one at the end
pub record Last (X : Type 0) (xs : List X) (y x : X) (k : ℕ) : Type 0 where
  pub place : length xs ≡ k
  pub same : y ≡ x

found_in : {X : Type 0} (xs : List X) (y x : X) (k : ℕ) → slice_get (xs ++ y ∷ []) k ≡ Some x → (slice_get xs k ≡ Some x) ⊎ Last X xs y x k
found_in [] y x zero at = inr (record { place = refl; same = same_Some y x at })
found_in [] y x (suc k) at = cc
found_in (a ∷ xs) y x zero at = inl at
found_in (a ∷ xs) y x (suc k) at = elim (found_in xs y x k at) [
  | inl before ↦ inl before
  | inr last ↦ inr (record { place = ap suc last.place; same = last.same })
]

-- ---- one more entry

module _ (p : Plan) (x : ℕ) where
  -- a later entry adds at most one value, at the end
  with_more : (o : Option (List ℤ)) (room : Bool) (before : List (List ℤ)) (k : ℕ) (ws : List ℤ) → slice_get before k ≡ Some ws → slice_get (with_sent o room before) k ≡ Some ws
  with_more None room before k ws at = at
  with_more (Some v) false before k ws at = at
  with_more (Some v) true before k ws at = stays before v ws k at

  one_later : (n : Noted) (h : Past) (k : ℕ) (ws : List ℤ) → IsAccepted p x k ws h → IsAccepted p x k ws (n ∷ h)
  one_later n h k ws r = record {
    later = n ∷ r.later;
    send = r.send;
    before = r.before;
    whole = ap (λ (l : Past). n ∷ l) r.whole;
    sent = r.sent;
    after = r.after;
    room = r.room;
  }

  now : (n : Noted) (h : Past) (k : ℕ) (ws v : List ℤ) → sent_to p x n.entry.deed ≡ Some v → has_room_at p x h ≡ true → Last (List ℤ) (accepted_at p x h) v ws k → IsAccepted p x k ws (n ∷ h)
  now n h k ws v sent room last = record {
    later = [];
    send = n;
    before = h;
    whole = refl;
    sent = sent ∙ ap (λ u. Some u) last.same;
    after = last.place;
    room = let place = last.place in grind (arith, nat_tests);
  }

  one_more : (n : Noted) (h : Past) (k : ℕ) (ws : List ℤ) (o : Option (List ℤ)) (room : Bool) → sent_to p x n.entry.deed ≡ o → has_room_at p x h ≡ room
      → (slice_get (accepted_at p x h) k ≡ Some ws → IsAccepted p x k ws h)
      → slice_get (with_sent o room (accepted_at p x h)) k ≡ Some ws → IsAccepted p x k ws (n ∷ h)
  one_more n h k ws None room sent is rest at = one_later n h k ws (rest at)
  one_more n h k ws (Some v) false sent is rest at = one_later n h k ws (rest at)
  one_more n h k ws (Some v) true sent is rest at = elim (found_in (accepted_at p x h) v ws k at) [
    | inl before ↦ one_later n h k ws (rest before)
    | inr last ↦ now n h k ws v sent is last
  ]

  accepted_there : (k : ℕ) (ws : List ℤ) (h : Past) → slice_get (accepted_at p x h) k ≡ Some ws → IsAccepted p x k ws h
  accepted_there k ws [] at = cc
  accepted_there k ws (n ∷ h) at = one_more n h k ws (sent_to p x n.entry.deed) (has_room_at p x h) refl refl (accepted_there k ws h) at

  -- ---- and back

  room_is : (h : Past) → length (accepted_at p x h) < taken_at x h + places_at p x → has_room_at p x h ≡ true
  room_is h less = grind (arith, nat_tests)

  there_accepted : (k : ℕ) (ws : List ℤ) (later : Past) (send : Noted) (before : Past) → sent_to p x send.entry.deed ≡ Some ws → length (accepted_at p x before) ≡ k
      → k < taken_at x before + places_at p x → slice_get (accepted_at p x (later ++ send ∷ before)) k ≡ Some ws
  there_accepted k ws [] send before sent place room =
      let less : length (accepted_at p x before) < taken_at x before + places_at p x = omega arith in
      ap (λ o. slice_get (with_sent o (has_room_at p x before) (accepted_at p x before)) k) sent
      ∙ (ap (λ b. slice_get (with_sent (Some ws) b (accepted_at p x before)) k) (room_is before less)
      ∙ (ap (slice_get (accepted_at p x before ++ ws ∷ [])) (sym place) ∙ at_length (accepted_at p x before) ws))
  there_accepted k ws (n ∷ later) send before sent place room =
      with_more (sent_to p x n.entry.deed) (has_room_at p x (later ++ send ∷ before)) (accepted_at p x (later ++ send ∷ before)) k ws
      (there_accepted k ws later send before sent place room)

  pub accepted : (place : ℕ) (words : List ℤ) (h : Past) → (slice_get (accepted_at p x h) place ≡ Some words) ↔ IsAccepted p x place words h
  accepted place words h = (
    accepted_there place words h,
    λ r. subst (λ (l : Past). slice_get (accepted_at p x l) place ≡ Some words) (sym r.whole) (there_accepted place words r.later r.send r.before r.sent r.after r.room),
  )

  -- ---- never more than the places

  grown : (o : Option (List ℤ)) (room : Bool) (before : List (List ℤ)) (taken places : ℕ) → is_room (length before) taken places ≡ room → length before ≤ taken + places
      → length (with_sent o room before) ≤ taken + places
  grown None room before taken places is bound = bound
  grown (Some v) false before taken places is bound = bound
  grown (Some v) true before taken places is bound =
      let less : length before < taken + places = grind (arith, nat_tests) in
      let one : length (before ++ v ∷ []) ≡ length before + 1 = length-append before (v ∷ []) in
      omega arith

  taken_grows : (n : Noted) (h : Past) → taken_at x h ≤ taken_at x (n ∷ h)
  taken_grows n h = by_test (takes_at x n.entry.deed)
    where
      by_test : (b : Bool) → taken_at x h ≤ (if b then suc (taken_at x h) else taken_at x h)
      by_test true = omega arith
      by_test false = omega arith

  pub bounded : (h : Past) → length (accepted_at p x h) ≤ taken_at x h + places_at p x
  bounded [] = omega arith
  bounded (n ∷ h) =
      let now = grown (sent_to p x n.entry.deed) (has_room_at p x h) (accepted_at p x h) (taken_at x h) (places_at p x) refl (bounded h) in
      let more = taken_grows n h in
      omega arith

-- ---- what a Receive sends is nothing

pub receive_sends_none : (p : Plan) (x y code : ℕ) (value : Value) → sent_to p x (deed.Receive y code value) ≡ None
receive_sends_none p x y code value = by_elem (slice_get p.elements x)
  where
    by_elem : (o : Option ElemPlan) → option_map_or (λ (e : ElemPlan). sent_in p e.group (deed.Receive y code value)) o None ≡ None
    by_elem None = refl
    by_elem (Some e) = refl

-- ---- a Receive that takes a value takes the oldest that is left

module _ (p : Plan) (x : ℕ) (l : Past) (code : ℕ) (ws : List ℤ) where
  not_taking : {X : Type 0} (other : ℕ) → ((other == 0) || (other == 64)) ≡ false → ((code == 0) || (code == 64)) ≡ true → (code == other) ≡ true → X
  not_taking other neither takes same = absurd (false≢true (sym neither ∙ ap (λ c. (c == 0) || (c == 64)) (sym (eqb-true code other same)) ∙ takes))

  pub takes_oldest : ((code == 0) || (code == 64)) ≡ true → is_outcome code ws (received_at p x l) ≡ true → slice_get (accepted_at p x l) (taken_at x l) ≡ Some ws
  takes_oldest takes outcome = by_elem (slice_get p.elements x) refl
    where
      by_elem : (o : Option ElemPlan) → slice_get p.elements x ≡ o → slice_get (accepted_at p x l) (taken_at x l) ≡ Some ws
      by_elem None there =
          let e = rw there at outcome in
          not_taking 134 refl takes (and_parts (code == 134) _ e).0
      by_elem (Some v) there = by_join v.joined refl
        where
          by_join : (b : Bool) → v.joined ≡ b → slice_get (accepted_at p x l) (taken_at x l) ≡ Some ws
          by_join false joined =
              let e = rw (there, joined) at outcome in
              not_taking 134 refl takes (and_parts (code == 134) _ e).0
          by_join true joined = by_left (slice_get (accepted_at p x l) (taken_at x l)) refl
            where
              by_left : (o : Option (List ℤ)) → slice_get (accepted_at p x l) (taken_at x l) ≡ o → o ≡ Some ws
              by_left None left =
                  let e = rw (there, joined, left) at outcome in
                  not_taking 131 refl takes (and_parts (code == 131) _ e).0
              by_left (Some vs) left =
                  let e = rw (there, joined, left) at outcome in
                  let same : ws ≡ vs = (same_words-Decides ws vs).0 (and_parts (code == (if has_lost p x l then 64 else 0)) _ e).1 in
                  ap (λ z. Some z) (sym same)
