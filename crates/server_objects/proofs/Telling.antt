-- What an Ask or a Return tells is exactly what it made pending.
use Rattle.std.proofs.Common.{◌≡◌, ℕ, zero, suc, Bool, true, false, ◌==◌, if◌then◌else◌, refl, sym, ◌∙◌, ap, subst, arith, List, [], ◌∷◌, ◌++◌, get_or, set, Option, Some, None, ◌⊎◌, inl, inr}
use Rattle.std.specs.Prelude.{option_and_then}
use Rattle.bus_semantics.specs.Common.{Contains, slice_get, cases_eq, eq-eqb, eqb-true, false≢true, append-nil, get_or-set_other, same_Some, Value}
use Rattle.std.proofs.lemmas.List.Elements.{Contains-push, Contains-append_left, Contains-append_right, Contains-append_cases}
use Rattle.bus_semantics.specs.declared.entries.Deed.{Deed}
use Rattle.bus_semantics.specs.declared.entries.Deed.TheVariants as deed
use Rattle.client_server.specs.declared.point.Point.{Point}
use Rattle.client_server.specs.declared.point.Stage.TheVariants.{Asked, Returned}
use Rattle.client_server.specs.Kept as calls
use Rattle.client_server.specs.Points.{new_point}
use Rattle.object_kinds.specs.Common.{place, is_rising}
use Rattle.object_kinds.proofs.Options.{clash, then_some}
use Rattle.object_kinds.proofs.Placing.{place_at}
use Rattle.object_kinds.proofs.Rising.{place_here}
use Rattle.server_objects.specs.Acting.{Tells}
use Rattle.server_objects.specs.Kept.{Kept, ServerState, awaiting, awaited_at, is_due_at, has_next, may_start, told_where}
use Rattle.server_objects.specs.Leading.{wakes, with_served}
use Rattle.server_objects.proofs.Starting.{same_due}

-- ---- lists

only_one : (x e : ℕ) → Contains (x ∷ []) e → x ≡ e
only_one x e (zero, within, is) = is
only_one x e (suc k, within, is) = absurd (omega arith)

record Standing (es awaited : List ℕ) (i e : ℕ) : Type 0 where
  at : ℕ
  event : slice_get es at ≡ Some e
  place : slice_get awaited at ≡ Some i

awaiting_stands : (es awaited : List ℕ) (i e : ℕ) → Contains (awaiting es awaited i) e → Standing es awaited i e
awaiting_stands [] awaited i e (k, within, is) = absurd (omega arith)
awaiting_stands (x ∷ es) [] i e (k, within, is) = absurd (omega arith)
awaiting_stands (x ∷ es) (j ∷ awaited) i e among = by_test (j == i) refl among (awaiting_stands es awaited i e)
  where
    deeper : Standing es awaited i e → Standing (x ∷ es) (j ∷ awaited) i e
    deeper of = record { at = suc of.at; event = of.event; place = of.place }

    by_test : (b : Bool) → (j == i) ≡ b → Contains (if b then x ∷ awaiting es awaited i else awaiting es awaited i) e → (Contains (awaiting es awaited i) e → Standing es awaited i e) → Standing (x ∷ es) (j ∷ awaited) i e
    by_test false other among before = deeper (before among)
    by_test true same among before = by_place (Contains-append_cases (x ∷ []) (awaiting es awaited i) e among)
      where
        by_place : Contains (x ∷ []) e ⊎ Contains (awaiting es awaited i) e → Standing (x ∷ es) (j ∷ awaited) i e
        by_place (inl first) = record { at = zero; event = ap (λ n. Some n) (only_one x e first); place = ap (λ n. Some n) (eqb-true j i same) }
        by_place (inr rest) = deeper (before rest)

stands_awaiting : (es awaited : List ℕ) (i e at : ℕ) → slice_get es at ≡ Some e → slice_get awaited at ≡ Some i → Contains (awaiting es awaited i) e
stands_awaiting [] awaited i e at event place = absurd (cc event)
stands_awaiting (x ∷ es) [] i e at event place = absurd (cc place)
stands_awaiting (x ∷ es) (j ∷ awaited) i e zero event place =
    let here : (j == i) ≡ true = eq-eqb j i (same_Some j i place) in
    subst (λ b. Contains (if b then x ∷ awaiting es awaited i else awaiting es awaited i) e) (sym here)
    (Contains-append_left (x ∷ []) (awaiting es awaited i) e (subst (Contains (x ∷ [])) (same_Some x e event) (Contains-push [] x)))
stands_awaiting (x ∷ es) (j ∷ awaited) i e (suc at) event place = by_test (j == i) (stands_awaiting es awaited i e at event place)
  where
    by_test : (b : Bool) → Contains (awaiting es awaited i) e → Contains (if b then x ∷ awaiting es awaited i else awaiting es awaited i) e
    by_test true rest = Contains-append_right (x ∷ []) (awaiting es awaited i) e rest
    by_test false rest = rest

-- ---- what was told

module _ (k : Kept) (c : calls.Kept) (i : ℕ) (apart : place k.event k.returns ≡ None) (up : is_rising k.returns ≡ true) (others : (j : ℕ) → (j ≡ i → ⊥) → (calls.point_at j c).due ≡ (calls.point_at j k.served).due) where
  abbrev woken : List ℕ
  woken = told_where (has_next k.served) (has_next c) (k.event ∷ []) ++ told_where (calls.point_at i k.served).due (calls.point_at i c).due (awaiting k.returns k.awaited i)

  first : List ℕ
  first = told_where (has_next k.served) (has_next c) (k.event ∷ [])

  came : (e : ℕ) → may_start k e ≡ false → may_start (with_served k c) e ≡ true → Contains woken e
  came e off on = by_event (e == k.event) refl off on
    where
      by_point : (o : Option ℕ) → awaited_at k e ≡ o → is_due_at k.served o ≡ false → is_due_at c o ≡ true → Contains woken e
      by_point None at off on = absurd (false≢true on)
      by_point (Some j) at off on = by_place (cases_eq j i)
        where
          by_place : (j ≡ i) ⊎ (j ≡ i → ⊥) → Contains woken e
          by_place (inr other) = absurd (false≢true (sym off ∙ sym (others j other) ∙ on))
          by_place (inl same) =
              let of = then_some (λ n. slice_get k.awaited n) (place e k.returns) j at in
              let was : (calls.point_at i k.served).due ≡ false = ap (λ n. (calls.point_at n k.served).due) (sym same) ∙ off in
              let now : (calls.point_at i c).due ≡ true = ap (λ n. (calls.point_at n c).due) (sym same) ∙ on in
              Contains-append_right (told_where (has_next k.served) (has_next c) (k.event ∷ [])) (told_where (calls.point_at i k.served).due (calls.point_at i c).due (awaiting k.returns k.awaited i)) e
              (subst (λ es. Contains es e) (sym (λ t. told_where (was t) (now t) (awaiting k.returns k.awaited i)))
              (stands_awaiting k.returns k.awaited i e of.item (place_at e k.returns of.item of.is) (of.gives ∙ ap (λ n. Some n) same)))

      by_event : (b : Bool) → (e == k.event) ≡ b → (if b then has_next k.served else is_due_at k.served (awaited_at k e)) ≡ false → (if b then has_next c else is_due_at c (awaited_at k e)) ≡ true → Contains woken e
      by_event true is off on =
          Contains-append_left (told_where (has_next k.served) (has_next c) (k.event ∷ [])) (told_where (calls.point_at i k.served).due (calls.point_at i c).due (awaiting k.returns k.awaited i)) e
          (subst (λ es. Contains es e) (sym (λ t. told_where (off t) (on t) (k.event ∷ []))) (subst (Contains (k.event ∷ [])) (sym (eqb-true e k.event is)) (Contains-push [] k.event)))
      by_event false is off on = by_point (awaited_at k e) refl off on

  made : (e : ℕ) → Contains woken e → (may_start k e ≡ false) × (may_start (with_served k c) e ≡ true)
  made e among = by_part (Contains-append_cases (told_where (has_next k.served) (has_next c) (k.event ∷ [])) (told_where (calls.point_at i k.served).due (calls.point_at i c).due (awaiting k.returns k.awaited i)) e among)
    where
      nothing : {X : Type 0} → Contains [] e → X
      nothing (n, within, is) = absurd (omega arith)

      by_next : (b d : Bool) → has_next k.served ≡ b → has_next c ≡ d → Contains (told_where b d (k.event ∷ [])) e → (may_start k e ≡ false) × (may_start (with_served k c) e ≡ true)
      by_next true d was now told = nothing told
      by_next false false was now told = nothing told
      by_next false true was now told =
          let this : (e == k.event) ≡ true = eq-eqb e k.event (sym (only_one k.event e told)) in
          ((λ t. if this t then was t else is_due_at k.served (awaited_at k e)), (λ t. if this t then now t else is_due_at c (awaited_at k e)))

      by_due : (b d : Bool) → (calls.point_at i k.served).due ≡ b → (calls.point_at i c).due ≡ d → Contains (told_where b d (awaiting k.returns k.awaited i)) e → (may_start k e ≡ false) × (may_start (with_served k c) e ≡ true)
      by_due true d was now told = nothing told
      by_due false false was now told = nothing told
      by_due false true was now told =
          let of = awaiting_stands k.returns k.awaited i e told in
          let there : place e k.returns ≡ Some of.at = place_here k.returns of.at e up of.event in
          let at : awaited_at k e ≡ Some i = ap (option_and_then (λ n. slice_get k.awaited n)) there ∙ of.place in
          let other : (e == k.event) ≡ false = differ (e == k.event) refl of.at there in (
            (λ t. if other t then has_next k.served else is_due_at k.served (at t)) ∙ was,
            (λ t. if other t then has_next c else is_due_at c (at t)) ∙ now,
          )
        where
          differ : (b : Bool) → (e == k.event) ≡ b → (j : ℕ) → place e k.returns ≡ Some j → b ≡ false
          differ false is j there = refl
          differ true is j there = absurd (cc (sym apart ∙ ap (λ x. place x k.returns) (sym (eqb-true e k.event is)) ∙ there))

      by_part : Contains (told_where (has_next k.served) (has_next c) (k.event ∷ [])) e ⊎ Contains (told_where (calls.point_at i k.served).due (calls.point_at i c).due (awaiting k.returns k.awaited i)) e
          → (may_start k e ≡ false) × (may_start (with_served k c) e ≡ true)
      by_part (inl told) = by_next (has_next k.served) (has_next c) refl refl told
      by_part (inr told) = by_due (calls.point_at i k.served).due (calls.point_at i c).due refl refl told

  pub tells : (d : Deed) (before now : List ℕ) (h g : Option ℕ) → wakes d ≡ true → now ≡ woken → Tells (record { kept = k; woken = before; heard = h }) (record { kept = with_served k c; woken = now; heard = g }) d
  tells d before now h g is same = record {
    came = λ e off on. subst (λ es. Contains es e) (sym same) (came e off on);
    only = λ yes e among. made e (subst (λ es. Contains es e) same among);
    left = λ no. clash (wakes d) is no;
  }

-- an entry that wakes nothing and leaves what was told
pub none_tells : (old new : ServerState) (d : Deed) → wakes d ≡ false → new.woken ≡ old.woken → ((event : ℕ) → may_start old.kept event ≡ false → may_start new.kept event ≡ false) → Tells old new d
none_tells old new d is same off = record {
  came = λ event was now. clash (may_start new.kept event) now (off event was);
  only = λ yes. clash (wakes d) yes is;
  left = λ no. same;
}

-- ---- an Ask

asked_due : (k : calls.Kept) (i : ℕ) (value : Value) (j : ℕ) → (calls.point_at j (calls.after_ask i value k)).due ≡ (calls.point_at j k).due
asked_due k i value j = by_test (calls.accepts i k) refl
  where
    by_test : (b : Bool) → calls.accepts i k ≡ b → (calls.point_at j (calls.after_ask i value k)).due ≡ (calls.point_at j k).due
    by_test true is = ap (λ b. (calls.point_at j (if b then calls.with_request i value k else k)).due) is ∙ same_due k.points i j (Asked value)
    by_test false is = ap (λ b. (calls.point_at j (if b then calls.with_request i value k else k)).due) is

pub ask_tells : (k : Kept) (i : ℕ) (value : Value) (before now : List ℕ) (h g : Option ℕ) → place k.event k.returns ≡ None → is_rising k.returns ≡ true → now ≡ told_where (has_next k.served) (has_next (calls.after_ask i value k.served)) (k.event ∷ [])
    → (q code : ℕ) → Tells (record { kept = k; woken = before; heard = h }) (record { kept = with_served k (calls.after_ask i value k.served); woken = now; heard = g }) (deed.Ask q value code)
ask_tells k i value before now h g apart up is q code =
    let c = calls.after_ask i value k.served in
    let none : told_where (calls.point_at i k.served).due (calls.point_at i c).due (awaiting k.returns k.awaited i) ≡ [] =
    ap (λ b. told_where (calls.point_at i k.served).due b (awaiting k.returns k.awaited i)) (asked_due k.served i value i) ∙ same_told (calls.point_at i k.served).due in
    tells k c i apart up (λ j other. asked_due k.served i value j) (deed.Ask q value code) before now h g refl
    (is ∙ sym (ap (λ es. told_where (has_next k.served) (has_next c) (k.event ∷ []) ++ es) none ∙ append-nil (told_where (has_next k.served) (has_next c) (k.event ∷ []))))
  where
    same_told : (b : Bool) → told_where b b (awaiting k.returns k.awaited i) ≡ []
    same_told true = refl
    same_told false = refl

-- ---- a Return

pub return_tells : (k : Kept) (i code : ℕ) (value : Value) (before now : List ℕ) (h g : Option ℕ) → place k.event k.returns ≡ None → is_rising k.returns ≡ true
    → (c : calls.Kept) → c.points ≡ set k.served.points i (record { stage = Returned (record { code = code; value = value }); due = true })
    → now ≡ told_where (has_next k.served) (has_next c) (k.event ∷ []) ++ told_where (calls.point_at i k.served).due (calls.point_at i c).due (awaiting k.returns k.awaited i)
    → Tells (record { kept = k; woken = before; heard = h }) (record { kept = with_served k c; woken = now; heard = g }) (deed.Return code value)
return_tells k i code value before now h g apart up c points is =
    tells k c i apart up
    (λ j other. ap (λ (ts : List Point). (get_or ts j new_point).due) points ∙ ap (λ (t : Point). t.due) (get_or-set_other k.served.points i j (record { stage = Returned (record { code = code; value = value }); due = true }) new_point other))
    (deed.Return code value) before now h g refl is
