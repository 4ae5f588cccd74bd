-- Of a deed that is no start one clause speaks at most.
use Rattle.std.proofs.Common.{◌≡◌, ℕ, Bool, true, false, ◌==◌, refl, sym, [], ◌∷◌, Option, Some, None}
use Rattle.bus_semantics.specs.Common.{false≢true, Plan, wanted_by, Past, Noted, Answers, broken_answer, first_false, unqueued_allows, queued_allows, calls_allow, areas_allow, modes_allow}
use Rattle.bus_semantics.specs.Common.{admission_allows, due_allows, is_start}
use Rattle.bus_laws.specs.Common.{Actor, Deed}
use Rattle.bus_semantics.specs.declared.entries.Deed.TheVariants as deed
use Rattle.trace_objects.specs.Clauses.{clause_of}

-- what the bus answers breaks no clause
pub unbroken : (p : Plan) (h : Past) (n : Noted) → Answers p h n → broken_answer p h n ≡ None
unbroken p h n r = λ i. first_false ((7, r.unqueued i) ∷ (8, r.queued i) ∷ (9, r.calls i) ∷ (10, r.areas i) ∷ (11, r.modes i) ∷ (12, r.admission i) ∷ (13, r.due i) ∷ [])

-- only an admission is spoken of by its clause
admitted : (p : Plan) (h : Past) (event : Option ℕ) (d : Deed) → (clause_of d == 12) ≡ false → admission_allows p h event d ≡ true
admitted p h None (deed.Admit said) other = absurd (false≢true (sym other))
admitted p h (Some e) (deed.Admit said) other = absurd (false≢true (sym other))
admitted p h None d other = refl
admitted p h (Some e) d other = refl

module _ (p : Plan) (h : Past) (a : Actor) (event : Option ℕ) where
  abbrev n : Deed → Noted
  n d = record { entry = record { actor = a; deed = d }; event = event }

  -- ---- where the clauses before it hold

  by_unqueued : (d : Deed) → (unqueued_allows p h d ≡ true → Answers p h (n d)) → (Answers p h (n d) → ⊥) → broken_answer p h (n d) ≡ Some 7
  by_unqueued d answers denied = of_test (unqueued_allows p h d) refl
    where
      of_test : (b : Bool) → unqueued_allows p h d ≡ b → broken_answer p h (n d) ≡ Some 7
      of_test true is = absurd (denied (answers is))
      of_test false is = rw is refl

  by_queued : (d : Deed) → unqueued_allows p h d ≡ true → (queued_allows p h d ≡ true → Answers p h (n d)) → (Answers p h (n d) → ⊥) → broken_answer p h (n d) ≡ Some 8
  by_queued d unqueued answers denied = of_test (queued_allows p h d) refl
    where
      of_test : (b : Bool) → queued_allows p h d ≡ b → broken_answer p h (n d) ≡ Some 8
      of_test true is = absurd (denied (answers is))
      of_test false is = rw (unqueued, is) refl

  by_calls : (d : Deed) → unqueued_allows p h d ≡ true → queued_allows p h d ≡ true → (calls_allow p h a d ≡ true → Answers p h (n d)) → (Answers p h (n d) → ⊥) → broken_answer p h (n d) ≡ Some 9
  by_calls d unqueued queued answers denied = of_test (calls_allow p h a d) refl
    where
      of_test : (b : Bool) → calls_allow p h a d ≡ b → broken_answer p h (n d) ≡ Some 9
      of_test true is = absurd (denied (answers is))
      of_test false is = rw (unqueued, queued, is) refl

  by_areas : (d : Deed) → unqueued_allows p h d ≡ true → queued_allows p h d ≡ true → calls_allow p h a d ≡ true → (areas_allow h d ≡ true → Answers p h (n d)) → (Answers p h (n d) → ⊥) → broken_answer p h (n d) ≡ Some 10
  by_areas d unqueued queued calls answers denied = of_test (areas_allow h d) refl
    where
      of_test : (b : Bool) → areas_allow h d ≡ b → broken_answer p h (n d) ≡ Some 10
      of_test true is = absurd (denied (answers is))
      of_test false is = rw (unqueued, queued, calls, is) refl

  by_modes : (d : Deed) → unqueued_allows p h d ≡ true → queued_allows p h d ≡ true → calls_allow p h a d ≡ true → areas_allow h d ≡ true → (modes_allow p h a d ≡ true → Answers p h (n d)) → (Answers p h (n d) → ⊥)
      → broken_answer p h (n d) ≡ Some 11
  by_modes d unqueued queued calls areas answers denied = of_test (modes_allow p h a d) refl
    where
      of_test : (b : Bool) → modes_allow p h a d ≡ b → broken_answer p h (n d) ≡ Some 11
      of_test true is = absurd (denied (answers is))
      of_test false is = rw (unqueued, queued, calls, areas, is) refl

  by_admission : (d : Deed) → unqueued_allows p h d ≡ true → queued_allows p h d ≡ true → calls_allow p h a d ≡ true → areas_allow h d ≡ true → modes_allow p h a d ≡ true
      → (admission_allows p h event d ≡ true → Answers p h (n d)) → (Answers p h (n d) → ⊥) → broken_answer p h (n d) ≡ Some 12
  by_admission d unqueued queued calls areas modes answers denied = of_test (admission_allows p h event d) refl
    where
      of_test : (b : Bool) → admission_allows p h event d ≡ b → broken_answer p h (n d) ≡ Some 12
      of_test true is = absurd (denied (answers is))
      of_test false is = rw (unqueued, queued, calls, areas, modes, is) refl

  -- ---- each deed

  answered : (d : Deed) → (unqueued_allows p h d ≡ true) → (queued_allows p h d ≡ true) → (calls_allow p h a d ≡ true) → (areas_allow h d ≡ true) → (modes_allow p h a d ≡ true) → (due_allows p h a d ≡ true) → (clause_of d == 12) ≡ false → Answers p h (n d)
  answered d unqueued queued calls areas modes due plain =
      record { unqueued = unqueued; queued = queued; calls = calls; areas = areas; modes = modes; admission = admitted p h event d plain; due = due }

  pub spoken : (d : Deed) → is_start (wanted_by 0 d) ≡ false → (Answers p h (n d) → ⊥) → broken_answer p h (n d) ≡ Some (clause_of d)
  spoken (deed.Start e point value) plain denied = absurd (false≢true (sym plain))
  spoken (deed.Fetch x value) plain denied = by_unqueued (deed.Fetch x value) (λ is. answered (deed.Fetch x value) is refl refl refl refl refl refl) denied
  spoken (deed.FetchAll l value) plain denied = by_unqueued (deed.FetchAll l value) (λ is. answered (deed.FetchAll l value) is refl refl refl refl refl refl) denied
  spoken (deed.Read x code value) plain denied = by_unqueued (deed.Read x code value) (λ is. answered (deed.Read x code value) is refl refl refl refl refl refl) denied
  spoken (deed.IsUpdated x updated) plain denied = by_unqueued (deed.IsUpdated x updated) (λ is. answered (deed.IsUpdated x updated) is refl refl refl refl refl refl) denied
  spoken (deed.Send x value code) plain denied = by_queued (deed.Send x value code) refl (λ is. answered (deed.Send x value code) refl is refl refl refl refl refl) denied
  spoken (deed.Receive x code value) plain denied = by_queued (deed.Receive x code value) refl (λ is. answered (deed.Receive x code value) refl is refl refl refl refl refl) denied
  spoken (deed.Ask q value code) plain denied = by_calls (deed.Ask q value code) refl refl (λ is. answered (deed.Ask q value code) refl refl is refl refl refl refl) denied
  spoken (deed.Answer q code value) plain denied = by_calls (deed.Answer q code value) refl refl (λ is. answered (deed.Answer q code value) refl refl is refl refl refl refl) denied
  spoken (deed.TakeResult q code value) plain denied = by_calls (deed.TakeResult q code value) refl refl (λ is. answered (deed.TakeResult q code value) refl refl is refl refl refl refl) denied
  spoken (deed.Enter x) plain denied = by_areas (deed.Enter x) refl refl refl (λ is. answered (deed.Enter x) refl refl refl is refl refl refl) denied
  spoken (deed.Switch m mode code) plain denied = by_modes (deed.Switch m mode code) refl refl refl refl (λ is. answered (deed.Switch m mode code) refl refl refl refl is refl refl) denied
  spoken (deed.Mode port mode) plain denied = by_modes (deed.Mode port mode) refl refl refl refl (λ is. answered (deed.Mode port mode) refl refl refl refl is refl refl) denied
  spoken (deed.Phase s) plain denied = by_modes (deed.Phase s) refl refl refl refl (λ is. answered (deed.Phase s) refl refl refl refl is refl refl) denied
  spoken (deed.Admit said) plain denied = by_admission (deed.Admit said) refl refl refl refl refl
      (λ is. record { unqueued = refl; queued = refl; calls = refl; areas = refl; modes = refl; admission = is; due = refl }) denied
  spoken d plain denied = absurd (denied (answered d refl refl refl refl refl refl refl))
