-- Moments at which events occur, and the chains that are made of them.
use Rattle.std.proofs.Common.{◌≡◌, ◌<◌, ◌≤◌, ◌+◌, ℕ, refl, sym, ◌∙◌, ap, subst, arith, eqb, Bool, true, false, cond, List, length, get_or, set, inl, inr, Option, Some, None}
use Rattle.std.specs.List.{slice_get}
use Rattle.std.specs.Option.{option_map_or}
use Rattle.std.proofs.lemmas.Bool.{and_parts, cases_eq, eqb-true, true≢false, false≢true}
use Rattle.std.proofs.lemmas.List.{get_or-set_other, get_or-set_same, length-set}
use Rattle.std.proofs.lemmas.Option.{slice_get-get_or, slice_get_past, slice_get_within}
use Rattle.rte_value.specs.declared.kinds.Step.{Step}
use Rattle.rte_value.specs.declared.kinds.Step.TheVariants as step
use Rattle.mode_machine.specs.Common.{ModeEvent, IsNext, is_at, moment_of, occurs, same_moment, owes}
use Rattle.mode_machine.specs.declared.owed.ModeEvent.TheVariants.{OnExit, OnTransition, OnEntry}
use Rattle.mode_machine.proofs.Nexts.{begins_earlier}

pub moment_is : (x y : ModeEvent) → same_moment x y ≡ true → x ≡ y
moment_is (OnExit a) (OnExit a2) h = ap (λ n. OnExit n) (eqb-true a a2 h)
moment_is (OnExit a) (OnTransition a2 b2) h = absurd (true≢false (sym h))
moment_is (OnExit a) (OnEntry b2) h = absurd (true≢false (sym h))
moment_is (OnTransition a b) (OnExit a2) h = absurd (true≢false (sym h))
moment_is (OnTransition a b) (OnTransition a2 b2) h =
    let p = and_parts (eqb a a2) (eqb b b2) h in
    λ i. OnTransition (eqb-true a a2 p.0 i) (eqb-true b b2 p.1 i)
moment_is (OnTransition a b) (OnEntry b2) h = absurd (true≢false (sym h))
moment_is (OnEntry b) (OnExit a2) h = absurd (true≢false (sym h))
moment_is (OnEntry b) (OnTransition a2 b2) h = absurd (true≢false (sym h))
moment_is (OnEntry b) (OnEntry b2) h = ap (λ n. OnEntry n) (eqb-true b b2 h)

pub owes_at : (s : Step) (settled next : ℕ) (m : ModeEvent) → owes s settled next m ≡ is_at (moment_of s settled next) m
owes_at (step.Close mode) settled next m = refl
owes_at step.Exit settled next (OnExit a) = refl
owes_at step.Exit settled next (OnTransition a b) = refl
owes_at step.Exit settled next (OnEntry b) = refl
owes_at step.Transition settled next (OnExit a) = refl
owes_at step.Transition settled next (OnTransition a b) = refl
owes_at step.Transition settled next (OnEntry b) = refl
owes_at step.Entry settled next (OnExit a) = refl
owes_at step.Entry settled next (OnTransition a b) = refl
owes_at step.Entry settled next (OnEntry b) = refl
owes_at step.Stable settled next m = refl

-- ---- what a chain is made of

module _ (moments : List ModeEvent) where
  pub none_past : (at : Option ModeEvent) (event : ℕ) → length moments ≤ event → occurs moments at event ≡ false
  none_past at event past = ap (λ o. option_map_or (is_at at) o false) (slice_get_past moments event past)

  pub occurs_at : (at : Option ModeEvent) (event : ℕ) (m : ModeEvent) → event < length moments → m ≡ get_or moments event m → occurs moments at event ≡ is_at at m
  occurs_at at event m within is = ap (λ o. option_map_or (is_at at) o false) (slice_get-get_or moments event m within ∙ ap (λ x. Some x) (sym is))

  pub within_moments : (at : Option ModeEvent) (event : ℕ) → occurs moments at event ≡ true → event < length moments
  within_moments at event on = by (slice_get moments event) refl
    where
      by : (o : Option ModeEvent) → slice_get moments event ≡ o → event < length moments
      by None is = absurd (false≢true (sym (ap (λ o. option_map_or (is_at at) o false) is) ∙ on))
      by (Some m) is = slice_get_within moments event m is

  -- the chains of the events from one on
  pub record AreFrom (event : ℕ) (firsts : ModeEvent → Option ℕ) (nexts : List (Option ℕ)) : Type 0 where
    pub count : length nexts ≡ length moments
    pub first : (a : ModeEvent) → IsNext (occurs moments (Some a)) event (firsts a)
    pub next : (a : ModeEvent) (other : ℕ) → event ≤ other → occurs moments (Some a) other ≡ true → IsNext (occurs moments (Some a)) (other + 1) (get_or nexts other None)

  module _ (event : ℕ) (m : ModeEvent) (within : event < length moments) (is : m ≡ get_or moments event m) (old new : ModeEvent → Option ℕ) (before after : List (Option ℕ))
      (put : (a : ModeEvent) → new a ≡ cond (same_moment m a) (Some event) (old a)) (kept : after ≡ set before event (old m)) (made : AreFrom (event + 1) old before) where
    here : (a : ModeEvent) → occurs moments (Some a) event ≡ same_moment m a
    here a = occurs_at (Some a) event m within is

    first_now : (a : ModeEvent) → IsNext (occurs moments (Some a)) event (new a)
    first_now a = by (same_moment m a) refl
      where
        by : (b : Bool) → same_moment m a ≡ b → IsNext (occurs moments (Some a)) event (new a)
        by true h = subst (IsNext (occurs moments (Some a)) event) (sym (put a ∙ ap (λ b. cond b (Some event) (old a)) h)) (record {
          behind = omega arith;
          passes = here a ∙ h;
          none = λ place behind sooner. absurd (omega (arith, behind, sooner));
        })
        by false h = subst (IsNext (occurs moments (Some a)) event) (sym (put a ∙ ap (λ b. cond b (Some event) (old a)) h)) (begins_earlier (occurs moments (Some a)) (event + 1) event (old a) (omega arith) (λ place behind before. let same : event ≡ place = omega arith in ap (occurs moments (Some a)) (sym same) ∙ here a ∙ h) (made.first a))

    next_now : (a : ModeEvent) (other : ℕ) → event ≤ other → occurs moments (Some a) other ≡ true → IsNext (occurs moments (Some a)) (other + 1) (get_or after other None)
    next_now a other behind on = elim (cases_eq other event) [
      | inl same ↦
          let one : m ≡ a = moment_is m a (sym (here a) ∙ ap (occurs moments (Some a)) (sym same) ∙ on) in
          let count = made.count in
          let found : get_or after other None ≡ old a = ap (λ xs. get_or xs other None) kept ∙ ap (λ k. get_or (set before event (old m)) k None) same ∙ get_or-set_same before event (old m) None (omega (arith, within)) ∙ ap old one in
          subst (IsNext (occurs moments (Some a)) (other + 1)) (sym found) (subst (λ k. IsNext (occurs moments (Some a)) (k + 1) (old a)) (sym same) (made.first a))
      | inr differs ↦
          let past : event + 1 ≤ other = omega (arith, behind, differs) in
          let found : get_or after other None ≡ get_or before other None = ap (λ xs. get_or xs other None) kept ∙ get_or-set_other before event other (old m) None differs in
          subst (IsNext (occurs moments (Some a)) (other + 1)) (sym found) (made.next a other past on)
    ]

    pub linked : AreFrom event new after
    linked = record { count = ap length kept ∙ length-set before event (old m) ∙ made.count; first = first_now; next = next_now }
