-- An activation that was admitted and has not ended runs.
use Rattle.std.proofs.Common.{◌≡◌, ℕ, Bool, true, false, not, refl, sym, ◌∙◌, ap, subst, List, [], ◌∷◌, ◌++◌, Option, Some, None}
use Rattle.bus_semantics.specs.Common.{and_parts, false≢true, same_Some, ActKey, same_number, same_key-Decides, same_number-Decides, Plan, runnable_of_event, Wanted, to_admit, History}
use Rattle.bus_semantics.specs.Common.{event_started, is_of, runs, last_started, started_before, noted, note, serves_directly, admitted_runs, IsLegal, MayFollow, Activation, with_deed}
use Rattle.bus_semantics.specs.Common.{activation_of, is_held_back, starts_or_goes_on, plain_key, IsSound}
use Rattle.std.specs.Prelude.{unwrap_or}
use Rattle.bus_laws.specs.Common.{Mapping, Actor, Env, Machine, Act, Deed, Entry}
use Rattle.bus_semantics.specs.declared.entries.Deed.TheVariants as deed
use Rattle.bus_laws.proofs.Thinning.{option_same}
use Rattle.history_laws.specs.Followed.{AsksNext}
use Rattle.history_laws.specs.Running.{GoesOn}
use Rattle.no_stall.proofs.Premises.{Laws}
use Rattle.no_stall.proofs.Asking.{WasNext, was_next, activity}
use Rattle.no_stall.proofs.Direct.{admit_is}
use Rattle.no_stall.proofs.Steps.{sole_key, OwnStep, ends, admits, goes, step, runs_still, started_still}

more_deeds : {X : Type 0} (ds : List Deed) (d : Deed) → ds ++ d ∷ [] ≡ [] → X
more_deeds [] d e = absurd (cc e)
more_deeds (c ∷ ds) d e = absurd (cc e)

with_more : {X : Type 0} (d : Deed) (o : Option Activation) (a : Activation) → event_started d ≡ None → with_deed d o ≡ Some a → a.deeds ≡ [] → X
with_more (deed.Start ev point value) o a other is none = absurd (cc other)
with_more d None a other is none = absurd (cc is)
with_more d (Some b) a other is none =
    more_deeds b.deeds d (ap (λ (x : Activation). x.deeds) (same_Some (record { event = b.event; start = b.start; deeds = b.deeds ++ d ∷ [] }) a is) ∙ none)

module _ (p : Plan) (m : Mapping) (sound : IsSound p m) (laws : Laws p m) (e r : ℕ) (starts : runnable_of_event p e ≡ Some r) (undirect : serves_directly p (plain_key r) ≡ false) where
  abbrev own : ActKey
  own = plain_key r

  -- the event's activation runs, and has done something since its start
  pub record IsAdmitted (h : History) : Type 0 where
    pub running : runs own h ≡ true
    pub started : last_started own h ≡ Some e
    pub begun : (a : Activation) → activation_of own h ≡ Some a → a.deeds ≡ [] → ⊥

  not_again : (h : History) → IsLegal p h → (x : Entry) → MayFollow p h x → is_of own x ≡ true → IsAdmitted h → (b : Bool) → x.deed ≡ deed.Admit b → ⊥
  not_again h legal x may mine before b is = by_actor x.actor mine (subst (λ (d : Deed). MayFollow p h (record { actor = x.actor; deed = d })) is may)
    where
      by_actor : (a : Actor) → is_of own (record { actor = a; deed = deed.Admit b }) ≡ true → MayFollow p h (record { actor = a; deed = deed.Admit b }) → ⊥
      by_actor Env mine may = absurd (false≢true mine)
      by_actor (Machine i) mine may = absurd (false≢true mine)
      by_actor (Act j) mine may =
          let key : own ≡ j = (same_key-Decides own j).0 mine in
          let next = was_next p m sound laws h j (to_admit _) legal (and_parts (starts_or_goes_on p h j (deed.Admit b)) (not (is_held_back p h j)) may.actor).0 in
          let g = next.goes in
          let wish = admit_is _ g.wish next.same in
          let asks = subst (λ (w : Wanted). AsksNext p g.runnable g.activation.event g.activation.start g.activation.deeds w) wish.1 g.asks in
          before.begun g.activation (subst (λ (k : ActKey). activation_of k h ≡ Some g.activation) (sym key) g.is)
          (laws.once j g.runnable g.activation.event wish.0 g.activation.start g.activation.deeds (activity p m sound laws h j g) asks)

  -- one entry more, that is not the activation's end
  still : (h : History) → IsLegal p h → (x : Entry) → MayFollow p h x → IsAdmitted h → ((note h x).event ≡ Some e → x.deed ≡ deed.End → ⊥) → IsAdmitted (x ∷ h)
  still h legal x may before no_end = by_own (is_of own x) refl
    where
      by_step : is_of own x ≡ true → OwnStep p m sound e r starts undirect h x → IsAdmitted (x ∷ h)
      by_step mine (ends event is) = absurd (no_end event is)
      by_step mine (admits b is) = absurd (not_again h legal x may mine before b is)
      by_step mine (goes on started other unover) = record { running = on; started = started; begun = λ a is none. with_more x.deed (activation_of own h) a other (rw mine at is) none }

      by_own : (b : Bool) → is_of own x ≡ b → IsAdmitted (x ∷ h)
      by_own true mine = by_step mine (step p m sound e r starts undirect h x may mine before.running before.started)
      by_own false other = record {
        running = runs_still p m sound e r starts undirect h x other before.running;
        started = started_still p m sound e r starts undirect h x other before.started;
        begun = λ a is none. before.begun a (rw other at is) none;
      }

  -- an admission
  begins : (h : History) → IsLegal p h → (a : Actor) → MayFollow p h (record { actor = a; deed = deed.Admit true }) → started_before a h ≡ Some e → IsAdmitted (record { actor = a; deed = deed.Admit true } ∷ h)
  begins h legal Env may event = absurd (cc event)
  begins h legal (Machine i) may event = absurd (cc event)
  begins h legal (Act j) may event = subst (λ (k : ActKey). IsAdmitted (record { actor = Act k; deed = deed.Admit true } ∷ h)) key (record {
    running = rw mine refl;
    started = rw mine event_own;
    begun = λ a is none. with_more (deed.Admit true) (activation_of own h) a refl (rw mine at is) none;
  })
    where
      next : WasNext p m sound laws h j (to_admit (unwrap_or (last_started j h) 0))
      next = was_next p m sound laws h j (to_admit _) legal (and_parts (starts_or_goes_on p h j (deed.Admit true)) (not (is_held_back p h j)) may.actor).0

      g : GoesOn p h j
      g = next.goes

      same : g.activation.event ≡ e
      same = same_Some g.activation.event e (sym g.started ∙ event)

      key : own ≡ j
      key = sole_key p m sound e r starts undirect j g.key (subst (λ n. runnable_of_event p n ≡ Some j.runnable) same g.own)

      event_own : last_started own h ≡ Some e
      event_own = subst (λ (k : ActKey). last_started k h ≡ Some e) (sym key) event

      mine : is_of own (record { actor = Act own; deed = deed.Admit true }) ≡ true
      mine = (same_key-Decides own own).1 refl

  pub admitted : (h : History) → IsLegal p h → admitted_runs e (noted h) ≡ true → IsAdmitted h
  admitted [] legal is = absurd (false≢true is)
  admitted (x ∷ h) legal is = by_deed x.actor x.deed legal.1 (admitted h legal.0) is
    where
      by_deed : (a : Actor) (d : Deed) → MayFollow p h (record { actor = a; deed = d }) → (admitted_runs e (noted h) ≡ true → IsAdmitted h) → admitted_runs e (noted (record { actor = a; deed = d } ∷ h)) ≡ true → IsAdmitted (record { actor = a; deed = d } ∷ h)
      by_deed a (deed.Admit true) may before is = by_event (same_number (started_before a h) (Some e)) refl
        where
          by_event : (b : Bool) → same_number (started_before a h) (Some e) ≡ b → IsAdmitted (record { actor = a; deed = deed.Admit true } ∷ h)
          by_event true event = begins h legal.0 a may (option_same (started_before a h) (Some e) event)
          by_event false other = still h legal.0 (record { actor = a; deed = deed.Admit true }) may (before (rw other at is)) (λ event is. absurd (cc is))
      by_deed a deed.End may before is = by_event (same_number (started_before a h) (Some e)) refl
        where
          by_event : (b : Bool) → same_number (started_before a h) (Some e) ≡ b → IsAdmitted (record { actor = a; deed = deed.End } ∷ h)
          by_event true event = absurd (false≢true (rw event at is))
          by_event false other = still h legal.0 (record { actor = a; deed = deed.End }) may (before (rw other at is))
              (λ event is. absurd (false≢true (sym other ∙ (same_number-Decides (started_before a h) (Some e)).1 event)))
      by_deed a d may before is = still h legal.0 (record { actor = a; deed = d }) may (before is) (λ event is. absurd (cc is))
