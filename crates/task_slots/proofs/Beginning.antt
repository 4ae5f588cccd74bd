-- The entry of a start: it fits, and an activation has begun.
use Rattle.std.proofs.Common.{◌≡◌, ◌⊎◌, inl, ℕ, ℤ, true, refl, sym, ◌∙◌, ap, subst, List, [], Option, Some, None}
use Rattle.bus_semantics.specs.Common.{slice_get, and_from, false≢true, same_Some, ActKey, words_of, Plan, Runnable, runnable_of_event, Wanted, to_start, History, note, noted, object_of}
use Rattle.bus_semantics.specs.Common.{touched_by, key_fits, wish_fits, answer_fits, fits, Answers, is_proper, IsSound}
use Rattle.bus_laws.specs.Common.{Act, Stamped, Mapping}
use Rattle.bus_semantics.specs.declared.entries.Deed.TheVariants as deed
use Rattle.bus_laws.proofs.Thinning.{option_test}
use Rattle.task_machine.specs.declared.instr.TaskSet.{TaskSet}
use Rattle.task_machine.specs.Standing.{Standing}
use Rattle.task_machine.specs.Frames.{Stands}
use Rattle.task_slots.specs.Common.{IsAsking, IsBegun, event_for, IsAlone, IsEntryOf, noting_of, IsApart}
use Rattle.task_slots.proofs.Facts.{event_known, started, start_fits}
use Rattle.task_slots.proofs.Histories.{entry_by, IsStartOf, start_is}

module _ (p : Plan) (m : Mapping) (sound : IsSound p m) (t : TaskSet) (k : ActKey) (event : ℕ) (fit : key_fits p k ≡ true) (starts : runnable_of_event p event ≡ Some k.runnable) (s : Stamped)
    (entry : IsEntryOf p (Act k) (to_start event) s) where
  pub deed_is : IsStartOf event s.entry.deed
  deed_is = start_is 0 event s.entry.deed entry.wish

  pub entry_is : s.entry ≡ entry_by k (deed.Start event deed_is.point deed_is.value)
  entry_is = λ i. record { actor = entry.actor i; deed = deed_is.is i }

  pub start_proper : is_proper p (noting_of s) ≡ true
  start_proper = subst (λ e. is_proper p (record { entry = e; event = s.event }) ≡ true) (sym entry_is)
      (and_from (fits p (entry_by k (deed.Start event deed_is.point deed_is.value))) _
      (and_from (wish_fits p (Act k) (to_start event)) _ (start_fits p m sound event k fit starts) (subst (λ d. answer_fits p (Act k) d ≡ true) deed_is.is entry.answer))
      (option_test (runnable_of_event p event) (Some k.runnable) starts))

  -- a start comes without an event
  stamp_none : (o : Option ℕ) → event_for o (to_start event) ≡ None
  stamp_none None = refl
  stamp_none (Some object) = refl

  pub start_noting : (g : History) → (note g s.entry ≡ noting_of s) ⊎ IsApart p g s
  start_noting g =
      let none : (note g s.entry).event ≡ None = ap (λ e. (note g e).event) entry_is in
      let same : (note g s.entry).event ≡ s.event = none ∙ sym (entry.event ∙ stamp_none (object_of p (Act k) (to_start event))) in
      inl (λ i. record { entry = s.entry; event = same i })

  -- and touches an object
  pub start_touches : (g : History) → touched_by p (note g s.entry) ≡ None → Answers p (noted g) (note g s.entry)
  start_touches g none =
      let touching : object_of p (Act k) (to_start event) ≡ None = sym (ap (λ e. touched_by p (note g e)) entry_is) ∙ none in
      absurd (false≢true (subst (λ o. IsAlone o (to_start event) s.entry.deed) touching entry.alone).0)

  -- the activation has begun
  pub start_begun : ((r : Runnable) (start : List ℤ) → slice_get p.runnables k.runnable ≡ Some r → (w : Wanted) × IsAsking p k r event start [] w) → (new : Standing) → Stands t k s.entry.deed [] new → IsBegun p t new k
  start_begun first new stands =
      let who = started p m sound event (event_known p event k.runnable starts) in
      let number : who.number ≡ k.runnable = same_Some who.number k.runnable (sym who.starts ∙ starts) in
      let there : slice_get p.runnables k.runnable ≡ Some who.runnable = subst (λ n. slice_get p.runnables n ≡ Some who.runnable) number who.there in
      let asked = first who.runnable (words_of deed_is.value) there in
      record {
        fits = fit;
        runnable = who.runnable;
        event = event;
        point = deed_is.point;
        value = deed_is.value;
        answers = [];
        wish = asked.0;
        asks = asked.1;
        stands = subst (λ d. Stands t k d [] new) deed_is.is stands;
      }
