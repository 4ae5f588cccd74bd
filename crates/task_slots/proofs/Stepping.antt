-- An answer to what an activation asks: its entry fits and follows its program, and the activation goes on in its frame.
use Rattle.std.proofs.Common.{◌≡◌, ◌⊎◌, inl, inr, ℕ, zero, suc, Bool, true, false, ◌&&◌, if◌then◌else◌, refl, sym, ◌∙◌, ap, subst, [], ◌∷◌, ◌++◌, Option, Some, None}
use Rattle.std.specs.Prelude.{is_none, is_some, option_and_then, unwrap_or}
use Rattle.bus_semantics.specs.Common.{and_from, false≢true, ActKey, words_of, Plan, Runnable, server_of, Wanted, wanted_by, History, Past, last_started, runs, is_over, needs_event}
use Rattle.bus_semantics.specs.Common.{started_before, note, noted, server_object, object_of, touched_by, wish_fits, answer_fits, activation_fits, fits, Answers, admission_allows, is_proper}
use Rattle.bus_semantics.specs.Common.{starts_its_own, activation_of, wanted_in, next_wish, is_held_back, follows_program, next_of_activity, is_start, event_of}
use Rattle.bus_laws.specs.Common.{Actor, Act, Deed, Entry, Stamped, Mapping}
use Rattle.bus_semantics.specs.declared.entries.Deed.TheVariants as deed
use Rattle.history_laws.specs.LookUps.{looked}
use Rattle.history_laws.proofs.Keys.{begins}
use Rattle.port_objects.specs.Freed as freed
use Rattle.task_machine.specs.declared.instr.TaskSet.{TaskSet}
use Rattle.task_machine.specs.Standing.{Standing}
use Rattle.task_machine.specs.Frames.{asks}
use Rattle.task_generator.specs.Promise.{AsksAsPlanned}
use Rattle.task_slots.specs.Common.{is_answered, IsAsking, IsBegun, StandsFor, event_for, IsAlone, IsEntryOf, IsTried, Fed, noting_of, IsApart}
use Rattle.task_slots.proofs.Until.{wants_still}
use Rattle.task_slots.proofs.Histories.{entry_by, not_begun, owned, free_same, free_event, bound_event, wish_by, answer_follows, last_event}
use Rattle.task_slots.proofs.Begun.{asked_asks, asked_is}

-- no clause speaks of an end
end_answers : (p : Plan) (g : History) (e : Entry) → e.deed ≡ deed.End → Answers p (noted g) (note g e)
end_answers p g e is = subst (λ d. Answers p (noted g) (note g (record { actor = e.actor; deed = d }))) (sym is)
    (record { unqueued = refl; queued = refl; calls = refl; areas = refl; modes = refl; admission = of_event (note g (record { actor = e.actor; deed = deed.End })).event; due = refl })
  where
    of_event : (o : Option ℕ) → admission_allows p (noted g) o deed.End ≡ true
    of_event None = refl
    of_event (Some e) = refl

-- an ask is accepted at joined points alone: else its answer has the code 134
joined_answer : (p : Plan) (a : Actor) (d : Deed) (w : Wanted) (by : ℕ) → wanted_by by d ≡ w → IsAlone (object_of p a w) w d → is_answered p d ≡ true
joined_answer p a (deed.Ask q value code) w by wish alone = by_server (server_of p q) refl
  where
    some_server : (s n : ℕ) → server_of p q ≡ Some s → is_answered p (deed.Ask q value n) ≡ true
    some_server s zero is = ap is_some is
    some_server s (suc n) is = refl

    by_server : (o : Option ℕ) → server_of p q ≡ o → is_answered p (deed.Ask q value code) ≡ true
    by_server (Some s) is = some_server s code is
    by_server None is =
        let touching : object_of p a w ≡ None = ap (object_of p a) (sym wish) ∙ ap (server_object p) is in
        let codes = (subst (λ o. IsAlone o w (deed.Ask q value code)) touching alone).1 in
        ap (λ n. is_answered p (deed.Ask q value n)) codes
joined_answer p a d w by wish alone = refl

-- what is answered without an object, and names its event, is an end
free_bound : (d : Deed) (by : ℕ) → needs_event d ≡ true → freed.is_free (wanted_by by d) ≡ true → d ≡ deed.End
free_bound deed.End by bound free = refl
free_bound (deed.Admit admitted) by bound free = absurd (false≢true free)
free_bound d by bound free = absurd (false≢true bound)

module _ (p : Plan) (m : Mapping) (t : TaskSet) (bodies : AsksAsPlanned p t) (f : Standing) (k : ActKey) (b : IsBegun p t f k) where
  -- the actor rule wants what the activation asks, by the event that started it
  pub record Wants (g : History) : Type 0 where
    pub next : next_wish p g k ≡ Some b.wish
    pub last : last_started k g ≡ Some b.event

  pub wants : (g : History) → StandsFor t g f k → runs k g ≡ true → Wants g
  wants g s goes =
      let a = s.activation in
      let fed = s.stands in
      let asking : asks t k (deed.Start a.event s.point s.value) a.deeds ≡ Some b.wish = sym (asked_asks t k (deed.Start a.event s.point s.value) a.deeds f fed) ∙ asked_is p t bodies f k b in
      let planned : next_of_activity p b.runnable a.event (words_of s.value) a.deeds ≡ Some b.wish =
      (wants_still p b.runnable a.event (words_of s.value) a.deeds b.wish (sym (bodies k b.runnable a.event s.point s.value a.deeds b.asks.there) ∙ asking)).next in
      let found : wanted_in p k a ≡ next_of_activity p b.runnable a.event a.start a.deeds = looked p.runnables k.runnable b.runnable (λ (r : Runnable). next_of_activity p r a.event a.start a.deeds) None b.asks.there in
      let given : next_of_activity p b.runnable a.event a.start a.deeds ≡ Some b.wish = ap (λ ws. next_of_activity p b.runnable a.event ws a.deeds) (sym s.words) ∙ planned in
      record {
        next = ap (λ v. if v then option_and_then (wanted_in p k) (activation_of k g) else None) goes ∙ ap (option_and_then (wanted_in p k)) s.current ∙ found ∙ given;
        last = last_event k g a s.current ∙ ap (λ n. Some n) (sym fed.event ∙ b.stands.event);
      }

  module _ (s : Stamped) (is : IsEntryOf p (Act k) b.wish s) (tried : IsTried p (Act k) b.wish) (no_start : is_start b.wish ≡ false) (own : (o : ℕ) → event_of b.wish ≡ Some o → o ≡ b.event) where
    abbrev d : Deed
    d = s.entry.deed

    pub entry_is : s.entry ≡ entry_by k s.entry.deed
    entry_is = λ i. record { actor = is.actor i; deed = s.entry.deed }

    pub starts_nothing : begins s.entry.deed ≡ false
    starts_nothing = not_begun d (unwrap_or (event_of b.wish) 0) (ap is_start is.wish ∙ no_start)

    pub by_event : wanted_by b.event s.entry.deed ≡ b.wish
    by_event = wish_by d b.wish b.event is.wish own

    pub proper : is_proper p (noting_of s) ≡ true
    proper = subst (λ (e : Entry). is_proper p (record { entry = e; event = s.event }) ≡ true) (sym entry_is)
        (and_from (fits p (entry_by k d)) (starts_its_own p (Act k) d) (and_from _ (answer_fits p (Act k) d) (by_needs (needs_event d) refl) is.answer) (owned p k d starts_nothing))
      where
        by_needs : (v : Bool) → needs_event d ≡ v → (if v then activation_fits p (Act k) else wish_fits p (Act k) (wanted_by 0 d)) ≡ true
        by_needs true bound = b.fits
        by_needs false free = ap (wish_fits p (Act k)) (free_same d 0 b.event free ∙ by_event) ∙ tried.fits

    pub rule : (g : History) → StandsFor t g f k → runs k g ≡ true → is_held_back p g k ≡ false → follows_program p g s.entry.actor s.entry.deed ≡ true
    rule g stands goes free =
        let w = wants g stands goes in
        subst (λ x. follows_program p g x d ≡ true) (sym is.actor) (answer_follows p g k free b.wish b.event d starts_nothing w.next w.last by_event)

    -- ---- the event with which it comes

    module _ (g : History) (stands : StandsFor t g f k) (goes : runs k g ≡ true) where
      started : needs_event d ≡ true → (note g s.entry).event ≡ Some b.event
      started bound = ap (λ v. if v then started_before s.entry.actor g else None) bound ∙ ap (λ a. started_before a g) is.actor ∙ (wants g stands goes).last

      unstarted : needs_event d ≡ false → (note g s.entry).event ≡ None
      unstarted free = ap (λ v. if v then started_before s.entry.actor g else None) free

      pub touched_note : touched_by p (note g s.entry) ≡ object_of p (Act k) b.wish
      touched_note = by_needs (needs_event d) refl
        where
          by_needs : (v : Bool) → needs_event d ≡ v → touched_by p (note g s.entry) ≡ object_of p (Act k) b.wish
          by_needs true bound =
              (λ i. if bound i && is_none (started bound i) then None else object_of p (is.actor i) (wanted_by (unwrap_or (started bound i) 0) d)) ∙ ap (object_of p (Act k)) by_event
          by_needs false free =
              (λ i. if free i && is_none (note g s.entry).event then None else object_of p (is.actor i) (wanted_by (unwrap_or (unstarted free i) 0) d))
              ∙ ap (object_of p (Act k)) (free_same d 0 b.event free ∙ by_event)

      pub noting : (note g s.entry ≡ noting_of s) ⊎ IsApart p g s
      noting = by_needs (needs_event d) refl
        where
          same_note : (note g s.entry).event ≡ s.event → note g s.entry ≡ noting_of s
          same_note same = λ i. record { entry = s.entry; event = same i }

          by_object : needs_event d ≡ true → (o : Option ℕ) → object_of p (Act k) b.wish ≡ o → (note g s.entry ≡ noting_of s) ⊎ IsApart p g s
          by_object bound (Some object) touching =
              inl (same_note (started bound ∙ sym (is.event ∙ ap (λ o. event_for o b.wish) touching ∙ ap event_of (sym by_event) ∙ bound_event d b.event bound)))
          by_object bound None touching =
              let none : s.event ≡ None = is.event ∙ ap (λ o. event_for o b.wish) touching in
              inr (record {
                stamped = λ i. if bound i && is_none (none i) then None else object_of p s.entry.actor (wanted_by (unwrap_or s.event 0) d);
                named = touched_note ∙ touching;
              })

          free_stamp : needs_event d ≡ false → (o : Option ℕ) → event_for o b.wish ≡ None
          free_stamp free None = refl
          free_stamp free (Some object) = ap event_of (sym by_event) ∙ free_event d b.event free

          by_needs : (v : Bool) → needs_event d ≡ v → (note g s.entry ≡ noting_of s) ⊎ IsApart p g s
          by_needs true bound = by_object bound (object_of p (Act k) b.wish) refl
          by_needs false free = inl (same_note (unstarted free ∙ sym (is.event ∙ free_stamp free (object_of p (Act k) b.wish))))

      -- where it touches no object it is what the bus answers
      pub answered : ((d : Deed) (h : Past) → object_of p (Act k) b.wish ≡ None → freed.IsFree b.wish d → freed.is_free b.wish ≡ true → Answers p h (record { entry = entry_by k d; event = None }))
          → touched_by p (note g s.entry) ≡ None → Answers p (noted g) (note g s.entry)
      answered answers none = by_needs (needs_event d) refl
        where
          touching : object_of p (Act k) b.wish ≡ None
          touching = sym touched_note ∙ none

          alone : IsAlone None b.wish d
          alone = subst (λ o. IsAlone o b.wish d) touching is.alone

          by_needs : (v : Bool) → needs_event d ≡ v → Answers p (noted g) (note g s.entry)
          by_needs true bound = end_answers p g s.entry (free_bound d b.event bound (ap freed.is_free by_event ∙ alone.0))
          by_needs false free =
              let noting_it : record { entry = entry_by k d; event = None } ≡ note g s.entry = λ i. record { entry = sym entry_is i; event = sym (unstarted free) i } in
              subst (Answers p (noted g)) noting_it (answers d (noted g) touching (record { wish = is.wish; codes = alone.1 }) alone.0)

    -- ---- the frame

    pub joined : is_answered p s.entry.deed ≡ true
    joined = joined_answer p (Act k) d b.wish (unwrap_or (event_of b.wish) 0) is.wish is.alone

    pub begun_further : ((d : Deed) → IsAsking p k b.runnable b.event (words_of b.value) b.answers (wanted_by b.event d) → is_over d ≡ false → is_answered p d ≡ true
        → (w : Wanted) × IsAsking p k b.runnable b.event (words_of b.value) (b.answers ++ d ∷ []) w)
        → (new : Standing) → is_over s.entry.deed ≡ false → Fed t s.entry.deed f new → IsBegun p t new k
    begun_further further new goes fed =
        let more = further d (subst (IsAsking p k b.runnable b.event (words_of b.value) b.answers) (sym by_event) b.asks) goes joined in
        record {
          fits = b.fits;
          runnable = b.runnable;
          event = b.event;
          point = b.point;
          value = b.value;
          answers = b.answers ++ d ∷ [];
          wish = more.0;
          asks = more.1;
          stands = fed k (deed.Start b.event b.point b.value) b.answers b.stands;
        }
