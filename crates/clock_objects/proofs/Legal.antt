-- An entry by which the clock leads on may follow its past, and what the clock keeps then is what the definitions give.
use Rattle.std.proofs.Common.{◌≡◌, ℕ, ℤ, true, ◌||◌, refl, sym, ◌∙◌, ap, subst, List, ◌∷◌, Option, Some, None}
use Rattle.std.specs.Prelude.{option_map}
use Rattle.bus_semantics.specs.Common.{slice_get, false≢true, or_right, same_Some, Value, words_of, Plan, kind_of, Noted, Past, touches, start_fits, starts_request, is_proper, start_matches}
use Rattle.bus_semantics.specs.Common.{Follows}
use Rattle.bus_semantics.specs.declared.plan.EventKind.{EventKind}
use Rattle.bus_semantics.specs.declared.plan.EventKind.TheVariants.{Timing, Init}
use Rattle.bus_semantics.specs.declared.entries.Actor.{Actor}
use Rattle.bus_semantics.specs.declared.entries.Deed.{Deed}
use Rattle.bus_semantics.specs.declared.entries.Deed.TheVariants as deed
use Rattle.tick_events.specs.Kept as clock_kept
use Rattle.object_kinds.specs.Common.{is_set, StandsFor, place}
use Rattle.object_kinds.proofs.Flags.{flag_set}
use Rattle.object_kinds.proofs.Lists.{mapped_at}
use Rattle.object_kinds.proofs.Options.{given_some, mapped_some}
use Rattle.object_kinds.proofs.Placing.{place_at}
use Rattle.object_kinds.proofs.Proper.{noting, answer_part, admitted}
use Rattle.clock_objects.specs.Layout.{is_timing, is_init}
use Rattle.clock_objects.specs.Kept.{Kept, is_timer_due}
use Rattle.clock_objects.specs.Leading.{lead, lead_of_clock, lead_of_start, with_clock}
use Rattle.clock_objects.specs.Standing.{due_after, Keeps}
use Rattle.clock_objects.proofs.Keeping.{tick_keeps, timing_keeps, init_keeps, timer_at, timing_at, init_at}
use Rattle.clock_objects.proofs.Timed.{any_actor}

-- a start by the clock names no point and is no server's
unnamed : (p : Plan) (a : Actor) (k : EventKind) (point : Option ℕ) (ws : List ℤ) (l : Past) → (is_timing k || is_init k) ≡ true → start_fits p k point ws ≡ true → starts_request p a point ws l ≡ true
unnamed p a k None ws l is fit = refl
unnamed p a (Timing period) (Some q) ws l is fit = absurd (false≢true fit)
unnamed p a Init (Some q) ws l is fit = absurd (false≢true fit)
unnamed p a k (Some q) ws l is fit = absurd (false≢true is)

clock_matches : (p : Plan) (l : Past) (e : ℕ) (k : EventKind) → (is_timing k || is_init k) ≡ true → start_matches p l e k ≡ true
clock_matches p l e (Timing period) is = refl
clock_matches p l e Init is = refl
clock_matches p l e k is = absurd (false≢true is)

pub record Led (p : Plan) (object : ℕ) (after : Kept) (l : Past) (n : Noted) : Type 0 where
  pub follows : Follows p object l n
  pub keeps : Keeps p object after (n ∷ l)

module _ (p : Plan) (object : ℕ) (k : Kept) (l : Past) (keeps : Keeps p object k l) (a : Actor) (event : Option ℕ) where
  start_follows : (e : ℕ) (point : Option ℕ) (value : Value) → touches p object (noting a (deed.Start e point value) event) ≡ true → is_proper p (noting a (deed.Start e point value) event) ≡ true
      → (is_timing (kind_of p e) || is_init (kind_of p e)) ≡ true → due_after p l e ≡ true → Follows p object l (noting a (deed.Start e point value) event)
  start_follows e point value touching proper is due = record {
    touching = touching;
    proper = proper;
    answers = record {
      unqueued = refl;
      queued = refl;
      calls = unnamed p a (kind_of p e) point (words_of value) l is (answer_part p (noting a (deed.Start e point value) event) proper);
      areas = refl;
      modes = refl;
      admission = admitted p l event (deed.Start e point value) refl;
      due = any_actor p a e (kind_of p e) l is ∙ due;
    };
    matching = clock_matches p l e (kind_of p e) is;
  }

  start_led : (after : clock_kept.Kept) (e : ℕ) (point : Option ℕ) (value : Value) → touches p object (noting a (deed.Start e point value) event) ≡ true
      → is_proper p (noting a (deed.Start e point value) event) ≡ true → (timing init : Option ℕ) → place e k.timings ≡ timing → place e k.inits ≡ init
      → lead_of_start timing init k.clock ≡ Some after → Led p object (with_clock k after) l (noting a (deed.Start e point value) event)
  start_led after e point value touching proper (Some i) init there other leads =
      let gives = given_some (is_timer_due (clock_kept.is_due i k.clock)) (clock_kept.after_timing i k.clock) after leads in
      let kind = timing_at p object k l keeps a event e point value i there in
      let due : due_after p l e ≡ true =
      sym (ap (λ o. is_timer_due (option_map (λ (t : clock_kept.Timer). t.due) o)) (timer_at p object k l keeps a event e point value i there)) ∙ gives.holds in record {
        follows = start_follows e point value touching proper (ap (λ b. b || is_init (kind_of p e)) kind) due;
        keeps = subst (λ c. Keeps p object (with_clock k c) (noting a (deed.Start e point value) event ∷ l)) gives.same (timing_keeps p object k l keeps a event e point value i there);
      }
  start_led after e point value touching proper None (Some i) none there leads =
      let gives = given_some (is_set k.clock.unstarted i) (clock_kept.after_init i k.clock) after leads in
      let kind = init_at p object k l keeps a event e point value i there in
      let flag : slice_get k.clock.unstarted i ≡ Some (due_after p l e) = ap (λ us. slice_get us i) keeps.unstarted ∙ mapped_at (due_after p l) k.inits i e (place_at e k.inits i there) in record {
        follows = start_follows e point value touching proper (or_right (is_timing (kind_of p e)) (is_init (kind_of p e)) kind) (flag_set k.clock.unstarted i (due_after p l e) flag gives.holds);
        keeps = subst (λ c. Keeps p object (with_clock k c) (noting a (deed.Start e point value) event ∷ l)) gives.same (init_keeps p object k l keeps a event e point value i there);
      }
  start_led after e point value touching proper None None none nor leads = absurd (cc leads)

  clock_led : (after : clock_kept.Kept) (d : Deed) → touches p object (noting a d event) ≡ true → is_proper p (noting a d event) ≡ true → lead_of_clock k.timings k.inits k.clock d ≡ Some after
      → Led p object (with_clock k after) l (noting a d event)
  clock_led after deed.Tick touching proper leads = record {
    follows = record {
      touching = touching;
      proper = proper;
      answers = record { unqueued = refl; queued = refl; calls = refl; areas = refl; modes = refl; admission = admitted p l event deed.Tick refl; due = refl };
      matching = refl;
    };
    keeps = subst (λ c. Keeps p object (with_clock k c) (noting a deed.Tick event ∷ l)) (same_Some (clock_kept.after_tick k.clock) after leads) (tick_keeps p object k l keeps a event);
  }
  clock_led after (deed.Start e point value) touching proper leads = start_led after e point value touching proper (place e k.timings) (place e k.inits) refl refl leads
  clock_led after d touching proper leads = absurd (cc leads)

pub led : (p : Plan) (object : ℕ) (before after : Kept) (l : Past) (n : Noted) → StandsFor p object (Keeps p object) before l → touches p object n ≡ true → is_proper p n ≡ true → lead before n ≡ Some after → Led p object after l n
led p object before after l n stands touching proper leads =
    let gives = mapped_some (with_clock before) (lead_of_clock before.timings before.inits before.clock n.entry.deed) after leads in
    subst (λ k. Led p object k l n) gives.gives (clock_led p object before l stands.kept n.entry.actor n.event gives.item n.entry.deed touching proper gives.is)
