-- The clock misses no entry that may come.
use Rattle.std.proofs.Common.{◌≡◌, ℕ, true, refl, sym, ◌∙◌, ap, Option, Some, None, is_some}
use Rattle.std.specs.Prelude.{option_map}
use Rattle.bus_semantics.specs.Common.{slice_get, Value, Plan, kind_of, to_start, Noted, Past, wish_fits, is_due, is_due_kind, Answers, is_proper, Follows, IsSound}
use Rattle.bus_semantics.specs.declared.script.Mapping.{Mapping}
use Rattle.bus_semantics.specs.declared.entries.Actor.{Actor}
use Rattle.bus_semantics.specs.declared.entries.Actor.TheVariants.{Env}
use Rattle.bus_semantics.specs.declared.entries.Deed.{Deed}
use Rattle.bus_semantics.specs.declared.entries.Deed.TheVariants as deed
use Rattle.tick_events.specs.Kept as clock_kept
use Rattle.object_kinds.specs.Common.{is_set, StandsFor, place}
use Rattle.object_kinds.proofs.Classes.{On}
use Rattle.object_kinds.proofs.Events.{started_placed}
use Rattle.object_kinds.proofs.Flags.{flag_there}
use Rattle.object_kinds.proofs.Lists.{mapped_at}
use Rattle.object_kinds.proofs.Numbers.{the_clock}
use Rattle.object_kinds.proofs.Options.{given_where, mapped_where}
use Rattle.object_kinds.proofs.Placing.{place_at, place_none}
use Rattle.object_kinds.proofs.Proper.{noting, wish_part}
use Rattle.clock_objects.specs.Layout.{is_timing, is_init}
use Rattle.clock_objects.specs.Kept.{Kept, is_timer_due}
use Rattle.clock_objects.specs.Leading.{lead, lead_of_clock, with_clock}
use Rattle.clock_objects.specs.Standing.{due_after, Keeps}
use Rattle.clock_objects.proofs.Keeping.{timed, timer_at}
use Rattle.clock_objects.proofs.Timed.{Timed, at_init, at_time}
use Rattle.clock_objects.proofs.Touching.{start_on, touches_clock}

module _ (p : Plan) (object : ℕ) (k : Kept) (l : Past) (keeps : Keeps p object k l) (a : Actor) (event : Option ℕ) where
  start_comes : (e : ℕ) (point : Option ℕ) (value : Value) → wish_fits p a (to_start e) ≡ true → is_due p a e l ≡ true → Timed (kind_of p e) → is_some (lead_of_clock k.timings k.inits k.clock (deed.Start e point value)) ≡ true
  start_comes e point value fit due (at_time period is) =
      let there = started_placed p is_timing a e fit (ap is_timing is) in
      let here : place e k.timings ≡ Some there.at = ap (place e) keeps.timing ∙ there.is in
      let on : due_after p l e ≡ true = ap (λ c. is_due_kind p Env e c l) is ∙ sym (ap (λ c. is_due_kind p a e c l) is) ∙ due in
      let is_on : is_timer_due (clock_kept.is_due there.at k.clock) ≡ true =
      ap (λ o. is_timer_due (option_map (λ (t : clock_kept.Timer). t.due) o)) (timer_at p object k l keeps a event e point value there.at here) ∙ on in
      rw here (given_where (is_timer_due (clock_kept.is_due there.at k.clock)) (clock_kept.after_timing there.at k.clock) is_on)
  start_comes e point value fit due (at_init is) =
      let there = started_placed p is_init a e fit (ap is_init is) in
      let here : place e k.inits ≡ Some there.at = ap (place e) keeps.initial ∙ there.is in
      let none : place e k.timings ≡ None = place_none (λ f. is_timing (kind_of p f)) k.timings e (timed p object k l keeps a event) (ap is_timing is) in
      let on : due_after p l e ≡ true = ap (λ c. is_due_kind p Env e c l) is ∙ sym (ap (λ c. is_due_kind p a e c l) is) ∙ due in
      let flag : slice_get k.clock.unstarted there.at ≡ Some (due_after p l e) = ap (λ us. slice_get us there.at) keeps.unstarted ∙ mapped_at (due_after p l) k.inits there.at e (place_at e k.inits there.at here) in
      rw (none, here) (given_where (is_set k.clock.unstarted there.at) (clock_kept.after_init there.at k.clock) (flag_there k.clock.unstarted there.at (due_after p l e) flag on))

  clock_comes : (d : Deed) → On p the_clock a event d → is_proper p (noting a d event) ≡ true → Answers p l (noting a d event) → is_some (lead_of_clock k.timings k.inits k.clock d) ≡ true
  clock_comes deed.Tick on proper answers = refl
  clock_comes (deed.Start e point value) on proper answers = start_comes e point value (wish_part p a (deed.Start e point value) event refl proper) answers.due (start_on p (kind_of p e) on)
  clock_comes d on proper answers = absurd on

pub leads_on : (p : Plan) (m : Mapping) (object : ℕ) → IsSound p m → (k : Kept) (l : Past) (n : Noted) → StandsFor p object (Keeps p object) k l → Follows p object l n → is_some (lead k n) ≡ true
leads_on p m object sound k l n stands follows =
    mapped_where (with_clock k) (lead_of_clock k.timings k.inits k.clock n.entry.deed)
    (clock_comes p object k l stands.kept n.entry.actor n.event n.entry.deed (touches_clock p m object n.entry.actor n.event n.entry.deed sound stands.kept.is_clock follows.touching follows.proper) follows.proper follows.answers)
