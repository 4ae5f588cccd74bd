-- What the clock keeps after an entry is what the definitions give from the past and the entry.
use Rattle.std.proofs.Common.{◌≡◌, ℕ, suc, ◌%◌, true, false, ◌&&◌, ◌||◌, not, ◌==◌, refl, sym, ◌∙◌, ap, subst, ◌∷◌, map, Option, Some, set}
use Rattle.bus_semantics.specs.Common.{list_all, list_any, slice_get, option_map_or, eq-eqb, Value, Plan, kind_of, Past, is_start_by, follows_last, ticks, ticks_period, is_distinct}
use Rattle.std.proofs.Math.Nat.{suc-mod}
use mathlib.Core.List.{map-map}
use Rattle.bus_semantics.specs.declared.entries.Actor.{Actor}
use Rattle.bus_semantics.specs.declared.entries.Deed.TheVariants as deed
use Rattle.tick_events.specs.Kept as clock_kept
use Rattle.object_kinds.specs.Layout.{place}
use Rattle.object_kinds.proofs.Events.{events_all, events_once}
use Rattle.object_kinds.proofs.Lists.{all_at, map_all, mapped_at}
use Rattle.object_kinds.proofs.Placing.{other_way, place_at, set_all}
use Rattle.object_kinds.proofs.Proper.{noting}
use Rattle.clock_objects.specs.Layout.{is_timing, is_init, period_in}
use Rattle.clock_objects.specs.Kept.{Kept}
use Rattle.clock_objects.specs.Leading.{after_tick, with_clock}
use Rattle.clock_objects.specs.Standing.{due_after, timer_after, Keeps}
use Rattle.clock_objects.proofs.Timed.{of_period, of_init, not_both, timing_due, init_due}

module _ (p : Plan) (object : ℕ) (k : Kept) (l : Past) (keeps : Keeps p object k l) (a : Actor) (event : Option ℕ) where
  pub timed : list_all (λ e. is_timing (kind_of p e)) k.timings ≡ true
  timed = subst (λ es. list_all (λ e. is_timing (kind_of p e)) es ≡ true) (sym keeps.timing) (events_all p is_timing)

  pub first : list_all (λ e. is_init (kind_of p e)) k.inits ≡ true
  first = subst (λ es. list_all (λ e. is_init (kind_of p e)) es ≡ true) (sym keeps.initial) (events_all p is_init)

  timed_once : is_distinct k.timings ≡ true
  timed_once = subst (λ es. is_distinct es ≡ true) (sym keeps.timing) (events_once p is_timing)

  first_once : is_distinct k.inits ≡ true
  first_once = subst (λ es. is_distinct es ≡ true) (sym keeps.initial) (events_once p is_init)

  -- ---- a tick

  ticked_timer : (e : ℕ) → is_timing (kind_of p e) ≡ true → clock_kept.ticked (timer_after p l e) ≡ timer_after p (noting a deed.Tick event ∷ l) e
  ticked_timer e timing =
      let of = of_period (kind_of p e) timing in
      let period = period_in (kind_of p e) in
      let passed : suc (ticks l % period) % period ≡ suc (ticks l) % period = sym (suc-mod (ticks l) period) in
      let is_period : period ≡ of.period = ap period_in of.kind in
      let due : ((suc (ticks l % period) % period == 0) || due_after p l e) ≡ due_after p (noting a deed.Tick event ∷ l) e =
      (λ i. (passed i == 0) || timing_due p e of.period l of.kind i)
      ∙ ap (λ n. (suc (ticks l) % n == 0) || follows_last (is_start_by e) (ticks_period of.period) l) is_period
      ∙ sym (timing_due p e of.period (noting a deed.Tick event ∷ l) of.kind) in
      λ i. record { period = period; passed = passed i; due = due i }

  pub tick_keeps : Keeps p object (after_tick k) (noting a deed.Tick event ∷ l)
  tick_keeps = record {
    is_clock = keeps.is_clock;
    timing = keeps.timing;
    initial = keeps.initial;
    timers = ap (map clock_kept.ticked) keeps.timers ∙ map-map clock_kept.ticked (timer_after p l) k.timings
        ∙ map_all (λ e. is_timing (kind_of p e)) (λ e. clock_kept.ticked (timer_after p l e)) (timer_after p (noting a deed.Tick event ∷ l)) k.timings timed ticked_timer;
    unstarted = keeps.unstarted
        ∙ map_all (λ e. is_init (kind_of p e)) (due_after p l) (due_after p (noting a deed.Tick event ∷ l)) k.inits first
        (λ e init. init_due p e l (of_init (kind_of p e) init) ∙ sym (init_due p e (noting a deed.Tick event ∷ l) (of_init (kind_of p e) init)));
  }

  -- ---- a start

  module _ (e : ℕ) (point : Option ℕ) (value : Value) where
    other_timer : (f : ℕ) → is_timing (kind_of p f) ≡ true → (e == f) ≡ false → timer_after p l f ≡ timer_after p (noting a (deed.Start e point value) event ∷ l) f
    other_timer f timing other =
        let of = of_period (kind_of p f) timing in
        let due : due_after p l f ≡ due_after p (noting a (deed.Start e point value) event ∷ l) f =
        timing_due p f of.period l of.kind
        ∙ ap (λ b. not b && follows_last (is_start_by f) (ticks_period of.period) l) (sym (other_way e f other))
        ∙ sym (timing_due p f of.period (noting a (deed.Start e point value) event ∷ l) of.kind) in
        λ i. record { period = period_in (kind_of p f); passed = ticks l % period_in (kind_of p f); due = due i }

    this_timer : is_timing (kind_of p e) ≡ true → timer_after p (noting a (deed.Start e point value) event ∷ l) e ≡ clock_kept.started (timer_after p l e)
    this_timer timing =
        let of = of_period (kind_of p e) timing in
        let due : due_after p (noting a (deed.Start e point value) event ∷ l) e ≡ false =
        timing_due p e of.period (noting a (deed.Start e point value) event ∷ l) of.kind
        ∙ ap (λ b. not b && follows_last (is_start_by e) (ticks_period of.period) l) (eq-eqb e e refl) in
        λ i. record { period = period_in (kind_of p e); passed = ticks l % period_in (kind_of p e); due = due i }

    other_init : (f : ℕ) → is_init (kind_of p f) ≡ true → (e == f) ≡ false → due_after p l f ≡ due_after p (noting a (deed.Start e point value) event ∷ l) f
    other_init f init other =
        let is = of_init (kind_of p f) init in
        init_due p f l is ∙ ap (λ b. not (b || list_any (is_start_by f) l)) (sym (other_way e f other)) ∙ sym (init_due p f (noting a (deed.Start e point value) event ∷ l) is)

    this_init : is_init (kind_of p e) ≡ true → due_after p (noting a (deed.Start e point value) event ∷ l) e ≡ false
    this_init init = init_due p e (noting a (deed.Start e point value) event ∷ l) (of_init (kind_of p e) init) ∙ ap (λ b. not (b || list_any (is_start_by e) l)) (eq-eqb e e refl)

    pub timer_at : (i : ℕ) → place e k.timings ≡ Some i → slice_get k.clock.timers i ≡ Some (timer_after p l e)
    timer_at i there = ap (λ ts. slice_get ts i) keeps.timers ∙ mapped_at (timer_after p l) k.timings i e (place_at e k.timings i there)

    pub timing_at : (i : ℕ) → place e k.timings ≡ Some i → is_timing (kind_of p e) ≡ true
    timing_at i there = all_at (λ f. is_timing (kind_of p f)) k.timings i e timed (place_at e k.timings i there)

    pub init_at : (i : ℕ) → place e k.inits ≡ Some i → is_init (kind_of p e) ≡ true
    init_at i there = all_at (λ f. is_init (kind_of p f)) k.inits i e first (place_at e k.inits i there)

    pub timing_keeps : (i : ℕ) → place e k.timings ≡ Some i → Keeps p object (with_clock k (clock_kept.after_timing i k.clock)) (noting a (deed.Start e point value) event ∷ l)
    timing_keeps i there = record {
      is_clock = keeps.is_clock;
      timing = keeps.timing;
      initial = keeps.initial;
      timers = ap (λ o. option_map_or (λ t. set k.clock.timers i (clock_kept.started t)) o k.clock.timers) (timer_at i there)
          ∙ ap (λ ts. set ts i (clock_kept.started (timer_after p l e))) keeps.timers
          ∙ set_all (λ f. is_timing (kind_of p f)) (timer_after p l) (timer_after p (noting a (deed.Start e point value) event ∷ l)) (clock_kept.started (timer_after p l e)) e k.timings i timed timed_once there
          (this_timer (timing_at i there)) (λ f timing other. other_timer f timing other);
      unstarted = keeps.unstarted
          ∙ map_all (λ f. is_init (kind_of p f)) (due_after p l) (due_after p (noting a (deed.Start e point value) event ∷ l)) k.inits first
          (λ f init. other_init f init (not_both p e f (timing_at i there) init));
    }

    pub init_keeps : (i : ℕ) → place e k.inits ≡ Some i → Keeps p object (with_clock k (clock_kept.after_init i k.clock)) (noting a (deed.Start e point value) event ∷ l)
    init_keeps i there = record {
      is_clock = keeps.is_clock;
      timing = keeps.timing;
      initial = keeps.initial;
      timers = keeps.timers
          ∙ map_all (λ f. is_timing (kind_of p f)) (timer_after p l) (timer_after p (noting a (deed.Start e point value) event ∷ l)) k.timings timed
          (λ f timing. other_timer f timing (other_way f e (not_both p f e timing (init_at i there))));
      unstarted = ap (λ us. set us i false) keeps.unstarted
          ∙ set_all (λ f. is_init (kind_of p f)) (due_after p l) (due_after p (noting a (deed.Start e point value) event ∷ l)) false e k.inits i first first_once there
          (this_init (init_at i there)) (λ f init other. other_init f init other);
    }
