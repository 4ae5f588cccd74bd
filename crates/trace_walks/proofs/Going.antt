-- What a walk stands for after an entry.
use Rattle.std.proofs.Common.{◌≡◌, ℕ, Bool, true, false, not, if◌then◌else◌, refl, sym, ◌∙◌, ap, subst, List, [], ◌∷◌, ◌++◌, Option, Some, None, is_some}
use Rattle.std.specs.Prelude.{option_and_then, ◌||◌}
use Rattle.bus_semantics.specs.Common.{list_any, false≢true, or_from, list_any-append, ActKey, Value, words_of, Plan, History, is_of, is_over, event_started, runs, Activation, with_deed, direct_key}
use Rattle.bus_semantics.specs.Common.{accepted_point, asked_last, is_held_back}
use Rattle.bus_laws.specs.Common.{Deed, Entry}
use Rattle.bus_semantics.specs.declared.entries.Deed.TheVariants as deed
use Rattle.history_laws.proofs.Keys.{itself}
use Rattle.task_machine.specs.declared.instr.TaskSet.{TaskSet}
use Rattle.task_machine.specs.Frames.{Stands}
use Rattle.trace_walks.specs.declared.walk.Running.{Running}
use Rattle.trace_walks.specs.declared.walk.Walk.{Walk}
use Rattle.trace_walks.specs.Walking.{Begins, Hears, entry_of, IsRunning, RunningStands, WalkStands}

-- a deed that starts nothing
grown : (d : Deed) (a : Activation) → event_started d ≡ None → with_deed d (Some a) ≡ Some (record { event = a.event; start = a.start; deeds = a.deeds ++ d ∷ [] })
grown (deed.Start event point value) a other = absurd (cc other)
grown d a other = refl

-- nor does it end there
goes_on_by : (ds : List Deed) (d : Deed) → list_any is_over ds ≡ false → is_over d ≡ false → list_any is_over (ds ++ d ∷ []) ≡ false
goes_on_by ds d going last = list_any-append is_over ds (d ∷ []) ∙ or_from (list_any is_over ds) (is_over d || false) going (or_from (is_over d) false last refl)

module _ (t : TaskSet) (p : Plan) (k : ActKey) (h : History) where
  runs_on : (d : Deed) → runs k (entry_of k d ∷ h) ≡ not (is_over d)
  runs_on d = rw (itself k) (by_over (is_over d))
    where
      by_over : (b : Bool) → (if b then false else true) ≡ not b
      by_over true = refl
      by_over false = refl

  asked_now : (d : Deed) → asked_last k (entry_of k d ∷ h) ≡ accepted_point d
  asked_now d = rw (itself k) refl

  held_now : (d : Deed) → is_held_back p (entry_of k d ∷ h) k ≡ is_some (option_and_then (direct_key p) (accepted_point d))
  held_now d = by_direct (option_and_then (direct_key p) (accepted_point d)) refl
    where
      by_direct : (o : Option ActKey) → option_and_then (direct_key p) (accepted_point d) ≡ o → is_held_back p (entry_of k d ∷ h) k ≡ is_some o
      by_direct None is = rw (asked_now d, is) refl
      by_direct (Some j) is = rw (asked_now d, is, itself k) refl

  begun : (event : ℕ) (point : Option ℕ) (value : Value) (r : Running) → r.event ≡ event → Stands t k (deed.Start event point value) [] r.frame
      → WalkStands t p k (entry_of k (deed.Start event point value) ∷ h) (record { running = Some r; asked = None; held = false })
  begun event point value r is stands = record {
    running = record {
      going = runs_on (deed.Start event point value);
      activation = record { event = event; start = words_of value; deeds = [] };
      current = rw (itself k) refl;
      goes_on = refl;
      event_is = is;
      point = point;
      value = value;
      words = refl;
      stands = stands;
    };
    asked = sym (asked_now (deed.Start event point value));
    held = sym (held_now (deed.Start event point value));
  }

  pub begun_so : (d : Deed) (event : ℕ) (point : Option ℕ) (value : Value) (o : Option Running) → d ≡ deed.Start event point value → Begins t k event d o
      → WalkStands t p k (entry_of k d ∷ h) (record { running = o; asked = None; held = false })
  begun_so d event point value o is begins =
      let r = begins.running in
      let stands : Stands t k (deed.Start event point value) [] r.frame = subst (λ (x : Deed). Stands t k x [] r.frame) is begins.stands in
      let walk = begun event point value r begins.event_is stands in
      let here = subst (λ (x : Deed). WalkStands t p k (entry_of k x ∷ h) (record { running = Some r; asked = None; held = false })) (sym is) walk in
      subst (λ (x : Option Running). WalkStands t p k (entry_of k d ∷ h) (record { running = x; asked = None; held = false })) (sym begins.is) here

  module _ (d : Deed) (asked : Option ℕ) (held : Bool) (asks : asked ≡ accepted_point d) (holds : held ≡ is_some (option_and_then (direct_key p) (accepted_point d))) where
    pub heard_last : is_over d ≡ true → WalkStands t p k (entry_of k d ∷ h) (record { running = None; asked = asked; held = held })
    heard_last over = record {
      running = runs_on d ∙ ap not over;
      asked = asks ∙ sym (asked_now d);
      held = holds ∙ sym (held_now d);
    }

    heard_more : is_over d ≡ false → event_started d ≡ None → (before after : Running) → after.event ≡ before.event
        → ((j : ActKey) (start : Deed) (answers : List Deed) → Stands t j start answers before.frame → Stands t j start (answers ++ d ∷ []) after.frame)
        → IsRunning t k h before → WalkStands t p k (entry_of k d ∷ h) (record { running = Some after; asked = asked; held = held })
    heard_more over other before after same fed r =
        let a = r.activation in
        record {
          running = record {
            going = runs_on d ∙ ap not over;
            activation = record { event = a.event; start = a.start; deeds = a.deeds ++ d ∷ [] };
            current = rw (itself k) (ap (with_deed d) r.current ∙ grown d a other);
            goes_on = goes_on_by a.deeds d r.goes_on over;
            event_is = same ∙ r.event_is;
            point = r.point;
            value = r.value;
            words = r.words;
            stands = fed k (deed.Start a.event r.point r.value) a.deeds r.stands;
          };
          asked = asks ∙ sym (asked_now d);
          held = holds ∙ sym (held_now d);
        }

    pub heard_on : is_over d ≡ false → event_started d ≡ None → runs k h ≡ true → (before after : Option Running) → Hears t d before after → RunningStands t k h before
        → WalkStands t p k (entry_of k d ∷ h) (record { running = after; asked = asked; held = held })
    heard_on over other running None after hears none = absurd (false≢true (sym none ∙ running))
    heard_on over other running (Some before) after hears was =
        subst (λ (o : Option Running). WalkStands t p k (entry_of k d ∷ h) (record { running = o; asked = asked; held = held })) (sym hears.is)
        (heard_more over other before hears.running hears.event_is hears.goes_on was)

  -- ---- another's entry

  module _ (e : Entry) (other : is_of k e ≡ false) where
    runs_still : runs k (e ∷ h) ≡ runs k h
    runs_still = rw other refl

    asked_still : asked_last k (e ∷ h) ≡ asked_last k h
    asked_still = rw other refl

    running_still : (o : Option Running) → RunningStands t k h o → RunningStands t k (e ∷ h) o
    running_still None stands = runs_still ∙ stands
    running_still (Some r) stands = record {
      going = runs_still ∙ stands.going;
      activation = stands.activation;
      current = rw other stands.current;
      goes_on = stands.goes_on;
      event_is = stands.event_is;
      point = stands.point;
      value = stands.value;
      words = stands.words;
      stands = stands.stands;
    }

    pub passed : (w : Walk) (held : Bool) → held ≡ is_held_back p (e ∷ h) k → WalkStands t p k h w → WalkStands t p k (e ∷ h) (record { running = w.running; asked = w.asked; held = held })
    passed w held holds stands = record {
      running = running_still w.running stands.running;
      asked = stands.asked ∙ sym asked_still;
      held = holds;
    }
