-- Whose slot a caller's is.
use Rattle.std.proofs.Common.{◌≡◌, ℕ, suc, ◌<◌, Bool, true, false, ◌||◌, refl, sym, ◌∙◌, ap, List, [], ◌∷◌, length, map, Some}
use Rattle.std.specs.Prelude.{nat_lt}
use Rattle.bus_semantics.specs.Common.{option_map, list_any, slice_get, and_parts, false≢true, ltb-true, slice_get-map, same_number, Plan, caller_of, instance_of, runnable_of_event, to_hear}
use Rattle.bus_semantics.specs.Common.{key_fits, own_point, activation_may_want}
use Rattle.object_kinds.proofs.Options.{number_is}
use Rattle.task_machine.specs.declared.instr.TaskSet.{TaskSet}
use Rattle.task_slots.specs.declared.slot.Slot.{Slot}
use Rattle.task_slots.specs.Slots.{events_of_slot, home_by, starts_at}
use Rattle.task_slots.specs.Waiting.{HearsAt}
use Rattle.core_turn.specs.Cores.{CoreState}
use Rattle.core_runtime.specs.Watching.{tables_of, IsOfCores}

-- one of the events starts the runnable
pub record HasStarter (p : Plan) (events : List ℕ) (runnable : ℕ) : Type 0 where
  pub place : ℕ
  pub event : ℕ
  pub is : slice_get events place ≡ Some event
  pub starts : runnable_of_event p event ≡ Some runnable

has_starter : (p : Plan) (r : ℕ) (events : List ℕ) → list_any (λ e. same_number (runnable_of_event p e) (Some r)) events ≡ true → HasStarter p events r
has_starter p r [] own = absurd (false≢true own)
has_starter p r (e ∷ events) own = by_test (same_number (runnable_of_event p e) (Some r)) refl own (λ rest. has_starter p r events rest)
  where
    by_test : (b : Bool) → same_number (runnable_of_event p e) (Some r) ≡ b → (b || list_any (λ x. same_number (runnable_of_event p x) (Some r)) events) ≡ true
        → (list_any (λ x. same_number (runnable_of_event p x) (Some r)) events ≡ true → HasStarter p events r) → HasStarter p (e ∷ events) r
    by_test true is own rest = record { place = 0; event = e; is = refl; starts = number_is (runnable_of_event p e) r is }
    by_test false is own rest = let more = rest own in record { place = suc more.place; event = more.event; is = more.is; starts = more.starts }

module _ (p : Plan) (t : TaskSet) (s : Slot) (point : ℕ) (h : HearsAt p t s point) where
  fit_parts : (key_fits p h.key ≡ true) × (own_point p (Some h.key.runnable) point ≡ true)
  fit_parts = and_parts (key_fits p h.key) (activation_may_want p h.key (instance_of p h.key.runnable) (to_hear point)) h.fits

  pub calls_at : caller_of p point ≡ Some h.key.runnable
  calls_at = number_is (caller_of p point) h.key.runnable (and_parts _ (same_number (caller_of p point) (Some h.key.runnable)) fit_parts.1).1

  pub inside : h.key.runnable < length p.runnables
  inside = ltb-true h.key.runnable (length p.runnables) (and_parts (nat_lt h.key.runnable (length p.runnables)) _ fit_parts.0).0

  pub at_home : HasStarter p (events_of_slot s) h.key.runnable
  at_home = has_starter p h.key.runnable (events_of_slot s) (sym (ap (λ o. starts_at p (home_by p h.key.runnable o) (events_of_slot s)) h.plain) ∙ h.own)

-- where an event of a slot stands
pub stands_at : (cores : List CoreState) (i j place event : ℕ) (c : CoreState) (s : Slot) → slice_get cores i ≡ Some c → slice_get c.slots j ≡ Some s → slice_get (events_of_slot s) place ≡ Some event
    → IsOfCores (tables_of cores) event (record { core = i; slot = j; place = place })
stands_at cores i j place event c s core_is slot_is place_is = record {
  tasks = map events_of_slot c.slots;
  core_is = slice_get-map (λ (k : CoreState). map events_of_slot k.slots) cores i ∙ ap (option_map (λ (k : CoreState). map events_of_slot k.slots)) core_is;
  seat = record {
    events = events_of_slot s;
    task_is = slice_get-map events_of_slot c.slots j ∙ ap (option_map events_of_slot) slot_is;
    seat = record { core_is = refl; slot_is = refl; place_is = place_is };
  };
}
