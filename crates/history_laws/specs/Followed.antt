-- Activations of a sound plan, and what one asks after answers that are its own (SWS_RTE: runnable activation). Answers stand the oldest first.
use Rattle.std.specs.Prelude.{◌≡◌, ℕ, ℤ, List, [], ◌∷◌, ◌++◌, true, Some, slice_get}
use Rattle.bus_semantics.specs.Common.{ActKey, Value, Plan, Runnable, runnable_of_event, Wanted, wanted_by, key_fits, next_of_activity, IsSound}
use Rattle.bus_laws.specs.Common.{Deed, Mapping}
use Rattle.bus_semantics.specs.declared.entries.Deed.TheVariants as deed

-- in a sound plan, r is the runnable of a key that fits, and the event is one of its events
pub record IsActivation (p : Plan) (m : Mapping) (k : ActKey) (r : Runnable) (event : ℕ) : Type 0 where
  pub sound : IsSound p m
  pub key : key_fits p k ≡ true
  pub runnable : slice_get p.runnables k.runnable ≡ Some r
  pub starts : runnable_of_event p event ≡ Some k.runnable

-- each answer is one to the wish that comes before it
pub record Followed (p : Plan) (r : Runnable) (event : ℕ) (start : List ℤ) (answers : List Deed) : Type 0 where
  pub each : (before : List Deed) (d : Deed) (after : List Deed) → before ++ d ∷ after ≡ answers → next_of_activity p r event start before ≡ Some (wanted_by event d)

-- after such answers this is what comes next
pub record AsksNext (p : Plan) (r : Runnable) (event : ℕ) (start : List ℤ) (answers : List Deed) (w : Wanted) : Type 0 where
  pub followed : Followed p r event start answers
  pub next : next_of_activity p r event start answers ≡ Some w

-- the last answer is that an ask at the point was accepted
pub record HasJustAsked (point : ℕ) (answers : List Deed) : Type 0 where
  pub before : List Deed
  pub value : Value
  pub last : answers ≡ before ++ deed.Ask point value 0 ∷ []
