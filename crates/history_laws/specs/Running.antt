-- A running activation in a history: what started it, what it did since, and what it wants next (SWS_RTE: runnable activation). Histories
-- stand the newest first, the deeds of an activation the oldest first.
use Rattle.std.specs.Prelude.{◌≡◌, ℕ, List, [], true, not, if◌then◌else◌, Some, slice_get}
use Rattle.bus_semantics.specs.Common.{list_all, option_map_or, ActKey, Plan, Runnable, runnable_of_event, Wanted, History, is_over, runs, last_started, key_fits, wish_fits, asks_its_own}
use Rattle.bus_semantics.specs.Common.{Activation, activation_of, next_wish}
use Rattle.bus_semantics.specs.declared.entries.Actor.TheVariants.{Act}
use Rattle.history_laws.specs.Followed.{AsksNext}
use Rattle.history_laws.specs.OpenAreas.{open_areas}

-- it was started by an event of its runnable, was answered all that it asked since, and wants something that fits
pub record GoesOn (p : Plan) (h : History) (k : ActKey) : Type 0 where
  pub runnable : Runnable
  pub activation : Activation
  pub wish : Wanted
  pub key : key_fits p k ≡ true
  pub found : slice_get p.runnables k.runnable ≡ Some runnable
  pub is : activation_of k h ≡ Some activation
  pub started : last_started k h ≡ Some activation.event
  pub own : runnable_of_event p activation.event ≡ Some k.runnable
  pub asks : AsksNext p runnable activation.event activation.start activation.deeds wish
  pub going : list_all (λ d. not (is_over d)) activation.deeds ≡ true
  pub next : next_wish p h k ≡ Some wish
  pub fits : wish_fits p (Act k) wish ≡ true
  pub asked : asks_its_own p (Act k) wish ≡ true

-- the areas that a running activation has entered and not left, the innermost first
abbrev pub areas_of : ActKey → History → List ℕ
areas_of k h = if runs k h then option_map_or (λ (a : Activation). open_areas a.deeds) (activation_of k h) [] else []
