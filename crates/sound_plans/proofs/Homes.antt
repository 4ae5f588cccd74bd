-- The instances of runnables and events.
use Rattle.std.proofs.Common.{◌≡◌, ℕ, ◌<◌, map, length, slice_get, Some, None, nat_lt, ap, ◌∙◌}
use Rattle.bus_semantics.specs.Common.{and_parts, ltb-true, option_map_or, Runnable, instance_of}
use Rattle.plan_definitions.specs.Common.{Description, Flat, Among, pair_number, runnables_of, event_of, plan_of, seen, event_fits, IsWellFormed}
use Rattle.bus_laws.specs.Common.{BusPlan, EventPlan}
use Rattle.bus_semantics.specs.Plan as bus
use Rattle.sound_plans.proofs.Keeping.{of_component}
use Rattle.sound_plans.proofs.Lists.{all_at, mapped}
use Rattle.sound_plans.proofs.Numbers.{runnable_at}
use Rattle.sound_plans.proofs.Seen.{runnables_are}
use Rattle.sound_plans.proofs.Sites.{ComponentAt}

module _ (d : Description) (f : Flat) (whole : IsWellFormed d) (p : BusPlan) (is : seen p ≡ plan_of d f) where
  pub home_is : (i m : ℕ) (at : ComponentAt d f i) → m < length at.component.behavior.runnables → instance_of (bus.plan_of p) (pair_number (runnables_of d f) (i, m)) ≡ Some i
  home_is i m at below =
      let n = pair_number (runnables_of d f) (i, m) in
      let r = runnable_at d f i m at below in
      ap (λ l. option_map_or (λ (v : Runnable). Some v.instance) (slice_get l n) None) (runnables_are d f p is)
      ∙ ap (λ o. option_map_or (λ (v : Runnable). Some v.instance) o None) r.1 ∙ ap (λ i. Some i) r.2

  pub event_home : (i : ℕ) (at : ComponentAt d f i) (v : EventPlan) → Among v (map (event_of d f i) at.component.behavior.events) → instance_of (bus.plan_of p) v.runnable ≡ Some i
  event_home i at v h =
      let m = mapped (event_of d f i) v at.component.behavior.events h in
      let fits = all_at (event_fits d.types at.component) m.0 at.component.behavior.events (of_component d whole at.instance.component at.component at.at_component).events m.1 in
      let below = ltb-true m.0.runnable (length at.component.behavior.runnables) (and_parts (nat_lt m.0.runnable (length at.component.behavior.runnables)) _ fits).0 in
      ap (λ (v : EventPlan). instance_of (bus.plan_of p) v.runnable) m.2 ∙ home_is i m.0.runnable at below
