-- What is to hold at rest, so that no run stalls: no activation runs, no event is due, and each machine is stable with no accepted switch
-- that it has not begun. It is this project's own; what is due and stable is the standard's, as those files say.
use Rattle.std.specs.Prelude.{◌≡◌, ℕ, Bool, true, not, ◌&&◌, length, is_none}
use Rattle.std.specs.List.{list_all}
use Rattle.bus_semantics.specs.declared.plan.EventPlan.{EventPlan}
use Rattle.bus_semantics.specs.declared.entries.Actor.TheVariants.{Act}
use Rattle.bus_semantics.specs.Plan.{Plan, every_from, positions}
use Rattle.bus_semantics.specs.History.{History, Past, noted}
use Rattle.bus_semantics.specs.Modes.{is_stable}
use Rattle.bus_semantics.specs.Phases.{first_unbegun}
use Rattle.bus_semantics.specs.Due.{is_due}
use Rattle.bus_semantics.specs.Rest.{plain_key, none_runs}

-- no event may start its runnable. For a server's event: no accepted request has not started, at any of its points
abbrev pub nothing_is_due : Plan → Past → Bool
nothing_is_due p h = every_from 0 (λ e (v : EventPlan). not (is_due p (Act (plain_key v.runnable)) e h)) p.events

abbrev pub machine_is_quiet : (machine : ℕ) → Past → Bool
machine_is_quiet n h = is_stable n h && is_none (first_unbegun n h)

pub record IsQuiet (p : Plan) (h : History) : Type 0 where
  pub none : none_runs p h ≡ true
  pub due : nothing_is_due p (noted h) ≡ true
  pub machines : list_all (λ n. machine_is_quiet n (noted h)) (positions (length p.machines)) ≡ true
