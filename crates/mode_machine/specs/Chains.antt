-- Events in chains, each of those that occur at one moment.
use Rattle.std.specs.Prelude.{◌≡◌, ℕ, ◌+◌, ◌≤◌, ◌<◌, List, length, Bool, true, false, Option, Some, None, slice_get, slice_index_or}
use Rattle.std.specs.Option.{option_map_or}
use Rattle.indexmap.specs.IndexMap.{get}
use Rattle.rte_value.specs.declared.kinds.Step.{Step}
use Rattle.rte_value.specs.declared.kinds.Step.TheVariants as step
use Rattle.mode_machine.specs.contracts.owed.ModeEventPartialEq.TheImpl.{eq-value}
use Rattle.mode_machine.specs.declared.chains.Chains.{Chains}
use Rattle.mode_machine.specs.declared.owed.ModeEvent.{ModeEvent}
use Rattle.mode_machine.specs.declared.owed.ModeEvent.TheVariants.{OnExit, OnTransition, OnEntry}

abbrev pub same_moment : ModeEvent → ModeEvent → Bool
same_moment a b = (eq-value).it a b

-- the moment of the events that a phase owes
abbrev pub moment_of : Step → (settled : ℕ) → (next : ℕ) → Option ModeEvent
moment_of (step.Close mode) settled next = None
moment_of step.Exit settled next = Some (OnExit settled)
moment_of step.Transition settled next = Some (OnTransition settled next)
moment_of step.Entry settled next = Some (OnEntry next)
moment_of step.Stable settled next = None

abbrev pub is_at : Option ModeEvent → ModeEvent → Bool
is_at at moment = option_map_or (λ a. same_moment moment a) at false

-- an event occurs at the moment
abbrev pub occurs : List ModeEvent → Option ModeEvent → (event : ℕ) → Bool
occurs moments at event = option_map_or (is_at at) (slice_get moments event) false

-- the place is the first from another one on that passes
pub record IsFirst (test : ℕ → Bool) (from at : ℕ) : Type 0 where
  pub behind : from ≤ at
  pub passes : test at ≡ true
  pub none : (place : ℕ) → from ≤ place → place < at → test place ≡ false

abbrev pub IsNext : (ℕ → Bool) → (from : ℕ) → Option ℕ → Type 0
IsNext test from None = (place : ℕ) → from ≤ place → test place ≡ false
IsNext test from (Some at) = IsFirst test from at

-- from the first event of each moment one comes to the others of that moment, in order
pub record AreChains (moments : List ModeEvent) (c : Chains) : Type 0 where
  pub count : length c.next.items ≡ length moments
  pub first : (a : ModeEvent) → IsNext (occurs moments (Some a)) 0 (get same_moment c.first a)
  pub next : (a : ModeEvent) (event : ℕ) → occurs moments (Some a) event ≡ true → IsNext (occurs moments (Some a)) (event + 1) (slice_index_or c.next.items event None)
