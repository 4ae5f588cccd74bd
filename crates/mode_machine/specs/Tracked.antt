-- Events that the phases of a machine owe, as they lie: which the last phase owes, and the first of them that is left.
use Rattle.std.specs.Prelude.{◌≡◌, ◌≤◌, ◌^◌, ◌⊎◌, ℕ, List, length, map, position, Bool, true, false, ◌||◌, if◌then◌else◌, Option, None, slice_index_or}
use Rattle.rte_value.specs.declared.kinds.Step.{Step}
use Rattle.mode_machine.specs.Chains.{AreChains, IsNext, is_at, moment_of}
use Rattle.mode_machine.specs.Disabling.{Watched}
use Rattle.mode_machine.specs.Owed.{idle_event}
use Rattle.mode_machine.specs.declared.chains.Chains.{Chains}
use Rattle.mode_machine.specs.declared.owed.ModeEvent.{ModeEvent}
use Rattle.mode_machine.specs.declared.owed.OwedEvent.{OwedEvent}

-- events, and the moment of those that the last phase owes
pub record Tracked : Type 0 where
  pub events : List OwedEvent
  pub last : Option ModeEvent

abbrev pub moment_in : OwedEvent → ModeEvent
moment_in e = e.moment

abbrev pub event_at : List OwedEvent → (event : ℕ) → OwedEvent
event_at events event = slice_index_or events event idle_event

abbrev pub is_left : List OwedEvent → (event : ℕ) → Bool
is_left events event = (event_at events event).left

-- an event that is due is left, and has not begun; only what the last phase owes is left or has begun
pub record IsTracked (last : Option ModeEvent) (e : OwedEvent) : Type 0 where
  pub due : e.due ≡ true → e.left ≡ true
  pub waits : e.due ≡ true → e.begun ≡ false
  pub owed : (e.left || e.begun) ≡ true → is_at last e.moment ≡ true

pub record AreTracked (t : Tracked) (c : Chains) (first : Option ℕ) : Type 0 where
  pub chains : AreChains (map moment_in t.events) c
  pub left : IsNext (is_left t.events) 0 first
  pub each : (event : ℕ) → IsTracked t.last (event_at t.events event)

-- a phase may come: nothing of the last one is left
abbrev pub IsReady : Tracked → Type 0
IsReady t = (t.last ≡ None) ⊎ (position (λ (e : OwedEvent). e.left) t.events ≡ None)

-- what is done to the events of a moment alone
abbrev pub if_at : Option ModeEvent → (OwedEvent → OwedEvent) → OwedEvent → OwedEvent
if_at at f e = if is_at at e.moment then f e else e

-- how the parts of a machine hang together: the last phase owes what is left, and the mode to which the machine goes is watched
pub record AreTied (owed : Tracked) (disablings : Watched) (stage : Step) (settled next : ℕ) : Type 0 where
  pub few_events : length owed.events ≤ 2 ^ 32
  pub few_disablings : length disablings.events ≤ 2 ^ 32
  pub last : owed.last ≡ moment_of stage settled next
  pub watched : disablings.mode ≡ next
