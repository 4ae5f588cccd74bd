-- Calls that do not wait (Software Component Template: AsynchronousServerCallPoint, AsynchronousServerCallResultPoint).
use Rattle.std.specs.Prelude.{ℕ, List, [], ◌∷◌, Bool, true, ◌==◌, nat_lt, Option}
use Rattle.bus_semantics.specs.Common.{flat_map, option_or, AccessKind}
use Rattle.runnable_lang.specs.declared.program.AccessKind.TheVariants as kind
use Rattle.description_types.specs.declared.component.Access.{Access}
use Rattle.description_types.specs.declared.component.Component.{Component}
use Rattle.description_types.specs.declared.component.Event.{Event}
use Rattle.description_types.specs.declared.component.EventKind.{EventKind}
use Rattle.description_types.specs.declared.component.EventKind.TheVariants.{CallReturns}
use Rattle.description_types.specs.declared.component.Runnable.{Runnable}
use Rattle.plan_definitions.specs.declared.spot.Spot.{Spot}
use Rattle.plan_definitions.specs.declared.spot.Spot.TheVariants as spot
use Rattle.plan_definitions.specs.Firsts.{first_of, unless}
use Rattle.plan_definitions.specs.Counts.{count, same_operation}

-- the operation, with its port, that an access calls, and that it calls without waiting
abbrev pub called_by : Access → List (ℕ × ℕ)
called_by a = by_kind a.kind
  where
    by_kind : AccessKind → List (ℕ × ℕ)
    by_kind kind.Call = (a.port, a.item) ∷ []
    by_kind kind.ACall = (a.port, a.item) ∷ []
    by_kind _ = []

abbrev pub left_by : Access → List (ℕ × ℕ)
left_by a = by_kind a.kind
  where
    by_kind : AccessKind → List (ℕ × ℕ)
    by_kind kind.ACall = (a.port, a.item) ∷ []
    by_kind _ = []

-- those of all runnables
abbrev pub called : List Runnable → List (ℕ × ℕ)
called runnables = flat_map (λ r. flat_map called_by r.accesses) runnables

abbrev pub left : List Runnable → List (ℕ × ℕ)
left runnables = flat_map (λ r. flat_map left_by r.accesses) runnables

-- it is the only access that calls the operation, and there is one that calls it without waiting
abbrev pub is_called_once : List Runnable → ℕ × ℕ → Bool
is_called_once runnables operation = count (same_operation operation) (called runnables) == 1

abbrev pub is_left : List Runnable → ℕ × ℕ → Bool
is_left runnables operation = nat_lt 0 (count (same_operation operation) (left runnables))

abbrev pub access_keeps : List Runnable → Access → Bool
access_keeps runnables a = by_kind a.kind
  where
    by_kind : AccessKind → Bool
    by_kind kind.ACall = is_called_once runnables (a.port, a.item)
    by_kind kind.TakeResult = is_left runnables (a.port, a.item)
    by_kind _ = true

abbrev pub event_keeps : List Runnable → EventKind → Bool
event_keeps runnables (CallReturns k n) = is_left runnables (k, n)
event_keeps runnables _ = true

-- Rule 23: an operation that a runnable calls without waiting is called by no other access of the component; who takes a result
-- or is started by one names an operation that is called without waiting. (The accesses of one runnable are distinct.) The first
-- access of a component that breaks it, or else the first AsynchronousServerCallReturnsEvent.
abbrev pub mixed_among : List Runnable → (runnable : ℕ) → List Access → Option Spot
mixed_among runnables m accesses = first_of (λ k a. unless (access_keeps runnables a) (spot.Access m k)) 0 accesses

abbrev pub mixed_access : List Runnable → Option Spot
mixed_access runnables = first_of (λ m r. mixed_among runnables m r.accesses) 0 runnables

abbrev pub mixed_event : List Runnable → List Event → Option Spot
mixed_event runnables events = first_of (λ k e. unless (event_keeps runnables e.kind) (spot.Event k)) 0 events

abbrev pub mixed : Component → Option Spot
mixed c = option_or (mixed_access c.behavior.runnables) (mixed_event c.behavior.runnables c.behavior.events)
