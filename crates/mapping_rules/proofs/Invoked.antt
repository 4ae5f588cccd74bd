-- The event by which an operation is invoked.
use Rattle.std.proofs.Common.{◌≡◌, ℕ, ◌+◌, List, [], ◌∷◌, ◌++◌, cond, Option, Some, None, option_map, option_and_then, refl, ap, ◌∙◌}
use Rattle.bus_semantics.specs.Common.{position_from, lookup}
use Rattle.plan_definitions.specs.Common.{Component, Event, EventKind, Timing, Init, DataReceived, OperationInvoked, CallReturns, ModeSwitchedAck, same_pair, from, invokes}
use Rattle.description_types.specs.declared.component.EventKind.TheVariants.{ModeSwitch}
use Rattle.mapping_rules.specs.Listed.{invoked_at, invoked_in}

module _ (k n : ℕ) where
  one : (m : ℕ) (kind : EventKind) (es : List ((ℕ × ℕ) × ℕ)) → lookup (same_pair (k, n)) (invoked_at m kind ++ es) ≡ cond (invokes k n kind) (Some m) (lookup (same_pair (k, n)) es)
  one m (Timing period) es = refl
  one m Init es = refl
  one m (DataReceived port element) es = refl
  one m (OperationInvoked port operation) es = refl
  one m (CallReturns port operation) es = refl
  one m (ModeSwitch port activation) es = refl
  one m (ModeSwitchedAck port) es = refl

  pub invoked_from : (m : ℕ) (es : List Event) → lookup (same_pair (k, n)) (from m (λ m e. invoked_at m e.kind) es) ≡ position_from (λ e. invokes k n e.kind) m es
  invoked_from m [] = refl
  invoked_from m (e ∷ es) = one m e.kind (from (m + 1) (λ m e. invoked_at m e.kind) es) ∙ ap (λ r. cond (invokes k n e.kind) (Some m) r) (invoked_from (m + 1) es)

  pub invoked_found : (entries : List ((ℕ × ℕ) × ℕ)) (o : Option Component) → Some entries ≡ option_map invoked_in o
      → lookup (same_pair (k, n)) entries ≡ option_and_then (λ c. position_from (λ e. invokes k n e.kind) 0 c.behavior.events) o
  invoked_found entries None is = cc
  invoked_found entries (Some c) is = ap (lookup (same_pair (k, n))) same ∙ invoked_from 0 c.behavior.events
    where
      same : entries ≡ invoked_in c
      same = cc

  pub invoked_absent : (o : Option Component) → None ≡ option_map invoked_in o → None ≡ option_and_then (λ c. position_from (λ e. invokes k n e.kind) 0 c.behavior.events) o
  invoked_absent None is = refl
  invoked_absent (Some c) is = cc
