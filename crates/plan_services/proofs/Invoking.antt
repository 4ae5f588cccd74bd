-- The event by which an operation is invoked, as it is looked up.
use Rattle.std.proofs.Common.{◌≡◌, ℕ, List, map, Bool, true, false, cond, ◌&&◌, nat_eq, Option, Some, None, refl, sym, ap, ◌∙◌}
use Rattle.bus_semantics.specs.Common.{slice_get-map, position_from, slice_get, option_and_then, option_eq, option_map, option_map_or, unwrap_or}
use Rattle.plan_definitions.specs.Common.{Component, Event, Description, Flat, Instance, EventKind, Timing, Init, DataReceived, OperationInvoked, CallReturns, ModeSwitchedAck, same_pair}
use Rattle.plan_definitions.specs.Common.{invocation_of, invokes, all_invoked, invoked_by, invoked_in}
use Rattle.description_types.specs.declared.component.EventKind.TheVariants.{ModeSwitch}
use Rattle.plan_services.proofs.Pointing.{position_map}

-- the flag of a number
pub flag_at : {X : Type 0} (test : X → Bool) (xs : List X) (flags : List Bool) (n : ℕ) → flags ≡ map test xs → unwrap_or (slice_get flags n) false ≡ option_map_or test (slice_get xs n) false
flag_at {X} test xs flags n are = ap (λ fs. unwrap_or (slice_get fs n) false) are ∙ ap (λ o. unwrap_or o false) (slice_get-map test xs n) ∙ by (slice_get xs n)
  where
    by : (o : Option X) → unwrap_or (option_map test o) false ≡ option_map_or test o false
    by None = refl
    by (Some x) = refl

same_invocation : (k n : ℕ) (kind : EventKind) → option_eq same_pair (Some (k, n)) (invoked_by kind) ≡ invokes k n kind
same_invocation k n (Timing period) = refl
same_invocation k n Init = refl
same_invocation k n (DataReceived port element) = refl
same_invocation k n (OperationInvoked port operation) = refl
same_invocation k n (CallReturns port operation) = refl
same_invocation k n (ModeSwitch port activation) = refl
same_invocation k n (ModeSwitchedAck port) = refl

pub in_component : (k n : ℕ) (c : Component) → position_from (option_eq same_pair (Some (k, n))) 0 (invoked_in c) ≡ position_from (λ (e : Event). invokes k n e.kind) 0 c.behavior.events
in_component k n c = position_map (λ (e : Event). invoked_by e.kind) (option_eq same_pair (Some (k, n))) (λ e. invokes k n e.kind) (λ e. same_invocation k n e.kind) 0 c.behavior.events

module _ (k n : ℕ) where
  abbrev searched : List (Option (ℕ × ℕ)) → Option ℕ
  searched keys = position_from (option_eq same_pair (Some (k, n))) 0 keys

  abbrev wanted : Component → Option ℕ
  wanted c = position_from (λ (e : Event). invokes k n e.kind) 0 c.behavior.events

  in_found : (c : Option Component) → option_and_then searched (option_map invoked_in c) ≡ option_and_then wanted c
  in_found None = refl
  in_found (Some c) = in_component k n c

  of_instance : (components : List Component) (tables : List (List (Option (ℕ × ℕ)))) (x : Option Instance) → tables ≡ map invoked_in components
      → option_and_then searched (option_and_then (λ (x : Instance). slice_get tables x.component) x) ≡ option_and_then wanted (option_and_then (λ (x : Instance). slice_get components x.component) x)
  of_instance components tables None are = refl
  of_instance components tables (Some x) are = (λ j. option_and_then searched (slice_get (are j) x.component)) ∙ ap (option_and_then searched) (slice_get-map invoked_in components x.component) ∙ in_found (slice_get components x.component)

pub invoked_found : (d : Description) (f : Flat) (tables : List (List (Option (ℕ × ℕ)))) (i k n : ℕ) → tables ≡ all_invoked d
    → option_and_then (position_from (option_eq same_pair (Some (k, n))) 0) (option_and_then (λ (x : Instance). slice_get tables x.component) (slice_get f.instances i)) ≡ invocation_of d f i k n
invoked_found d f tables i k n are = of_instance k n d.components tables (slice_get f.instances i) are
