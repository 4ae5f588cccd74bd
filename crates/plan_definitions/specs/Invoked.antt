-- The operations by whose calls events come, by component.
use Rattle.std.specs.Prelude.{ℕ, List, map, Option, Some, None}
use Rattle.description_types.specs.declared.component.Component.{Component}
use Rattle.description_types.specs.declared.component.EventKind.{EventKind}
use Rattle.description_types.specs.declared.component.EventKind.TheVariants.{OperationInvoked}
use Rattle.description_types.specs.declared.description.Description.{Description}

-- the port and the operation of an OperationInvokedEvent
abbrev pub invoked_by : EventKind → Option (ℕ × ℕ)
invoked_by (OperationInvoked k n) = Some (k, n)
invoked_by _ = None

abbrev pub invoked_in : Component → List (Option (ℕ × ℕ))
invoked_in c = map (λ e. invoked_by e.kind) c.behavior.events

abbrev pub all_invoked : Description → List (List (Option (ℕ × ℕ)))
all_invoked d = map invoked_in d.components
