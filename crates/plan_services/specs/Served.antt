-- The operations that the runnables of a component serve.
use Rattle.std.specs.Prelude.{ℕ, List, [], ◌∷◌}
use Rattle.std.specs.Option.{option_map_or}
use Rattle.plan_definitions.specs.Common.{Event, invoked_by}

-- the port and the operation
abbrev pub Served : Type 0
Served = ℕ × ℕ

-- the runnable that an OperationInvokedEvent starts, with what it serves; nothing for other events
abbrev pub served_entry : Event → List (ℕ × Served)
served_entry e = option_map_or (λ x. (e.runnable, x) ∷ []) (invoked_by e.kind) []
