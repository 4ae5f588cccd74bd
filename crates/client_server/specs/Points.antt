-- What became of the last request of a call point.
use Rattle.std.specs.Prelude.{Bool, true, false, Option, Some, None}
use Rattle.rte_value.specs.declared.value.Value.{Value}
use Rattle.client_server.specs.declared.point.Outcome.{Outcome}
use Rattle.client_server.specs.declared.point.Point.{Point}
use Rattle.client_server.specs.declared.point.Stage.{Stage}
use Rattle.client_server.specs.declared.point.Stage.TheVariants.{Idle, Asked, Started, Returned}

-- a point that was never asked for
abbrev pub new_point : Point
new_point = record { stage = Idle; due = false }

-- no request is outstanding
abbrev pub is_idle : Stage → Bool
is_idle Idle = true
is_idle (Asked v) = false
is_idle Started = false
is_idle (Returned o) = false

-- the request was started and has no reply
abbrev pub is_started : Stage → Bool
is_started Idle = false
is_started (Asked v) = false
is_started Started = true
is_started (Returned o) = false

-- the value of a request that has not started
abbrev pub value_asked : Stage → Option Value
value_asked Idle = None
value_asked (Asked v) = Some v
value_asked Started = None
value_asked (Returned o) = None

-- what was returned and not yet taken
abbrev pub outcome_in : Stage → Option Outcome
outcome_in Idle = None
outcome_in (Asked v) = None
outcome_in Started = None
outcome_in (Returned o) = Some o
