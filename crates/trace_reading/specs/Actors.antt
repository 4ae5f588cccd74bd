-- The actor that a field names, and the point.
use Rattle.std.specs.Prelude.{ℕ, bytes_eq, codes, if◌then◌else◌, Option, Some, None, option_map, option_and_then}
use Rattle.bus_semantics.specs.Common.{ActKey, Plan, Letters}
use Rattle.bus_laws.specs.Common.{Actor, Env, Machine, Act}
use Rattle.trace_reading.specs.Cuts.{before, behind}
use Rattle.trace_reading.specs.Fields.{numbered}
use Rattle.trace_reading.specs.Finding.{instance_at, machine_at, point_at, runnable_at}

-- INSTANCE, and env for the environment
abbrev pub home_in : Plan → Letters → Option (Option ℕ)
home_in p t = if bytes_eq t (codes "env") then Some None else option_map (λ i. Some i) (instance_at p t)

-- INSTANCE:RUNNABLE
abbrev pub runnable_in : Plan → Letters → Option ℕ
runnable_in p t = by_colon (behind 58 t)
  where
    by_colon : Option Letters → Option ℕ
    by_colon None = None
    by_colon (Some name) = option_and_then (λ i. runnable_at p (Some i) name) (instance_at p (before 58 t))

-- INSTANCE:RUNNABLE, and env for the environment
abbrev pub caller_in : Plan → Letters → Option (Option ℕ)
caller_in p t = if bytes_eq t (codes "env") then Some None else option_map (λ r. Some r) (runnable_in p t)

-- CALLER.PORT.OPERATION
abbrev pub point_in : Plan → Letters → Option ℕ
point_in p t = by_dot (behind 46 t)
  where
    by_dot : Option Letters → Option ℕ
    by_dot None = None
    by_dot (Some name) = option_and_then (λ caller. point_at p caller name) (caller_in p (before 46 t))

-- INSTANCE.PORT.ELEMENT
abbrev pub machine_in : Plan → Letters → Option ℕ
machine_in p t = by_dot (behind 46 t)
  where
    by_dot : Option Letters → Option ℕ
    by_dot None = None
    by_dot (Some name) = option_and_then (λ home. machine_at p home name) (home_in p (before 46 t))

-- INSTANCE:RUNNABLE, and INSTANCE:RUNNABLE@POINT
abbrev pub key_with : Plan → (runnable : ℕ) → (point : Option Letters) → Option ActKey
key_with p r None = Some (record { runnable = r; point = None })
key_with p r (Some t) = option_map (λ q. record { runnable = r; point = Some q }) (point_in p t)

abbrev pub key_in : Plan → Letters → Option ActKey
key_in p t = option_and_then (λ r. key_with p r (behind 64 t)) (numbered (runnable_in p (before 64 t)))

abbrev pub actor_in : Plan → Letters → Option Actor
actor_in p t = if bytes_eq t (codes "env") then Some Env else by_colon (behind 58 t)
  where
    by_colon : Option Letters → Option Actor
    by_colon None = option_map (λ m. Machine m) (machine_in p t)
    by_colon (Some name) = option_map (λ k. Act k) (key_in p t)
