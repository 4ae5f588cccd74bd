-- What a name finds in a plan: the number of the first thing of that name.
use Rattle.std.specs.Prelude.{ℕ, Bool, ◌&&◌, bytes_eq, codes, length, if◌then◌else◌, Option, Some, None, position}
use Rattle.bus_semantics.specs.Common.{same_number, Plan, look, instance_of, Letters}
use Rattle.bus_laws.specs.Common.{PointPlan, MachinePlan}
use Rattle.line_fields.specs.Named.{is_area, is_elem, is_event, is_machine, is_mode_port, is_point, is_runnable, is_text}
use Rattle.trace_reading.specs.Fields.{numbered}

abbrev pub instance_at : Plan → Letters → Option ℕ
instance_at p t = numbered (position (is_text t) p.names)

-- its place, which may need more than 32 bits
abbrev pub runnable_at : Plan → (home : Option ℕ) → Letters → Option ℕ
runnable_at p home t = position (is_runnable home t) p.runnables

abbrev pub elem_at : Plan → (home : Option ℕ) → Letters → Option ℕ
elem_at p home t = numbered (position (is_elem home t) p.elements)

abbrev pub point_at : Plan → (caller : Option ℕ) → Letters → Option ℕ
point_at p caller t = numbered (position (is_point caller t) p.points)

abbrev pub area_at : Plan → (home : Option ℕ) → Letters → Option ℕ
area_at p home t = numbered (position (is_area home t) p.areas)

abbrev pub machine_at : Plan → (home : Option ℕ) → Letters → Option ℕ
machine_at p home t = numbered (position (is_machine home t) p.machines)

abbrev pub mode_port_at : Plan → (home : Option ℕ) → Letters → Option ℕ
mode_port_at p home t = numbered (position (is_mode_port home t) p.mode_ports)

abbrev pub event_at : Plan → (home : Option ℕ) → Letters → Option ℕ
event_at p home t = numbered (position (is_event p home t) p.events)

-- the instance of a runnable that calls
abbrev pub home_of_caller : Plan → Option ℕ → Option ℕ
home_of_caller p None = None
home_of_caller p (Some r) = instance_of p r

-- a point at which a runnable of the instance calls without waiting
abbrev pub is_result : Plan → (home : Option ℕ) → Letters → PointPlan → Bool
is_result p home t q = q.asynchronous && (same_number (home_of_caller p q.runnable) home && bytes_eq q.name t)

abbrev pub result_at : Plan → (home : Option ℕ) → Letters → Option ℕ
result_at p home t = numbered (position (is_result p home t) p.points)

-- a mode of a machine by its name; a dash is the transition value
abbrev pub mode_place : MachinePlan → Letters → Option ℕ
mode_place n t = if bytes_eq t (codes "-") then Some (length n.modes) else position (is_text t) n.modes

abbrev pub mode_named : Plan → (machine : ℕ) → Letters → Option ℕ
mode_named p m t = look p.machines m (λ (n : MachinePlan). numbered (mode_place n t)) None
