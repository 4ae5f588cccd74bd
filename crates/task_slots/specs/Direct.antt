-- Direct calls (SWS_RTE: Rte_Call of an operation whose server runnable is not mapped to a task): which activation an accepted ask starts.
use Rattle.std.specs.Prelude.{ℕ, if◌then◌else◌, Option, Some, None, option_map, option_and_then}
use Rattle.bus_semantics.specs.Common.{ActKey, Plan, look, server_of, is_over, is_end, direct_key, accepted_point}
use Rattle.bus_laws.specs.Common.{ServerPlan, Deed}
use Rattle.task_slots.specs.declared.slot.Call.{Call}
use Rattle.task_slots.specs.declared.slot.Activity.{Activity}
use Rattle.task_slots.specs.declared.slot.Activity.TheVariants.{Free, Runs, Calls, Serves}

-- the event that starts the server of a point
abbrev pub served_event : Plan → (point : ℕ) → ℕ
served_event p q = of_server (server_of p q)
  where
    of_server : Option ℕ → ℕ
    of_server None = 0
    of_server (Some s) = look p.servers s (λ (v : ServerPlan). v.event) 0

-- an accepted ask of the caller at a point calls its direct activation, and the event that starts it; none if the point has no direct server
abbrev pub call_at : Plan → (caller : ActKey) → (point : ℕ) → Option Call
call_at p k q = option_map (λ d. record { caller = k; direct = d; event = served_event p q }) (direct_key p q)

-- what a deed of the caller calls
abbrev pub call_in : Plan → (caller : ActKey) → Deed → Option Call
call_in p k d = option_and_then (call_at p k) (accepted_point d)

-- an activation goes on, or the one that it calls comes first
abbrev pub going_on : ActKey → Option Call → Activity
going_on k None = Runs k
going_on k (Some c) = Calls c

-- what runs in a task after a deed of its activation
abbrev pub after_deed : Plan → ActKey → Deed → Activity
after_deed p k d = if is_over d then Free else going_on k (call_in p k d)

-- and after a deed of a direct activation: its caller goes on after its end
abbrev pub after_inside : Call → Deed → Activity
after_inside c d = if is_end d then Runs c.caller else Serves c
