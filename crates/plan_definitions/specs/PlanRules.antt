-- How large a plan may be.
use Rattle.std.specs.Prelude.{ℕ, ◌+◌, List, length, sum_by, Bool, true, false, not, ◌&&◌, ◌||◌, nat_lt, if◌then◌else◌}
use Rattle.std.specs.Option.{unwrap_or}
use Rattle.bus_semantics.specs.declared.plan.ElemKind.{ElemKind}
use Rattle.bus_semantics.specs.declared.plan.ElemKind.TheVariants as elem
use Rattle.bus_semantics.specs.declared.plan.ServerPlan.{ServerPlan}
use Rattle.plan_definitions.specs.Elements.{Elem}
use Rattle.plan_definitions.specs.Planned.{Planned, object_count}

-- Rule 30: there are at most 16,384 groups, servers, areas and machines together with the clock, and 16,384 events, the queue lengths of all receivers, queued servers and mode machines
-- are together at most 65,536, and there are at most 262,144 points at which operations are called. Every required queued element
-- is a receiver, joined or not, the environment's too; and so is each operation that the root provides a point.
abbrev pub is_queued : ElemKind → Bool
is_queued elem.Queued = true
is_queued _ = false

abbrev pub is_receiver : Elem → Bool
is_receiver e = is_queued e.kind && not e.provided

abbrev pub received : Elem → ℕ
received e = if is_receiver e then e.queue_length else 0

abbrev pub requested : ServerPlan → ℕ
requested s = unwrap_or s.queue 0

abbrev pub queue_lengths : Planned → ℕ
queue_lengths p = sum_by received p.elements + (sum_by requested p.servers + sum_by (λ m. m.queue) p.machines)

-- as many objects as there are without coherent lists
abbrev pub things : Planned → ℕ
things p = object_count (length p.groups) (length p.servers) (length p.areas) (length p.machines)

abbrev pub is_too_large : Planned → Bool
is_too_large p = (nat_lt 16384 (things p) || nat_lt 16384 (length p.events)) || (nat_lt 65536 (queue_lengths p) || nat_lt 262144 (length p.points))
