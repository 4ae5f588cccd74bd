-- How large a plan is, by its pieces.
use Rattle.std.specs.Prelude.{ℕ, ◌+◌, length, map, sum_by, Bool, ◌||◌, nat_le, nat_lt, if◌then◌else◌, Option, Some, None}
use Rattle.plan_definitions.specs.Common.{elem_seen, object_count, received, requested}
use Rattle.event_mapping.specs.declared.pieces.Pieces.{Pieces}

-- so many things, if there may be so many
abbrev pub few_things : ℕ → Option ℕ
few_things n = if nat_le n 16384 then Some n else None

-- the groups, servers, areas, machines and the clock
abbrev pub things_of : Pieces → ℕ
things_of x = object_count (length x.items.groups) (length x.services.servers) (length x.services.areas) (length x.modes.machines)

abbrev pub queues_of : Pieces → ℕ
queues_of x = sum_by received (map elem_seen x.items.elements) + (sum_by requested x.services.servers + sum_by (λ m. m.queue) x.modes.machines)

-- rule 30, of pieces
abbrev pub are_too_large : Pieces → Bool
are_too_large x = (nat_lt 16384 (things_of x) || nat_lt 16384 (length x.events)) || (nat_lt 65536 (queues_of x) || nat_lt 262144 (length x.services.points))
