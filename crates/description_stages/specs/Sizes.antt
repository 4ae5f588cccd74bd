-- Rule 30 over what is listed (Software Component Template, flattened; profile: the limits of a bus). There are at most 16,384 groups,
-- servers, areas and machines together with the clock, and 16,384 events, in all queues together at most 65,536 values, requests and
-- switches may wait, and there are at most 262,144 points.
use Rattle.std.specs.Prelude.{ℕ, ◌+◌, length, sum_by, Bool, false, ◌||◌, nat_lt, if◌then◌else◌}
use Rattle.std.specs.Option.{unwrap_or}
use Rattle.plan_definitions.specs.Common.{Description, Flat, areas_of, events_of, sites, queue_length_of, machines_of, servers_of, kind_of, leaders, heads, server_of, is_queued, callings}
use Rattle.plan_definitions.specs.declared.site.Site.{Site}
use Rattle.plan_definitions.specs.declared.site.SiteKind.{SiteKind}
use Rattle.plan_definitions.specs.declared.site.SiteKind.TheVariants.{Element, Server, Machine}

-- the groups of data elements, each by its least element, the servers, the exclusive areas, the mode machines, and the clock
abbrev pub things_of : Description → Flat → ℕ
things_of d f = length (heads (leaders d f)) + (length (servers_of d f) + (length (areas_of d f) + (length (machines_of d f) + 1)))

-- how many may wait: at a required element that is queued, joined or not, the environment's too; at a server whose event is mapped; at a machine
abbrev pub waiting_at : Description → Flat → Site → ℕ
waiting_at d f s = by s.kind
  where
    by : SiteKind → ℕ
    by (Element false) = if is_queued (kind_of d f s) then queue_length_of d f s.owner (unwrap_or s.port 0) s.item else 0
    by Server = unwrap_or (server_of d f s).queue 0
    by Machine = queue_length_of d f s.owner (unwrap_or s.port 0) 0
    by _ = 0

-- rule 30 is broken
abbrev pub is_past : Description → Flat → Bool
is_past d f = (nat_lt 16384 (things_of d f) || nat_lt 16384 (length (events_of d f))) || (nat_lt 65536 (sum_by (waiting_at d f) (sites d f)) || nat_lt 262144 (length (callings d f)))
