-- The lead: what an object keeps after an entry if it kept that before, or nothing if it would not answer so. It is a function of the
-- plan and of plain data, and knows no history. It leads on by no entry that does not touch the object, does not fit, or starts another
-- runnable than its actor's.
use Rattle.std.specs.Prelude.{ℕ, List, [], ◌∷◌, ◌&&◌, if◌then◌else◌, Option, Some, None, option_map, option_and_then}
use Rattle.bus_semantics.specs.Common.{Plan, Noted, touches, is_proper}
use Rattle.data_objects.specs.Leading as groups
use Rattle.bundle_objects.specs.Leading as bundles
use Rattle.queue_objects.specs.Leading as queues
use Rattle.server_objects.specs.Leading as servers
use Rattle.area_objects.specs.Leading as areas
use Rattle.machine_objects.specs.Leading as machines
use Rattle.clock_objects.specs.Leading as clocks
use Rattle.port_objects.specs.Kept.{Kept, of_group, of_bundle, of_queues, of_server, of_area, of_machine, of_clock}

-- by the kind of the object
abbrev pub lead_by_kind : Plan → (object : ℕ) → Kept → Noted → Option Kept
lead_by_kind p object (of_group k) n = option_map of_group (groups.lead p object k n)
lead_by_kind p object (of_bundle k) n = option_map of_bundle (bundles.lead p k n)
lead_by_kind p object (of_queues k) n = option_map of_queues (queues.lead p k n)
lead_by_kind p object (of_server k) n = option_map of_server (servers.lead k n)
lead_by_kind p object (of_area k) n = option_map of_area (areas.lead k n)
lead_by_kind p object (of_machine k) n = option_map of_machine (machines.lead k n)
lead_by_kind p object (of_clock k) n = option_map of_clock (clocks.lead k n)

unfoldable pub lead : Plan → (object : ℕ) → Kept → Noted → Option Kept
lead p object k n = if touches p object n && is_proper p n then lead_by_kind p object k n else None

-- what an object keeps after entries, the newest first
abbrev pub leads : Plan → (object : ℕ) → Kept → List Noted → Option Kept
leads p object k [] = Some k
leads p object k (n ∷ l) = option_and_then (λ (before : Kept). lead p object before n) (leads p object k l)
