use Rattle.std.proofs.Common.{◌≡◌, ℕ, false, None}
use Rattle.bus_semantics.specs.Common.{Plan, Noted}
use Rattle.object_kinds.specs.Kinds.{IsPlainStart}
use Rattle.data_objects.specs.Kept as groups
use Rattle.data_objects.specs.Leading as group_leading
use Rattle.data_objects.specs.Standing as group_standing
use Rattle.bundle_objects.specs.Kept as bundles
use Rattle.queue_objects.specs.Kept as queues
use Rattle.bundle_objects.specs.Leading as bundle_leading
use Rattle.queue_objects.specs.Leading as queue_leading
use Rattle.bundle_objects.specs.Standing as bundle_standing
use Rattle.queue_objects.specs.Standing as queue_standing
use Rattle.server_objects.specs.Kept as servers
use Rattle.area_objects.specs.Kept as areas
use Rattle.machine_objects.specs.Kept as machines
use Rattle.server_objects.specs.Leading as server_leading
use Rattle.area_objects.specs.Leading as area_leading
use Rattle.machine_objects.specs.Leading as machine_leading
use Rattle.server_objects.specs.Standing as server_standing
use Rattle.area_objects.specs.Standing as area_standing
use Rattle.machine_objects.specs.Standing as machine_standing
use Rattle.clock_objects.specs.Kept as clocks
use Rattle.clock_objects.specs.Leading as clock_leading
use Rattle.clock_objects.specs.Standing as clock_standing
use Rattle.port_objects.specs.Common.{Kept, of_group, of_bundle, of_queues, of_server, of_area, of_machine, of_clock, lead, may_start_in}
use Rattle.port_objects.proofs.Rows.{group_row, bundle_row, queue_row, server_row, area_row, machine_row, clock_row, held_by}
use Rattle.port_objects.proofs.waking.held_starts_lead_nowhere.Goals as goal

pub returns : goal.returns
returns c = by_kind
  where
    by_kind : (p : Plan) (object : ℕ) (k : Kept) (event : ℕ) (n : Noted) → may_start_in k event ≡ false → IsPlainStart event n → lead p object k n ≡ None
    by_kind p object (of_group k) = held_by p object of_group (group_standing.Keeps p object) (group_leading.lead p object) groups.may_start group_leading.why_held (group_row p object)
        (c.starts_go_by_flags.ensures p object) k
    by_kind p object (of_bundle k) = held_by p object of_bundle (bundle_standing.Keeps p object) (bundle_leading.lead p) bundles.may_start bundle_leading.why_held (bundle_row p object)
        (c.starts_go_by_flags-7.ensures p) k
    by_kind p object (of_queues k) = held_by p object of_queues (queue_standing.Keeps p object) (queue_leading.lead p) queues.may_start queue_leading.why_held (queue_row p object)
        (c.starts_go_by_flags-2.ensures p) k
    by_kind p object (of_server k) = held_by p object of_server (server_standing.Keeps p object) server_leading.lead servers.may_start server_leading.why_held (server_row p object) c.starts_go_by_flags-3.ensures k
    by_kind p object (of_area k) = held_by p object of_area (area_standing.Keeps p object) area_leading.lead areas.may_start area_leading.why_held (area_row p object) c.starts_go_by_flags-4.ensures k
    by_kind p object (of_machine k) = held_by p object of_machine (machine_standing.Keeps p object) machine_leading.lead machines.may_start machine_leading.why_held (machine_row p object) c.starts_go_by_flags-5.ensures k
    by_kind p object (of_clock k) = held_by p object of_clock (clock_standing.Keeps p object) clock_leading.lead clocks.may_start clock_leading.why_held (clock_row p object) c.starts_go_by_flags-6.ensures k
