use Rattle.std.proofs.Common.{◌≡◌, ℕ, true, is_some}
use Rattle.bus_semantics.specs.declared.script.Mapping.{Mapping}
use Rattle.bus_semantics.specs.Common.{Plan, Noted, Past, Follows, IsSound}
use Rattle.data_objects.specs.Kept as groups
use Rattle.data_objects.specs.Leading as group_leading
use Rattle.data_objects.specs.Standing as group_standing
use Rattle.bundle_objects.specs.Kept as bundles
use Rattle.queue_objects.specs.Kept as queues
use Rattle.bundle_objects.specs.Leading as bundle_leading
use Rattle.queue_objects.specs.Leading as queue_leading
use Rattle.bundle_objects.specs.Standing as bundle_standing
use Rattle.queue_objects.specs.Standing as queue_standing
use Rattle.server_objects.specs.Kept as servers
use Rattle.area_objects.specs.Kept as areas
use Rattle.machine_objects.specs.Kept as machines
use Rattle.server_objects.specs.Leading as server_leading
use Rattle.area_objects.specs.Leading as area_leading
use Rattle.machine_objects.specs.Leading as machine_leading
use Rattle.server_objects.specs.Standing as server_standing
use Rattle.area_objects.specs.Standing as area_standing
use Rattle.machine_objects.specs.Standing as machine_standing
use Rattle.clock_objects.specs.Kept as clocks
use Rattle.clock_objects.specs.Leading as clock_leading
use Rattle.clock_objects.specs.Standing as clock_standing
use Rattle.port_objects.specs.Common.{Kept, of_group, of_bundle, of_queues, of_server, of_area, of_machine, of_clock, lead, Stands}
use Rattle.port_objects.proofs.Rows.{group_row, bundle_row, queue_row, server_row, area_row, machine_row, clock_row, misses_nothing_by}
use Rattle.port_objects.proofs.laws.leads_miss_nothing.Goals as goal

pub returns : goal.returns
returns c = by_kind
  where
    by_kind : (p : Plan) (m : Mapping) (object : ℕ) (before : Kept) (l : Past) (n : Noted) → IsSound p m → Stands p object before l → Follows p object l n → is_some (lead p object before n) ≡ true
    by_kind p m object (of_group k) l n sound = misses_nothing_by p object of_group (group_standing.Keeps p object) (group_leading.lead p object) groups.may_start group_leading.why_held (group_row p object)
        (c.leads_miss_nothing.ensures p m object sound) k l n
    by_kind p m object (of_bundle k) l n sound = misses_nothing_by p object of_bundle (bundle_standing.Keeps p object) (bundle_leading.lead p) bundles.may_start bundle_leading.why_held (bundle_row p object)
        (c.leads_miss_nothing-7.ensures p m object sound) k l n
    by_kind p m object (of_queues k) l n sound = misses_nothing_by p object of_queues (queue_standing.Keeps p object) (queue_leading.lead p) queues.may_start queue_leading.why_held (queue_row p object)
        (c.leads_miss_nothing-2.ensures p m object sound) k l n
    by_kind p m object (of_server k) l n sound = misses_nothing_by p object of_server (server_standing.Keeps p object) server_leading.lead servers.may_start server_leading.why_held (server_row p object)
        (c.leads_miss_nothing-3.ensures p m object sound) k l n
    by_kind p m object (of_area k) l n sound = misses_nothing_by p object of_area (area_standing.Keeps p object) area_leading.lead areas.may_start area_leading.why_held (area_row p object)
        (c.leads_miss_nothing-4.ensures p m object sound) k l n
    by_kind p m object (of_machine k) l n sound = misses_nothing_by p object of_machine (machine_standing.Keeps p object) machine_leading.lead machines.may_start machine_leading.why_held (machine_row p object)
        (c.leads_miss_nothing-5.ensures p m object sound) k l n
    by_kind p m object (of_clock k) l n sound = misses_nothing_by p object of_clock (clock_standing.Keeps p object) clock_leading.lead clocks.may_start clock_leading.why_held (clock_row p object)
        (c.leads_miss_nothing-6.ensures p m object sound) k l n
