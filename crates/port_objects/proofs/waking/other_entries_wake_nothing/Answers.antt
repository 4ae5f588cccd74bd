use Rattle.std.proofs.Common.{◌≡◌, ℕ, false, refl, Some}
use Rattle.bus_semantics.specs.declared.entries.Deed.{Deed}
use Rattle.bus_semantics.specs.declared.entries.Deed.TheVariants as deed
use Rattle.bus_semantics.specs.Common.{Plan, Noted}
use Rattle.data_objects.specs.Kept as groups
use Rattle.data_objects.specs.Leading as group_leading
use Rattle.data_objects.specs.Standing as group_standing
use Rattle.bundle_objects.specs.Kept as bundles
use Rattle.queue_objects.specs.Kept as queues
use Rattle.bundle_objects.specs.Leading as bundle_leading
use Rattle.queue_objects.specs.Leading as queue_leading
use Rattle.bundle_objects.specs.Standing as bundle_standing
use Rattle.queue_objects.specs.Standing as queue_standing
use Rattle.server_objects.specs.Kept as servers
use Rattle.area_objects.specs.Kept as areas
use Rattle.machine_objects.specs.Kept as machines
use Rattle.server_objects.specs.Leading as server_leading
use Rattle.area_objects.specs.Leading as area_leading
use Rattle.machine_objects.specs.Leading as machine_leading
use Rattle.server_objects.specs.Standing as server_standing
use Rattle.area_objects.specs.Standing as area_standing
use Rattle.machine_objects.specs.Standing as machine_standing
use Rattle.clock_objects.specs.Kept as clocks
use Rattle.clock_objects.specs.Leading as clock_leading
use Rattle.clock_objects.specs.Standing as clock_standing
use Rattle.port_objects.specs.Common.{Kept, of_group, of_bundle, of_queues, of_server, of_area, of_machine, of_clock, lead, may_start_in, wakes}
use Rattle.port_objects.proofs.Rows.{group_row, bundle_row, queue_row, server_row, area_row, machine_row, clock_row, wakes_nothing_by}
use Rattle.port_objects.proofs.waking.other_entries_wake_nothing.Goals as goal

-- what can make no start come can make none come on an object of any kind
group_quiet : (d : Deed) → wakes d ≡ false → group_leading.wakes d ≡ false
group_quiet (deed.Write x value) none = none
group_quiet (deed.Publish x value) none = none
group_quiet d none = refl

bundle_quiet : (d : Deed) → wakes d ≡ false → bundle_leading.wakes d ≡ false
bundle_quiet (deed.Write x value) none = none
bundle_quiet (deed.Publish x value) none = none
bundle_quiet (deed.PublishAll l written value) none = none
bundle_quiet d none = refl

queue_quiet : (d : Deed) → wakes d ≡ false → queue_leading.wakes d ≡ false
queue_quiet (deed.Send x value code) none = none
queue_quiet d none = refl

server_quiet : (d : Deed) → wakes d ≡ false → server_leading.wakes d ≡ false
server_quiet (deed.Ask q value code) none = none
server_quiet (deed.Return code value) none = none
server_quiet d none = refl

machine_quiet : (d : Deed) → wakes d ≡ false → machine_leading.wakes d ≡ false
machine_quiet (deed.Phase step) none = none
machine_quiet deed.End none = none
machine_quiet d none = refl

clock_quiet : (d : Deed) → wakes d ≡ false → clock_leading.wakes d ≡ false
clock_quiet deed.Tick none = none
clock_quiet d none = refl

pub returns : goal.returns
returns c = by_kind
  where
    by_kind : (p : Plan) (object : ℕ) (before after : Kept) (n : Noted) → lead p object before n ≡ Some after → wakes n.entry.deed ≡ false → (event : ℕ) → may_start_in before event ≡ false → may_start_in after event ≡ false
    by_kind p object (of_group k) after n leads other = wakes_nothing_by p object of_group (group_standing.Keeps p object) (group_leading.lead p object) groups.may_start group_leading.why_held (group_row p object)
        group_leading.wakes (c.other_entries_wake_nothing.ensures p object) k after n leads (group_quiet n.entry.deed other)
    by_kind p object (of_bundle k) after n leads other = wakes_nothing_by p object of_bundle (bundle_standing.Keeps p object) (bundle_leading.lead p) bundles.may_start bundle_leading.why_held (bundle_row p object)
        bundle_leading.wakes (c.other_entries_wake_nothing-7.ensures p) k after n leads (bundle_quiet n.entry.deed other)
    by_kind p object (of_queues k) after n leads other = wakes_nothing_by p object of_queues (queue_standing.Keeps p object) (queue_leading.lead p) queues.may_start queue_leading.why_held (queue_row p object)
        queue_leading.wakes (c.other_entries_wake_nothing-2.ensures p) k after n leads (queue_quiet n.entry.deed other)
    by_kind p object (of_server k) after n leads other = wakes_nothing_by p object of_server (server_standing.Keeps p object) server_leading.lead servers.may_start server_leading.why_held (server_row p object)
        server_leading.wakes c.other_entries_wake_nothing-3.ensures k after n leads (server_quiet n.entry.deed other)
    by_kind p object (of_area k) after n leads other = wakes_nothing_by p object of_area (area_standing.Keeps p object) area_leading.lead areas.may_start area_leading.why_held (area_row p object)
        area_leading.wakes c.other_entries_wake_nothing-4.ensures k after n leads refl
    by_kind p object (of_machine k) after n leads other = wakes_nothing_by p object of_machine (machine_standing.Keeps p object) machine_leading.lead machines.may_start machine_leading.why_held (machine_row p object)
        machine_leading.wakes c.other_entries_wake_nothing-5.ensures k after n leads (machine_quiet n.entry.deed other)
    by_kind p object (of_clock k) after n leads other = wakes_nothing_by p object of_clock (clock_standing.Keeps p object) clock_leading.lead clocks.may_start clock_leading.why_held (clock_row p object)
        clock_leading.wakes c.other_entries_wake_nothing-6.ensures k after n leads (clock_quiet n.entry.deed other)
