-- Which starts and Answers an object allows, which entries can make a start come, and what the last entry can have made come; and when an
-- area is closed.
use Rattle.std.specs.Prelude.{◌≡◌, ℕ, List, [], Bool, true, false, Option, Some, None, unwrap_or}
use Rattle.bus_semantics.specs.Common.{Contains, Plan, to_enter, wanted_by, Noted}
use Rattle.bus_semantics.specs.declared.entries.Deed.{Deed}
use Rattle.bus_semantics.specs.declared.entries.Deed.TheVariants as deed
use Rattle.data_objects.specs.Kept as groups
use Rattle.bundle_objects.specs.Kept as bundles
use Rattle.queue_objects.specs.Kept as queues
use Rattle.server_objects.specs.Kept as servers
use Rattle.area_objects.specs.Kept as areas
use Rattle.machine_objects.specs.Kept as machines
use Rattle.clock_objects.specs.Kept as clocks
use Rattle.port_objects.specs.declared.object.Object.{Object}
use Rattle.port_objects.specs.declared.object.Object.TheVariants.{Unqueued, Bundle, Queued, Server, Area, Machine, Clock}
use Rattle.port_objects.specs.Kept.{Kept, of_group, of_bundle, of_queues, of_server, of_area, of_machine, of_clock}
use Rattle.port_objects.specs.Leading.{lead}
use Rattle.port_objects.specs.Objects.{kept_of}

-- whether a start by an event may come if an object keeps this
abbrev pub may_start_in : Kept → (event : ℕ) → Bool
may_start_in (of_group k) e = groups.may_start k e
may_start_in (of_bundle k) e = bundles.may_start k e
may_start_in (of_queues k) e = queues.may_start k e
may_start_in (of_server k) e = servers.may_start k e
may_start_in (of_area k) e = areas.may_start k e
may_start_in (of_machine k) e = machines.may_start k e
may_start_in (of_clock k) e = clocks.may_start k e

-- an entry that can make a start come: new data, a tick, a request, what ends one, and what moves a machine on
abbrev pub wakes : Deed → Bool
wakes (deed.Write x value) = true
wakes (deed.Publish x value) = true
wakes (deed.PublishAll l written value) = true
wakes (deed.Send x value code) = true
wakes deed.Tick = true
wakes (deed.Ask q value code) = true
wakes (deed.Return code value) = true
wakes (deed.Phase step) = true
wakes deed.End = true
wakes _ = false

-- the events that the last entry on an object that can make a start come made pending
abbrev pub woken_in : Object → List ℕ
woken_in (Unqueued g) = g.woken
woken_in (Bundle b) = b.woken
woken_in (Queued g) = g.woken
woken_in (Server s) = s.woken
woken_in (Area a) = []
woken_in (Machine m) = m.woken
woken_in (Clock t) = t.woken

-- each start that an object came to allow is by one of these
abbrev pub Tells : (before : Kept) → (now : Object) → Type 0
Tells before now = (event : ℕ) → may_start_in before event ≡ false → may_start_in (kept_of now) event ≡ true → Contains (woken_in now) event

-- whether an Answer at a point may come if an object keeps this (SWS_RTE: Rte_Call)
abbrev pub may_hear_in : Kept → (point : ℕ) → Bool
may_hear_in (of_group k) q = false
may_hear_in (of_bundle k) q = false
may_hear_in (of_queues k) q = false
may_hear_in (of_server k) q = servers.may_hear k q
may_hear_in (of_area k) q = false
may_hear_in (of_machine k) q = false
may_hear_in (of_clock k) q = false

-- the point to which the last Return on an object went
abbrev pub heard_in : Object → Option ℕ
heard_in (Unqueued g) = None
heard_in (Bundle b) = None
heard_in (Queued g) = None
heard_in (Server s) = s.heard
heard_in (Area a) = None
heard_in (Machine m) = None
heard_in (Clock t) = None

-- an Answer that an object came to allow is at this point
abbrev pub TellsPoint : (before : Kept) → (now : Object) → Type 0
TellsPoint before now = (point : ℕ) → may_hear_in before point ≡ false → may_hear_in (kept_of now) point ≡ true → heard_in now ≡ Some point

-- what an activation does when it leaves an area (SWS_RTE: Rte_Exit)
abbrev pub is_leave : Deed → Bool
is_leave (deed.Leave area) = true
is_leave _ = false

-- if an object keeps this, nobody enters an area on it
abbrev pub IsClosed : Plan → (object : ℕ) → Kept → Type 0
IsClosed p object k = (n : Noted) (area : ℕ) → wanted_by (unwrap_or n.event 0) n.entry.deed ≡ to_enter area → lead p object k n ≡ None
