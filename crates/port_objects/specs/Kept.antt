-- What the objects keep, as plain data: one case for each kind.
use Rattle.data_objects.specs.Kept as groups
use Rattle.bundle_objects.specs.Kept as bundles
use Rattle.queue_objects.specs.Kept as queues
use Rattle.server_objects.specs.Kept as servers
use Rattle.area_objects.specs.Kept as areas
use Rattle.machine_objects.specs.Kept as machines
use Rattle.clock_objects.specs.Kept as clocks

pub data Kept : Type 0 where
  -- a group of unqueued data elements, or a variable
  of_group : groups.Kept → Kept
  -- groups of unqueued data elements that coherent lists connect
  of_bundle : bundles.Kept → Kept
  -- a group of queued data elements
  of_queues : queues.Kept → Kept
  -- a server with the points that call it
  of_server : servers.Kept → Kept
  of_area : areas.Kept → Kept
  of_machine : machines.Kept → Kept
  of_clock : clocks.Kept → Kept
