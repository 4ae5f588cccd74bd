-- What an object stands for: a past of it, and what it keeps is what the definitions give from that past.
use Rattle.std.specs.Prelude.{ℕ}
use Rattle.bus_semantics.specs.Common.{Plan, Past, IsPastOf}
use Rattle.data_objects.specs.Standing as groups
use Rattle.bundle_objects.specs.Standing as bundles
use Rattle.queue_objects.specs.Standing as queues
use Rattle.server_objects.specs.Standing as servers
use Rattle.area_objects.specs.Standing as areas
use Rattle.machine_objects.specs.Standing as machines
use Rattle.clock_objects.specs.Standing as clocks
use Rattle.port_objects.specs.Kept.{Kept, of_group, of_bundle, of_queues, of_server, of_area, of_machine, of_clock}

-- it is the plan's object of that number, and keeps what the definitions give
abbrev pub Keeps : Plan → (object : ℕ) → Kept → Past → Type 0
Keeps p object (of_group k) l = groups.Keeps p object k l
Keeps p object (of_bundle k) l = bundles.Keeps p object k l
Keeps p object (of_queues k) l = queues.Keeps p object k l
Keeps p object (of_server k) l = servers.Keeps p object k l
Keeps p object (of_area k) l = areas.Keeps p object k l
Keeps p object (of_machine k) l = machines.Keeps p object k l
Keeps p object (of_clock k) l = clocks.Keeps p object k l

pub record Stands (p : Plan) (object : ℕ) (k : Kept) (l : Past) : Type 0 where
  pub past : IsPastOf p object l
  pub keeps : Keeps p object k l
