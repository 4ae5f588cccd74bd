use Rattle.std.proofs.Common.{◌≡◌, map, take}
use Rattle.declared_names.specs.Names.{text_of}
use Rattle.component_model.specs.Programs.{runnable_names}
use Rattle.declared_names.specs.Values.{seen}
use Rattle.component_model.proofs.servers.runnable_names.Given as goal

abbrev pub invariant-loop-event : goal.invariant-loop-event
invariant-loop-event l = map text_of l.names.items ≡ runnable_names (map seen (take l.event-index l.events))
