use Rattle.std.proofs.Common.{◌≡◌, map, take}
use Rattle.serde_json.specs.View.{view}
use Rattle.component_model.specs.Programs.{runnable_reading, runnable_tree}
use Rattle.declared_names.specs.Values.{seen}
use Rattle.component_model.proofs.component_reading.read_runnables.Given as goal

abbrev pub invariant-loop-value : goal.invariant-loop-value
invariant-loop-value l =
    map runnable_tree l.list.items
    ≡ map (runnable_reading l.scope.interfaces.now l.scope.names.now (map seen l.servers.events.items) l.servers.runnables) (map view (take l.value-index l.values))
