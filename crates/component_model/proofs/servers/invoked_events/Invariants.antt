use Rattle.std.proofs.Common.{◌≡◌, filter, map, take}
use Rattle.serde_json.specs.View.{view}
use Rattle.component_model.specs.Programs.{is_invoked}
use Rattle.declared_names.specs.Values.{seen}
use Rattle.component_model.proofs.servers.invoked_events.Given as goal

abbrev pub invariant-loop-event : goal.invariant-loop-event
invariant-loop-event l = map seen l.found.items ≡ filter is_invoked (map view (take l.event-index l.events))
