use Rattle.std.proofs.Common.{◌≡◌, map, take}
use Rattle.serde_json.specs.View.{view}
use Rattle.declared_names.specs.Names.{texts, text_of}
use Rattle.declared_names.proofs.names.texts.Given as goal

abbrev pub invariant-loop-value : goal.invariant-loop-value
invariant-loop-value l = map text_of l.names.items ≡ texts (map view (take l.value-index l.values))
