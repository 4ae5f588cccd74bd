use Rattle.std.proofs.Common.{◌≡◌, codes, map, take}
use Rattle.serde_json.specs.View.{view}
use Rattle.declared_names.specs.Names.{text_of}
use Rattle.declared_names.specs.Values.{text_at}
use Rattle.description_places.proofs.catalogs.elements.Given as goal

abbrev pub invariant-loop-value : goal.invariant-loop-value
invariant-loop-value l = map text_of l.names.items ≡ map (text_at (codes "element")) (map view (take l.value-index l.values))
