use Rattle.std.proofs.Common.{◌≡◌, map, string_bytes, take}
use Rattle.serde_json.specs.View.{view}
use Rattle.description_places.specs.FirstPlaces.{access_text}
use Rattle.description_places.proofs.first_places.access_texts.Given as goal

abbrev pub invariant-loop-value : goal.invariant-loop-value
invariant-loop-value l = map string_bytes l.texts.items ≡ map access_text (map view (take l.value-index l.values))
