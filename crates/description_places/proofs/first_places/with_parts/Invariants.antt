use Rattle.std.proofs.Common.{◌≡◌, ◌++◌, drop, string_bytes}
use Rattle.serde_json.specs.View.{items_view}
use Rattle.description_places.specs.FirstPlaces.{parts_text}
use Rattle.description_places.proofs.first_places.with_parts.Given as goal

abbrev pub invariant-loop-number : goal.invariant-loop-number
invariant-loop-number l = string_bytes l.initial.text ++ parts_text (items_view l.parts) ≡ string_bytes l.text ++ parts_text (items_view (drop l.number l.parts))
