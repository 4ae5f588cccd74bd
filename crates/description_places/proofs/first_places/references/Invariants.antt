use Rattle.std.proofs.Common.{◌≡◌, map, string_bytes, take}
use Rattle.declared_names.specs.Names.{text_of}
use Rattle.description_places.proofs.first_places.references.Given as goal

abbrev pub invariant-loop-text : goal.invariant-loop-text
invariant-loop-text l = map text_of l.names.items ≡ map string_bytes (take l.text-index l.texts)
