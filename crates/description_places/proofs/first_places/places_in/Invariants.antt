use Rattle.std.proofs.Common.{◌≡◌, map, take}
use Rattle.declared_names.specs.Names.{position_in, text_of}
use Rattle.description_places.proofs.first_places.places_in.Given as goal

abbrev pub invariant-loop-name : goal.invariant-loop-name
invariant-loop-name l = l.places.items ≡ map (position_in l.list) (map text_of (take l.name-index l.names))
