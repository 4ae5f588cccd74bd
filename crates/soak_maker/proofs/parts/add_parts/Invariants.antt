use Rattle.std.proofs.Common.{◌≡◌, ◌++◌, map}
use Rattle.serde_json.specs.View.{view}
use Rattle.soak_maker.specs.Json.{each}
use Rattle.soak_maker.specs.Parts.{part}
use Rattle.soak_maker.proofs.parts.add_parts.Given as goal

-- so many parts were appended
abbrev pub invariant-loop-i : goal.invariant-loop-i
invariant-loop-i l = map view l.list.items ≡ map view l.initial.list.items ++ each l.i (part l.kind)
