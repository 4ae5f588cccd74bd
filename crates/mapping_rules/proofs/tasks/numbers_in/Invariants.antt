use Rattle.std.proofs.Common.{◌≡◌, take}
use Rattle.std.specs.List.{flat_map}
use Rattle.mapping_rules.specs.Placing.{numbers_of}
use Rattle.mapping_rules.proofs.tasks.numbers_in.Given as goal

abbrev pub invariant-loop-one : goal.invariant-loop-one
invariant-loop-one l = l.list.items ≡ flat_map numbers_of (take l.one-index l.placed)
