use Rattle.std.proofs.Common.{◌≡◌, take}
use Rattle.std.specs.List.{flat_map}
use Rattle.plan_numbers.specs.Ends.{served_entry}
use Rattle.plan_numbers.proofs.joined.by_required.Given as goal

abbrev pub invariant-loop-join : goal.invariant-loop-join
invariant-loop-join l = l.entries.items ≡ flat_map (served_entry l.d l.f) (take l.join-index l.f.joins)
