use Rattle.std.proofs.Common.{◌≡◌, ◌++◌, take}
use Rattle.std.specs.List.{flat_map}
use Rattle.plan_text.specs.Lines.{instance_line}
use Rattle.plan_text.proofs.listing.add_instances.Given as goal

-- those so far
abbrev pub invariant-loop-instance : goal.invariant-loop-instance
invariant-loop-instance l = l.text.items ≡ l.initial.text.items ++ flat_map (instance_line l.d) (take l.instance-index l.instances)
