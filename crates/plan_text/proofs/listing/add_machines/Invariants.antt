use Rattle.std.proofs.Common.{◌≡◌, ◌++◌, take}
use Rattle.std.specs.List.{flat_map}
use Rattle.plan_text.specs.Lines.{machine_line}
use Rattle.plan_text.proofs.listing.add_machines.Given as goal

-- those so far
abbrev pub invariant-loop-machine : goal.invariant-loop-machine
invariant-loop-machine l = l.text.items ≡ l.initial.text.items ++ flat_map (machine_line l.f) (take l.machine-index l.machines)
