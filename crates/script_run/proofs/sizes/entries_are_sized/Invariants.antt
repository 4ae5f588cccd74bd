use Rattle.std.proofs.Common.{◌≡◌, take, true}
use Rattle.std.specs.List.{list_all}
use Rattle.script_run.specs.Sizes.{is_sized_stamped}
use Rattle.script_run.proofs.sizes.entries_are_sized.Given as goal

-- so have those so far
abbrev pub invariant-loop-stamped : goal.invariant-loop-stamped
invariant-loop-stamped l = list_all is_sized_stamped (take l.stamped-index l.entries) ≡ true
