use Rattle.std.proofs.Common.{◌≡◌, take}
use Rattle.std.specs.List.{flat_map}
use Rattle.plan_text.specs.Calls.{all_seen}
use Rattle.plan_text.specs.Listing.{given_by}
use Rattle.plan_text.proofs.calls.given.Given as goal

abbrev pub invariant-loop-runnable : goal.invariant-loop-runnable
invariant-loop-runnable l = all_seen l.calls.items ≡ flat_map (given_by l.types l.component) (take l.runnable-index l.component.behavior.runnables)
