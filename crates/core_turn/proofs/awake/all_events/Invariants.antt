use Rattle.std.proofs.Common.{◌≡◌, take}
use Rattle.core_turn.specs.Awake.{all_awake}
use Rattle.core_turn.proofs.awake.all_events.Given as goal

abbrev pub invariant-loop-slot : goal.invariant-loop-slot
invariant-loop-slot l = l.events.items ≡ all_awake (take l.slot-index l.slots)
