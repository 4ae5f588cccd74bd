use Rattle.std.proofs.Common.{◌<◌, length}
use Rattle.tick_events.specs.Countdowns.{all_seen}
use Rattle.tick_events.specs.Winners.{IsTreeBut}
use Rattle.tick_events.proofs.winners.settle_above.Given as goal

abbrev pub invariant-loop-node : goal.invariant-loop-node
invariant-loop-node l = record { inner : l.node < length l.best; tree : IsTreeBut (all_seen l.now l.countdowns) l.best l.node }

abbrev pub decreases-loop-node : goal.decreases-loop-node
decreases-loop-node l = l.node
