use Rattle.tick_events.specs.Countdowns.{all_seen}
use Rattle.tick_events.proofs.Tree.{IsTreeFrom}
use Rattle.tick_events.proofs.winners.settle_all.Given as goal

abbrev pub invariant-loop-node : goal.invariant-loop-node
invariant-loop-node l = IsTreeFrom (all_seen l.now l.countdowns) l.best l.node
