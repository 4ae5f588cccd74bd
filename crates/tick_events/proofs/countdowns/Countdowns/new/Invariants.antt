use Rattle.std.proofs.Common.{◌≡◌, map, take}
use Rattle.tick_events.specs.Countdowns.{all_seen, whole}
use Rattle.tick_events.proofs.countdowns.Countdowns.new.Given as goal

abbrev pub invariant-loop-period : goal.invariant-loop-period
invariant-loop-period l = all_seen 0 l.countdowns.items ≡ map whole (take l.period-index l.fn.periods.items)
