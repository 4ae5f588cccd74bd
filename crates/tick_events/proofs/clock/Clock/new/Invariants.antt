use Rattle.std.proofs.Common.{take}
use Rattle.tick_events.proofs.Grouping.{AreGroups}
use Rattle.tick_events.proofs.clock.Clock.new.Given as goal

abbrev pub invariant-loop-period : goal.invariant-loop-period
invariant-loop-period l = AreGroups (take l.period-index l.fn.periods.items) l.distinct.keys l.groups.items
