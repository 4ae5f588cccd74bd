use Rattle.std.proofs.Common.{[], sym, ap, subst, arith, length}
use Rattle.core_runtime.specs.Watching.{AreSeated}
use Rattle.core_runtime.proofs.Seated.{no_more, none_yet}
use Rattle.core_runtime.proofs.seats.no_seats.Goals as goal

pub loop-event-init : goal.loop-event-init
loop-event-init c = record { count = ap length c.new-seats.ensures.items; none = none_yet c.new-seats.result.items c.new-seats.ensures.items }

pub loop-event-preserved : goal.loop-event-preserved
loop-event-preserved c = record {
  count = omega (arith, c.loop-event.invariant.count, c.in_ok-push.ensures.len);
  none = subst (AreSeated []) (sym c.in_ok-push.ensures.items) (no_more c.loop-event.seats.items c.new.result c.new.ensures.items c.loop-event.invariant.none);
}
