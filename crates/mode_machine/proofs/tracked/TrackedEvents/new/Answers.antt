use Rattle.std.proofs.Common.{sym, subst, None}
use Rattle.mode_machine.specs.Tracked.{AreTracked}
use Rattle.mode_machine.proofs.Tracking.{never_tracked}
use Rattle.mode_machine.proofs.tracked.TrackedEvents.new.Goals as goal

pub invariant_of-result : goal.invariant_of-result
invariant_of-result c = subst (λ xs. AreTracked (record { events = xs; last = None }) c.in_ok-new.field-0 None) (sym c.in_ok-new_events.ensures) (never_tracked c.args.moments.now c.in_ok-new.field-0 c.in_ok-new.ensures)
