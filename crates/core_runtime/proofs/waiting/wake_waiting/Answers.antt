use Rattle.std.proofs.Common.{sym, ◌∙◌, ap, subst}
use Rattle.port_objects.specs.Waking.{is_leave}
use Rattle.core_runtime.specs.Watching.{AreWaiting}
use Rattle.core_runtime.proofs.Areas.{left_watched, left_waiting, calm_waiting, apart_waiting}
use Rattle.core_runtime.proofs.waiting.wake_waiting.Goals as goal

pub returns-then-not-leaves-clause-waiting : goal.returns-then-not-leaves-clause-waiting
returns-then-not-leaves-clause-waiting c = λ p n t cores before later deed touching after waiting.
    calm_waiting c.waiters_sleep_on.ensures.touched p t n before later cores c.args.awake.now.items (ap is_leave deed ∙ sym c.if-not-leaves.ensures) after
    (subst (λ o. AreWaiting p t before o cores c.args.awake.now.items) touching waiting)

pub returns-in-Some-clause-starts : goal.returns-in-Some-clause-starts
returns-in-Some-clause-starts c = left_watched c.in-Some.object c.args.awake.now.items c.wake_first_of_each.new.awake.items c.wake_first_of_each.ensures

pub returns-in-Some-clause-waiting : goal.returns-in-Some-clause-waiting
returns-in-Some-clause-waiting c = λ p n t cores before later deed touching after waiting.
    left_waiting c.in-Some.object c.args.awake.now.items c.wake_first_of_each.new.awake.items c.wake_first_of_each.ensures p t n before later cores (sym c.in-Some.is ∙ touching) after
    (subst (λ o. AreWaiting p t before o cores c.args.awake.now.items) touching waiting)

pub returns-in-None-clause-waiting : goal.returns-in-None-clause-waiting
returns-in-None-clause-waiting c = λ p n t cores before later deed touching after waiting.
    apart_waiting p t n before later cores c.args.awake.now.items (sym touching ∙ c.in-None.is) after
    (subst (λ o. AreWaiting p t before o cores c.args.awake.now.items) touching waiting)
