use Rattle.std.proofs.Common.{refl}
use Rattle.bus_semantics.specs.Plan.{plan_of}
use Rattle.task_slots.proofs.Onward.{looked_as}
use Rattle.task_slots.proofs.Counted.{running_looks}
use Rattle.task_slots.proofs.looking.look_at_task.Goals as goal

pub returns-in-Runs-clause-looked : goal.returns-in-Runs-clause-looked
returns-in-Runs-clause-looked g c =
    looked_as (plan_of c.args.p.now) _ _ _ _ _ _ _ refl (running_looks (plan_of c.args.p.now) c.args.slot.now.events.items (g.H.Hints.awake c.args.hints.now) c.args.slot.now.activity (λ free. absurd (cc (free, c.in-Runs.is)))) c.go_on.ensures.looked

pub returns-in-Calls-clause-looked : goal.returns-in-Calls-clause-looked
returns-in-Calls-clause-looked g c =
    looked_as (plan_of c.args.p.now) _ _ _ _ _ _ _ refl (running_looks (plan_of c.args.p.now) c.args.slot.now.events.items (g.H.Hints.awake c.args.hints.now) c.args.slot.now.activity (λ free. absurd (cc (free, c.in-Calls.is)))) c.start_inside.ensures.looked

pub returns-in-Serves-clause-looked : goal.returns-in-Serves-clause-looked
returns-in-Serves-clause-looked g c =
    looked_as (plan_of c.args.p.now) _ _ _ _ _ _ _ refl (running_looks (plan_of c.args.p.now) c.args.slot.now.events.items (g.H.Hints.awake c.args.hints.now) c.args.slot.now.activity (λ free. absurd (cc (free, c.in-Serves.is)))) c.go_on_inside.ensures.looked
