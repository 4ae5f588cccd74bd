use Rattle.commands.proofs.Judging as by
use Rattle.commands.proofs.pairing.plan_both.Goals as goal

pub returns-in-Err-clause-stopped : goal.returns-in-Err-clause-stopped
returns-in-Err-clause-stopped c = λ script. rw c.stop_at.ensures (by.refused_one c.args.one.now c.args.two.now script c.in-Err.refused c.in-Err.ensures.refused)

pub returns-in-Err-plan_description-clause-stopped : goal.returns-in-Err-plan_description-clause-stopped
returns-in-Err-plan_description-clause-stopped c = λ script. rw c.stop_at-in-Err-plan_description.ensures
    (by.refused_two c.args.one.now c.args.two.now script c.in-Ok.found c.in-Ok.ensures.planned c.in-Err-plan_description.refused c.in-Err-plan_description.ensures.refused)
