use Rattle.cross_core_table.specs.Logs.{plan_in}
use Rattle.core_lanes.proofs.Parts.{keeps_lawful, keeps_beside, all_within, calls_made, few_entries}
use Rattle.core_lanes.proofs.laws.rounds_on_threads_keep_the_law.Goals as goal

pub returns-clause-lawful : goal.returns-clause-lawful
returns-clause-lawful c = λ k m t cores now parts objects entries h sound planned lawful turns closed.
    keeps_lawful k m t cores now parts objects entries h sound planned lawful closed
    (λ h n object fine proper touched. c.answers_look_at_one_object.ensures.touching (plan_in k) m h n object sound fine proper touched)
    (λ h legal. c.answers_look_at_one_object.ensures.legal (plan_in k) h legal)
    (λ n fit. c.sound_plans_have_objects.ensures.entered (plan_in k) m n sound fit)
    (λ g one other at slot e ready beside differ there own stands. c.cores_stand_beside_one_another.ensures (plan_in k) m t g one other at slot e ready beside differ there own stands)
    (λ g core e outside stands. c.cores_stand_beside_the_environment.ensures (plan_in k) t g core e outside stands)
    turns

pub returns-clause-beside : goal.returns-clause-beside
returns-clause-beside c = λ k m t cores now calls parts objects entries h sound planned lawful made closed.
    keeps_beside k m t cores now parts objects entries h sound planned lawful closed
    (λ h n object fine proper touched. c.answers_look_at_one_object.ensures.touching (plan_in k) m h n object sound fine proper touched)
    (λ h legal. c.answers_look_at_one_object.ensures.legal (plan_in k) h legal)
    (λ n fit. c.sound_plans_have_objects.ensures.entered (plan_in k) m n sound fit)
    (λ g one other at slot e ready beside differ there own stands. c.cores_stand_beside_one_another.ensures (plan_in k) m t g one other at slot e ready beside differ there own stands)
    (λ g core e outside stands. c.cores_stand_beside_the_environment.ensures (plan_in k) t g core e outside stands)
    calls made

pub returns-clause-within : goal.returns-clause-within
returns-clause-within c = λ k t cores now parts objects entries turns closed. all_within (plan_in k) t cores now parts entries turns closed.interleaved

pub returns-clause-calls : goal.returns-clause-calls
returns-clause-calls c = λ k t cores now calls parts objects entries made closed. calls_made (plan_in k) t cores now calls parts entries made closed.interleaved

pub returns-clause-few : goal.returns-clause-few
returns-clause-few c = λ k parts objects entries room each closed. few_entries parts entries room each closed.interleaved
