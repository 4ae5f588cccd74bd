use Rattle.port_objects.specs.Objects.{kept_of}
use Rattle.core_turn.proofs.Waiters.{waiters_still}
use Rattle.core_turn.proofs.Left.{waiters_entered}
use Rattle.core_turn.proofs.laws.waiters_sleep_on.Goals as goal

pub returns-clause-touched : goal.returns-clause-touched
returns-clause-touched c = λ p t objects object before after n of first a found leads other held.
    waiters_entered p t objects object after of first a before found (c.only_a_leave_opens.ensures p object (kept_of before) (kept_of after) n leads other) held

pub returns-clause-still : goal.returns-clause-still
returns-clause-still c = λ p t objects touched of first a held. waiters_still p t objects touched of first a held
