use Rattle.port_objects.proofs.Hearing.{none_heard, held_is_none}
use Rattle.port_objects.proofs.waking.answers_go_by_flags.Goals as goal

pub returns-clause-held : goal.returns-clause-held
returns-clause-held c = none_heard

pub returns-clause-comes : goal.returns-clause-comes
returns-clause-comes c = held_is_none
