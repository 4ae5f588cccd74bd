use Rattle.data_objects.proofs.Opening.{group_opens, object_opens}
use Rattle.data_objects.proofs.laws.first_group_stands_for_nothing.Goals as goal

pub returns-clause-group : goal.returns-clause-group
returns-clause-group c = group_opens

pub returns-clause-object : goal.returns-clause-object
returns-clause-object c = object_opens
