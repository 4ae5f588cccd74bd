use Rattle.server_objects.proofs.Leading as by
use Rattle.server_objects.proofs.laws.leads_are_legal.Goals as goal

pub returns-clause-follow : goal.returns-clause-follow
returns-clause-follow c = by.leads_follow

pub returns-clause-keep : goal.returns-clause-keep
returns-clause-keep c = by.leads_keep
