use Rattle.bundle_objects.proofs.Leading.{leads_follow, leads_keep}
use Rattle.bundle_objects.proofs.laws.leads_are_legal.Goals as goal

pub returns-clause-follow : goal.returns-clause-follow
returns-clause-follow c = leads_follow

pub returns-clause-keep : goal.returns-clause-keep
returns-clause-keep c = leads_keep
