use Rattle.clock_objects.proofs.Legal.{led}
use Rattle.clock_objects.proofs.laws.leads_are_legal.Goals as goal

pub returns-clause-follow : goal.returns-clause-follow
returns-clause-follow c = λ p object before after l n stands touching proper leads. (led p object before after l n stands touching proper leads).follows

pub returns-clause-keep : goal.returns-clause-keep
returns-clause-keep c = λ p object before after l n stands touching proper leads. (led p object before after l n stands touching proper leads).keeps
