use Rattle.plan_definitions.proofs.Coding.{coded_more}
use Rattle.plan_services.proofs.runnables.push_runnable.Goals as goal

pub returns-clause-coded : goal.returns-clause-coded
returns-clause-coded c = coded_more c.args.source.now.d.now c.args.list.now.items c.push.new.self.items c.in_ok-found.found c.in_ok-push.ensures.items c.requires.coded c.in_ok-found.ensures.coded
