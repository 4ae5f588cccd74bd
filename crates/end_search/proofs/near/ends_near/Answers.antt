use Rattle.end_search.specs.declared.seek.Wanted.TheVariants.{Anything}
use Rattle.end_search.proofs.Gating.{at_gate}
use Rattle.end_search.proofs.Nearing.{on_ok}
use Rattle.end_search.proofs.near.ends_near.Goals as goal

pub returns-then-few-clause-near : goal.returns-then-few-clause-near
returns-then-few-clause-near c = on_ok _ c.all_at.result c.in_ok-few-in-Composition.ensures.near

pub returns-else-few-clause-found : goal.returns-else-few-clause-found
returns-else-few-clause-found c = at_gate c.args.tree.now.d.now Anything c.args.gate _ c.in-Composition.is c.in_ok-few-in-Composition.few c.in_ok-few-in-Composition.ensures.found
