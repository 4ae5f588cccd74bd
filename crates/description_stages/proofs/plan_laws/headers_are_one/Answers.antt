use Rattle.description_stages.proofs.Headers.{header_of-again}
use Rattle.description_stages.proofs.WholePlans.{plans_once}
use Rattle.description_stages.proofs.plan_laws.headers_are_one.Goals as goal

pub returns : goal.returns
returns c bytes x y name read again = header_of-again x.description y.description name ((plans_once bytes x y read again).description)
