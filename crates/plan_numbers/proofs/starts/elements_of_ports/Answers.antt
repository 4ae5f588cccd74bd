use Rattle.std.proofs.Common.{ap, ◌∙◌}
use Rattle.std.specs.Option.{unwrap_or}
use Rattle.plan_numbers.proofs.Starting.{last_sum}
use Rattle.plan_numbers.proofs.starts.elements_of_ports.Goals as goal

pub returns : goal.returns
returns c = c.unwrap_or.ensures ∙ ap (λ o. unwrap_or o 0) c.sum_at.ensures ∙ last_sum c.args.types.now c.args.ports.now c.args.list.now c.requires.sums c.requires.few
