use Rattle.soak_maker.proofs.Law.{breaks_none}
use Rattle.soak_maker.proofs.laws.soaks_break_no_rule.Goals as goal

pub returns : goal.returns
returns c = λ n least few bytes reads r refused. breaks_none n few bytes reads r refused
