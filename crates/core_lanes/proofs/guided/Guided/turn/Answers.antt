use Rattle.std.proofs.Common.{subst}
use Rattle.bus_semantics.specs.Plan.{plan_of}
use Rattle.core_turn.specs.Cores.{CoreState}
use Rattle.core_lanes.specs.Leaving.{IsEmptyTurn, looks_due}
use Rattle.core_lanes.proofs.guided.Guided.turn.Goals as goal

pub returns-clause-looked : goal.returns-clause-looked
returns-clause-looked c = λ none.
    subst (λ (k : CoreState). IsEmptyTurn (looks_due (plan_of c.args.p.now) k.slots c.args.all) c.args.bench.now.view c.look-made.new.bench.view) c.self.view_is (c.look-made.ensures.looked none)
