use Rattle.std.proofs.Common.{refl, subst}
use Rattle.bus_semantics.specs.Plan.{plan_of}
use Rattle.core_lanes.specs.Leaving.{IsEmptyTurn}
use Rattle.core_lanes.proofs.Leaving.{any_looks, not_due}
use Rattle.core_lanes.proofs.guided.Guided.look.Goals as goal

pub returns-then-not-all-clause-looked : goal.returns-then-not-all-clause-looked
returns-then-not-all-clause-looked c = λ none.
    subst (λ n. IsEmptyTurn n c.args.bench.now.view c.turn_by_guide.new.bench.view) (not_due (plan_of c.args.p.now) c.args.self.now.slots c.args.all c.if-not-all.true)
    (any_looks _ c.args.bench.now.view c.turn_by_guide.new.bench.view (c.if-turn_by_guide.ensures.looked refl))
