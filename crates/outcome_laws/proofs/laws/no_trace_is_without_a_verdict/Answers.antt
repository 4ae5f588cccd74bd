use Rattle.outcome_laws.proofs.Traces.{no_verdict_not}
use Rattle.outcome_laws.proofs.laws.no_trace_is_without_a_verdict.Goals as goal

pub returns : goal.returns
returns c = λ p m script trace none. no_verdict_not p m (c.accepted_items_go_on.ensures.go_on p m) script trace (λ verdict is. none (verdict, is))
