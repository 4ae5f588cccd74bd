use Rattle.core_turn.proofs.AtRest.{at_rest}
use Rattle.core_turn.proofs.laws.resting_cores_are_at_rest.Goals as goal

pub returns : goal.returns
returns c = record {
  rest = λ p m h sound legal rests.
      at_rest p m sound h (λ k running. c.running_activations_go_on.ensures p m h k sound legal running)
      (λ q k key running. c.direct_callers_wait.ensures.running p m h q k sound legal key running) rests;
}
