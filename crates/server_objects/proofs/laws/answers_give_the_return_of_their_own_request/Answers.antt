use Rattle.server_objects.proofs.Own.{answer_own, result_own}
use Rattle.server_objects.proofs.laws.answers_give_the_return_of_their_own_request.Goals as goal

pub returns-clause-answer : goal.returns-clause-answer
returns-clause-answer c = λ p m object l a event point code value sound server past follows. answer_own p m object sound server l a event point code value past follows

pub returns-clause-taken : goal.returns-clause-taken
returns-clause-taken c = λ p m object l a event point code value sound server past follows few. result_own p m object sound server l a event point code value past follows few
