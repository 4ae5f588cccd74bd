use Rattle.queue_objects.proofs.Order.{past_in_order, legal_in_order, kth_is_kth}
use Rattle.queue_objects.proofs.laws.values_are_received_in_order.Goals as goal

pub returns-clause-kth : goal.returns-clause-kth
returns-clause-kth c = λ p group elem l past. kth_is_kth p elem l (past_in_order p group elem l past)

pub returns-clause-all : goal.returns-clause-all
returns-clause-all c = λ p group elem l past. (past_in_order p group elem l past).order

pub returns-clause-fewer : goal.returns-clause-fewer
returns-clause-fewer c = λ p group elem l past. (past_in_order p group elem l past).fewer

pub returns-clause-legal : goal.returns-clause-legal
returns-clause-legal c = λ p elem h legal. (legal_in_order p elem h legal).order
