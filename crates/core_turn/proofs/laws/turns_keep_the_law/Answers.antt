use Rattle.core_turn.proofs.Keeping.{keeps_lawful, still_lawful}
use Rattle.core_turn.proofs.laws.turns_keep_the_law.Goals as goal

pub returns-clause-stepped : goal.returns-clause-stepped
returns-clause-stepped c = λ p m t cores i old new objects after before now s h lawful is ready told tells steps.
    let sound = (lawful.ready i old is).sound in
    keeps_lawful p m t cores i old new objects after before now s h lawful is ready steps
    (λ k running. c.running_activations_go_on.ensures p m h k sound lawful.legal running)
    (λ a w x y l e touching ask made. c.answers_are_what_may_come.ensures.made p m a w x y l e touching ask made)
    (λ k w n next free comes. c.what_comes_may_follow.ensures.wish p m h k w n sound lawful.legal next free comes)
    (λ a w n free rule comes. c.what_comes_may_follow.ensures.entry p m h a w n sound lawful.legal free rule comes)
    told tells

pub returns-clause-still : goal.returns-clause-still
returns-clause-still c = λ p m t cores i old new objects after before now h lawful is told tells none. still_lawful p m t cores i old new objects after before now h lawful is told tells none
