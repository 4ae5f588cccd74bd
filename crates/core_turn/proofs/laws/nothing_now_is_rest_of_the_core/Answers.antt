use Rattle.std.proofs.Common.{subst}
use Rattle.core_turn.specs.Turning.{NoneTold}
use Rattle.core_turn.specs.Resting.{CoreRests}
use Rattle.core_turn.proofs.Resting.{all_stuck, core_rests}
use Rattle.core_turn.proofs.laws.nothing_now_is_rest_of_the_core.Goals as goal

pub returns : goal.returns
returns c = λ p m t cores i old new objects before now h bodies lawful is told none.
    let ready = lawful.ready i old is in
    let sound = ready.sound in
    let held = subst (λ o. NoneTold p t old o now.objects) told none.objects in
    let stuck = all_stuck p m sound h lawful.legal (λ k running. c.running_activations_go_on.ensures p m h k sound lawful.legal running) objects lawful.stand
    (λ g object legal. c.legal_histories_part_into_objects.ensures p m g object sound legal)
    (λ object before l n stands follows. c.leads_miss_nothing.ensures p m object before l n sound stands follows)
    (λ a event point kind unjoined. c.unjoined_points_return_nothing.ensures p h a event point lawful.legal kind unjoined) _ held.0 in
    subst (CoreRests p m h) (lawful.number i old is)
    (core_rests p m t bodies h
    (λ q k key running. c.direct_callers_wait.ensures.running p m h q k sound lawful.legal key running)
    (λ q k key some. c.direct_callers_wait.ensures.unstarted p m h q k sound lawful.legal key some)
    old ready (lawful.stands i old is) stuck)
