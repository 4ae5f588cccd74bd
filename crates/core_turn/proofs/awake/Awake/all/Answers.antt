use Rattle.std.proofs.Common.{◌≡◌, true, length, replicate, ◌∙◌, ap, arith}
use Rattle.std.proofs.lemmas.List.{length-replicate}
use Rattle.core_turn.specs.Cores.{CoreState}
use Rattle.core_turn.specs.Awake.{all_awake}
use Rattle.core_turn.proofs.Awakes.{all_held, all_fits}
use Rattle.core_turn.proofs.awake.Awake.all.Goals as goal

pub returns-clause-fits : goal.returns-clause-fits
returns-clause-fits c =
    let count : c.len-count.result ≡ length c.c.inside.slots.items = omega arith in
    let same : c.len-count.result ≡ length c.args.c.now.slots = count ∙ ap (λ (k : CoreState). length k.slots) c.c.view_is in
    all_fits c.args.c.now.slots c.args.c.now.first _
    (c.in_ok-slots.ensures ∙ ap (λ n. replicate n true) same)
    (c.in_ok-events.ensures ∙ ap all_awake (c.deref.ensures.value ∙ ap (λ (k : CoreState). k.slots) c.c.view_is))
    (c.in_ok-waiting.ensures.count ∙ same)
    (ap length (c.in_ok-areas.ensures.items_if_clones_equal (λ y e. e)) ∙ length-replicate c.len-count.result 0 ∙ same)
    (ap (λ (k : CoreState). k.first) c.c.view_is)

pub returns-clause-held : goal.returns-clause-held
returns-clause-held c = λ p t objects touched first.
    let count : c.len-count.result ≡ length c.c.inside.slots.items = omega arith in
    all_held p t objects touched c.args.c.now.slots first _ c.len-count.result
    (c.in_ok-slots.ensures ∙ ap (λ n. replicate n true) (count ∙ ap (λ (k : CoreState). length k.slots) c.c.view_is))
    (c.in_ok-events.ensures ∙ ap all_awake (c.deref.ensures.value ∙ ap (λ (k : CoreState). k.slots) c.c.view_is))
    c.in_ok-waiting.ensures.count c.in_ok-waiting.ensures.none
