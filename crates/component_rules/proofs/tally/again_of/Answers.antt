use Rattle.std.proofs.Common.{◌∷◌, ◌∙◌, ◌+◌, ap, drop, sym}
use Rattle.std.proofs.lemmas.List.{drop_all, drop_more}
use Rattle.indexmap.specs.IndexMap.{get}
use Rattle.plan_definitions.specs.Counts.{count}
use Rattle.component_rules.specs.Tallies.{again_in}
use Rattle.component_rules.proofs.Tallied.{none_left, one_tallied}
use Rattle.component_rules.proofs.Tallying.{after}
use Rattle.component_rules.proofs.tally.again_of.Goals as goal

pub loop-key-preserved : goal.loop-key-preserved
loop-key-preserved g c = λ q.
    let rest = drop (c.loop-key.key-index + 1) c.args.keys.now in
    let split = drop_more c.args.keys.now c.loop-key.key-index c.key-item.result c.loop-key-test.true ∙ ap (λ k. k ∷ rest) (sym c.key-item.is) in
    one_tallied g.K.PartialEq.eq g.met.K.Eq.laws c.loop-key.again c.note.new.map c.key-item.result c.in_ok-note.ensures q (again_in (count (g.K.PartialEq.eq q) c.args.keys.now)) rest
    (c.loop-key.invariant q ∙ ap (λ l. after (get g.K.PartialEq.eq c.loop-key.again q) (count (g.K.PartialEq.eq q) l)) split)

pub returns : goal.returns
returns g c = λ q.
    let kept = get g.K.PartialEq.eq c.loop-key.again q in
    sym (c.loop-key.invariant q ∙ ap (λ l. after kept (count (g.K.PartialEq.eq q) l)) (drop_all c.loop-key.key-index c.args.keys.now c.loop-key-test.false) ∙ none_left kept)
