use Rattle.std.proofs.Common.{[], ◌∷◌, ◌++◌, sym, ◌∙◌}
use Rattle.description_places.specs.Catalogs.{component_lists}
use Rattle.description_places.proofs.Lists.{seen_more}
use Rattle.description_places.proofs.catalogs.in_components.Goals as goal

pub loop-value-preserved : goal.loop-value-preserved
loop-value-preserved c =
    c.in_ok-push.ensures.items
    ∙ (λ j. c.loop-value.invariant j ++ c.in_ok-component_lists.ensures j ∷ [])
    ∙ sym (seen_more (component_lists c.args.interfaces.now) c.args.values.now c.loop-value.value-index c.value-item.result c.loop-value-test.true c.value-item.is)
