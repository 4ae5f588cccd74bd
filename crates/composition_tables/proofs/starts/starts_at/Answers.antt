use Rattle.std.proofs.Common.{◌∙◌, ap, map}
use Rattle.std.proofs.lemmas.List.{take_all}
use Rattle.composition_tables.specs.Trees.{starts_for}
use Rattle.composition_tables.proofs.Starting.{are_starts}
use Rattle.composition_tables.proofs.starts.starts_at.Goals as goal

pub returns : goal.returns
returns c = λ n are. are_starts c.args.d.now n c.args.counts.now are c.loop-composition.starts.items
    (c.loop-composition.invariant ∙ ap (map (starts_for c.args.counts.now)) (take_all c.loop-composition.composition-index c.items-composition-items.result.now c.loop-composition-test.false ∙ c.items-composition-items.ensures))
