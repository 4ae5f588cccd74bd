use Rattle.std.proofs.Common.{◌∙◌, ap, map}
use Rattle.std.proofs.lemmas.List.{take_all}
use Rattle.composition_tables.specs.Counts.{count_for}
use Rattle.composition_tables.proofs.Counting.{counts_deeper}
use Rattle.composition_tables.proofs.counts.deeper_counts.Goals as goal

pub returns : goal.returns
returns c = λ n are. counts_deeper c.args.d.now n c.args.counts.now are c.loop-composition.deeper.items
    (c.loop-composition.invariant ∙ ap (map (count_for c.args.counts.now)) (take_all c.loop-composition.composition-index c.items-composition-items.result.now c.loop-composition-test.false ∙ c.items-composition-items.ensures))
