use Rattle.std.proofs.Common.{◌∙◌, ◌++◌, [], List, ap, map}
use Rattle.description_types.specs.declared.component.ItemPair.{ItemPair}
use Rattle.plan_definitions.specs.Coherent.{item_of}
use Rattle.component_rules.proofs.Gathering.{all_gathered, gathered}
use Rattle.component_rules.proofs.coherent.listed.Goals as goal

pub loop-pairs-preserved : goal.loop-pairs-preserved
loop-pairs-preserved c =
    gathered c.args.lists.now c.loop-pairs.pairs-index c.pairs-item.result c.loop-pairs-test.true c.pairs-item.is (λ (pairs : List ItemPair). map item_of pairs) [] c.loop-pairs.found.items c.note_listed.new.found.items
    c.loop-pairs.invariant (c.in_ok-note_listed.ensures ∙ ap (λ (pairs : List ItemPair). c.loop-pairs.found.items ++ map item_of pairs) c.items.ensures)

pub returns : goal.returns
returns c = all_gathered c.args.lists.now c.loop-pairs.pairs-index c.loop-pairs-test.false (λ (pairs : List ItemPair). map item_of pairs) [] c.loop-pairs.found.items c.loop-pairs.invariant
