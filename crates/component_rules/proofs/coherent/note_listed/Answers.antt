use Rattle.plan_definitions.specs.Coherent.{item_of}
use Rattle.component_rules.proofs.Gathering.{all_mapped, mapped_at}
use Rattle.component_rules.proofs.coherent.note_listed.Goals as goal

pub loop-pair-preserved : goal.loop-pair-preserved
loop-pair-preserved c =
    mapped_at c.args.pairs.now c.loop-pair.pair-index _ c.loop-pair-test.true item_of c.args.found.now.items c.loop-pair.found.items c.push.new.self.items c.item_of.result
    c.loop-pair.invariant c.in_ok-push.ensures.items c.item_of.ensures

pub returns : goal.returns
returns c = all_mapped c.args.pairs.now c.loop-pair.pair-index c.loop-pair-test.false item_of c.args.found.now.items c.loop-pair.found.items c.loop-pair.invariant
