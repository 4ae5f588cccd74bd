use Rattle.std.proofs.Common.{[]}
use Rattle.plan_definitions.specs.Coherent.{written_by}
use Rattle.component_rules.proofs.Gathering.{all_gathered, gathered_at}
use Rattle.component_rules.proofs.coherent.written.Goals as goal

pub loop-access-preserved : goal.loop-access-preserved
loop-access-preserved c =
    gathered_at c.args.accesses.now c.loop-access.access-index _ c.loop-access-test.true written_by [] c.loop-access.found.items c.note_written.new.found.items
    c.loop-access.invariant c.in_ok-note_written.ensures

pub returns : goal.returns
returns c = all_gathered c.args.accesses.now c.loop-access.access-index c.loop-access-test.false written_by [] c.loop-access.found.items c.loop-access.invariant
