use Rattle.plan_definitions.specs.Calls.{left_by}
use Rattle.component_rules.proofs.Gathering.{all_gathered, gathered_at}
use Rattle.component_rules.proofs.calls.note_all_left.Goals as goal

pub loop-access-preserved : goal.loop-access-preserved
loop-access-preserved c =
    gathered_at c.args.accesses.now c.loop-access.access-index _ c.loop-access-test.true left_by c.args.found.now.items c.loop-access.found.items c.note_left.new.found.items
    c.loop-access.invariant c.in_ok-note_left.ensures

pub returns : goal.returns
returns c = all_gathered c.args.accesses.now c.loop-access.access-index c.loop-access-test.false left_by c.args.found.now.items c.loop-access.found.items c.loop-access.invariant
