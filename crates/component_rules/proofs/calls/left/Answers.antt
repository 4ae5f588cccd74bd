use Rattle.std.proofs.Common.{◌∙◌, ◌++◌, [], List, ap}
use Rattle.std.specs.List.{flat_map}
use Rattle.description_types.specs.declared.component.Access.{Access}
use Rattle.description_types.specs.declared.component.Runnable.{Runnable}
use Rattle.plan_definitions.specs.Calls.{left_by}
use Rattle.component_rules.proofs.Gathering.{all_gathered, gathered}
use Rattle.component_rules.proofs.calls.left.Goals as goal

pub loop-runnable-preserved : goal.loop-runnable-preserved
loop-runnable-preserved c =
    gathered c.args.runnables.now c.loop-runnable.runnable-index c.runnable-item.result c.loop-runnable-test.true c.runnable-item.is (λ (r : Runnable). flat_map left_by r.accesses) []
    c.loop-runnable.found.items c.note_all_left.new.found.items c.loop-runnable.invariant
    (c.in_ok-note_all_left.ensures ∙ ap (λ (accesses : List Access). c.loop-runnable.found.items ++ flat_map left_by accesses) c.items.ensures)

pub returns : goal.returns
returns c = all_gathered c.args.runnables.now c.loop-runnable.runnable-index c.loop-runnable-test.false (λ (r : Runnable). flat_map left_by r.accesses) [] c.loop-runnable.found.items c.loop-runnable.invariant
