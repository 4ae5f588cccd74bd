use Rattle.std.proofs.Common.{◌∙◌, get_or, set, ap}
use Rattle.std.specs.List.{slice_get}
use Rattle.latches.specs.Latches.{clear_in, set_in}
use Rattle.latches.proofs.Made.{all_noted, next_is, next_cleared}
use Rattle.latches.proofs.latches.Latches.new.Goals as goal

pub invariant_of-latches : goal.invariant_of-latches
invariant_of-latches c =
    let flags = c.in_ok-all_set.field-0.items in
    let lists = c.in_ok-empty_lists.field-0.items in
    all_noted c.args.groups.now flags lists c.args.count c.in_ok-all_set.ensures c.in_ok-empty_lists.ensures.count c.requires c.in_ok-empty_lists.ensures.reserved

pub loop-at-preserved : goal.loop-at-preserved
loop-at-preserved c =
    let groups = c.args.groups.now in
    let at = c.loop-at.at in
    let within = c.loop-at-test.true in
    c.clear.ensures (set_in (get_or groups at 0)) (ap (λ xs. slice_get xs at) c.loop-at.invariant ∙ next_is groups at within) ∙ ap (λ xs. set xs at (clear_in (get_or groups at 0))) c.loop-at.invariant ∙ next_cleared groups at within
