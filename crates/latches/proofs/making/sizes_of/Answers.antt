use Rattle.std.proofs.Common.{◌≤◌, ◌+◌, get_or, arith, ◌∙◌}
use Rattle.std.proofs.lemmas.List.{length-set}
use Rattle.latches.proofs.Made.{size_fits, one_size_more}
use Rattle.latches.proofs.making.sizes_of.Goals as goal

pub overflow_add-index_mut : goal.overflow_add-index_mut
overflow_add-index_mut c =
    let groups = c.args.groups.now in
    let i = c.loop-group.group-index in
    let fits : c.index_mut.result.now ≤ i =
    size_fits groups c.loop-group.sizes.items c.args.count i c.loop-group-test.true c.loop-group.invariant.long (c.requires i 0 c.loop-group-test.true) c.loop-group.invariant.sizes c.index_mut.result.now c.index_mut.ensures.value
    in
    omega arith

pub loop-group-preserved : goal.loop-group-preserved
loop-group-preserved c =
    let groups = c.args.groups.now in
    let i = c.loop-group.group-index in
    let size = c.index_mut.result.now in
    record {
      long = length-set c.loop-group.sizes.items (get_or groups i 0) (size + 1) ∙ c.loop-group.invariant.long;
      sizes = one_size_more groups c.loop-group.sizes.items c.args.count i c.loop-group-test.true c.loop-group.invariant.long (c.requires i 0 c.loop-group-test.true) c.loop-group.invariant.sizes size c.index_mut.ensures.value;
    }
