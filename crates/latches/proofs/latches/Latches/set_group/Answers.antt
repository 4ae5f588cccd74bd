use Rattle.std.proofs.Common.{◌≤◌, ◌∙◌, ap, sym, map, length, arith}
use Rattle.latches.specs.Latches.{after_set}
use Rattle.latches.proofs.Grouped.{none_set}
use Rattle.latches.proofs.latches.Latches.set_group.Goals as goal

pub returns-else-group-len : goal.returns-else-group-len
returns-else-group-len c =
    let lists = c.self.inside.cleared in
    let past : length lists.items ≤ c.args.group = omega (arith, c.if-group-len.false, c.len.ensures, lists.ok) in
    sym c.self.view_is ∙ sym (none_set c.args.group c.self.inside.flags.items lists.items past c.self.invariant) ∙ ap (map (after_set c.args.group)) c.self.view_is
