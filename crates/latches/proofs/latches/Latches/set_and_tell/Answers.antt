use Rattle.std.proofs.Common.{◌≤◌, ◌∙◌, ap, sym, map, length, arith}
use Rattle.std.specs.List.{slice_get}
use Rattle.latches.specs.Latches.{after_set}
use Rattle.latches.proofs.Grouped.{none_of, none_set}
use Rattle.latches.proofs.latches.Latches.set_and_tell.Goals as goal

pub returns-else-group-len-clause-set : goal.returns-else-group-len-clause-set
returns-else-group-len-clause-set c =
    let lists = c.self.inside.cleared in
    let past : length lists.items ≤ c.args.group = omega (arith, c.if-group-len.false, c.len.ensures, lists.ok) in
    sym c.self.view_is ∙ sym (none_set c.args.group c.self.inside.flags.items lists.items past c.self.invariant) ∙ ap (map (after_set c.args.group)) c.self.view_is

pub returns-else-group-len-clause-told : goal.returns-else-group-len-clause-told
returns-else-group-len-clause-told c = λ at name l is of clear named.
    let lists = c.self.inside.cleared in
    let past : length lists.items ≤ c.args.group = omega (arith, c.if-group-len.false, c.len.ensures, lists.ok) in
    absurd (none_of c.args.group c.self.inside.flags.items lists.items past c.self.invariant at l (ap (λ xs. slice_get xs at) c.self.view_is ∙ is) of)
