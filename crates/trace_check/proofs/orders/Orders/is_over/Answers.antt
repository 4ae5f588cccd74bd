use Rattle.std.proofs.Common.{◌≡◌, rules}
use Rattle.trace_check.proofs.Ordering.{is_over}
use Rattle.trace_check.proofs.orders.Orders.is_over.Goals as goal

pub returns-then-self-eq0 : goal.returns-then-self-eq0
returns-then-self-eq0 c =
    let none : c.self.inside.ticks ≡ 0 = search rules in
    is_over c.are_nothing.result c.self.inside.ticks c.self.inside.lines.now c.args.self.now c.are_nothing.ensures none c.self.view_is
