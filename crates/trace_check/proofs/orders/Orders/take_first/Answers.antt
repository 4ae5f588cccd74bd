use Rattle.std.proofs.Common.{◌≡◌, true, false, refl, sym, ◌∙◌, rules}
use Rattle.bus_semantics.specs.Wanted.{wanted_of}
use Rattle.trace_check.proofs.Ordering.{another, this_one}
use Rattle.trace_check.proofs.orders.Orders.take_first.Goals as goal

pub returns-then-not-same_wish : goal.returns-then-not-same_wish
returns-then-not-same_wish c =
    let other : c.same_wish.result ≡ false = search rules in
    (refl, another (wanted_of c.args.wish.now) c.in-Some.next.now c.args.lines.now c.in-Some.rest.now c.args.self.now c.requires.left c.in-Some.ensures (sym c.same_wish.ensures ∙ other))

pub returns-else-not-same_wish : goal.returns-else-not-same_wish
returns-else-not-same_wish c =
    let same : c.same_wish.result ≡ true = search rules in
    this_one (wanted_of c.args.wish.now) c.in-Some.next.now c.args.lines.now c.in-Some.rest.now c.args.self.now c.requires.left c.in-Some.ensures (sym c.same_wish.ensures ∙ same)
