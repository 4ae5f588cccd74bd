use Rattle.std.proofs.Common.{◌≡◌, true, sym, ap, ◌∙◌, rules}
use Rattle.bus_semantics.specs.Common.{IfOk-weaker, wish_fits, is_environment, history_of, to_move_on}
use Rattle.trace_check.specs.Along.{plan_in}
use Rattle.trace_check.proofs.Asking.{moves_on}
use Rattle.trace_check.proofs.check.Check.move_on.Goals as goal

pub make_inside-requires-clause-other : goal.make_inside-requires-clause-other
make_inside-requires-clause-other c = ap is_environment c.requires.machine.1

pub make_inside-requires-clause-asked : goal.make_inside-requires-clause-asked
make_inside-requires-clause-asked c =
    let r = c.args.rules.now in
    let can = c.requires.can in
    let told : c.wish_fits.result ≡ true = search rules in
    let fit : wish_fits (plan_in r) c.args.actor to_move_on ≡ true = sym c.wish_fits.ensures ∙ told in
    record { session = can.0; stands = can.1; asks = moves_on (plan_in r) (history_of can.0) c.args.actor c.requires.machine fit }

pub returns : goal.returns
returns c =
    let r = c.args.rules.now in
    let told : c.wish_fits.result ≡ true = search rules in
    let fit : wish_fits (plan_in r) c.args.actor to_move_on ≡ true = sym c.wish_fits.ensures ∙ told in
    IfOk-weaker c.make_inside.result _ _ (λ gone goes. λ s stands. goes s stands (moves_on (plan_in r) (history_of s) c.args.actor c.requires.machine fit)) c.make_inside.ensures
