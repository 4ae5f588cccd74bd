use Rattle.std.proofs.Common.{◌≡◌, true, false, sym, ap, ◌∙◌, subst, rules}
use Rattle.bus_semantics.specs.Common.{is_environment, a_call, Wanted}
use Rattle.trace_check.specs.Orders.{Takes}
use Rattle.trace_check.proofs.Taking.{call_judged}
use Rattle.trace_check.proofs.script.takes_entry.Goals as goal

pub returns-then-not-inside : goal.returns-then-not-inside
returns-then-not-inside c = λ script s leaves inside.
    let env : is_environment c.args.entry.now.actor ≡ true = ap is_environment c.in-Env.is in
    let out : c.args.inside ≡ false = search rules in
    call_judged script s c.args.orders.now leaves c.args.entry.now env (sym inside ∙ out) c.take_call.result c.take_call.new.self
    (subst (λ (w : Wanted). Takes (a_call w) c.args.orders.now c.take_call.new.self c.take_call.result) c.wish_of.ensures c.take_call.ensures)
