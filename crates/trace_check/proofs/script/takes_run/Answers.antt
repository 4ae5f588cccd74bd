use Rattle.std.proofs.Common.{◌≡◌, false, sym, ◌∙◌, rules}
use Rattle.trace_check.proofs.Taking.{mark_judged}
use Rattle.trace_check.proofs.script.takes_run.Goals as goal

pub returns-then-not-inside : goal.returns-then-not-inside
returns-then-not-inside c = λ script s leaves inside.
    let out : c.args.inside ≡ false = search rules in
    mark_judged script s c.args.orders.now leaves (sym inside ∙ out) c.take_run.result c.take_run.new.self c.take_run.ensures
