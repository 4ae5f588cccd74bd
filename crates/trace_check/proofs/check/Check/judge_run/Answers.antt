use Rattle.std.proofs.Common.{◌≡◌, true, false, refl, subst, rules}
use Rattle.bus_semantics.specs.Run.{run_begins}
use Rattle.trace_check.specs.Order.{TakesItem}
use Rattle.trace_check.proofs.Judging.{mark_made}
use Rattle.trace_check.proofs.check.Check.judge_run.Goals as goal

pub returns-then-not-takes_run : goal.returns-then-not-takes_run
returns-then-not-takes_run c = λ s stands.
    let script = c.args.rules.now.script.now.lines in
    let told : c.takes_run.result ≡ false = search rules in
    record { no_beginning = subst (TakesItem script s run_begins c.takes_run.new.orders) told (c.takes_run.ensures script s stands.leaves stands.inside); clause_is = refl }

pub returns : goal.returns
returns c = λ s stands.
    let r = c.args.rules.now in
    let script = r.script.now.lines in
    let told : c.takes_run.result ≡ true = search rules in
    let leaves = subst (TakesItem script s run_begins c.takes_run.new.orders) told (c.takes_run.ensures script s stands.leaves stands.inside) in
    mark_made r s c.args.self.now stands _ leaves refl refl refl
