use Rattle.std.proofs.Common.{◌≡◌, true, refl, subst, rules}
use Rattle.bus_semantics.specs.Common.{and_parts, fits, history_of, made, made_in_line}
use Rattle.trace_check.specs.Along.{Makes, plan_in}
use Rattle.trace_check.specs.Order.{TakesItem}
use Rattle.trace_check.proofs.Judging.{along, entry_made, entry_refused}
use Rattle.trace_check.proofs.Making.{legal_history}
use Rattle.trace_check.proofs.check.Check.judge_entry.Goals as goal

pub make-requires-clause-along : goal.make-requires-clause-along
make-requires-clause-along c = along c.args.rules.now c.requires.can.0 c.args.self.now c.requires.can.1

pub make-requires-clause-fits : goal.make-requires-clause-fits
make-requires-clause-fits c = (and_parts (fits (plan_in c.args.rules.now) c.args.entry.now) _ c.requires.fits).0

pub returns-in-Some : goal.returns-in-Some
returns-in-Some c = λ s stands.
    let r = c.args.rules.now in
    let e = c.args.entry.now in
    let next : c.takes_entry.result ≡ true = search rules in
    let leaves = subst (TakesItem r.script.now.lines s (made e) c.takes_entry.new.orders) next (c.takes_entry.ensures r.script.now.lines s stands.leaves stands.inside) in
    let makes = c.in_ok-clause.ensures (history_of s) (legal_history (plan_in r) r.mapping.now s stands.legal) stands.state in
    entry_refused r s c.args.self.now stands e c.takes_entry.new.orders c.make.new.self c.in-Some.clause leaves (subst (Makes r.tasks.now (plan_in r) (history_of s) e c.make.new.self) c.in-Some.is makes)

pub returns-in-None : goal.returns-in-None
returns-in-None c = λ s stands.
    let r = c.args.rules.now in
    let e = c.args.entry.now in
    let next : c.takes_entry.result ≡ true = search rules in
    let leaves = subst (TakesItem r.script.now.lines s (made e) c.takes_entry.new.orders) next (c.takes_entry.ensures r.script.now.lines s stands.leaves stands.inside) in
    let makes = c.in_ok-clause.ensures (history_of s) (legal_history (plan_in r) r.mapping.now s stands.legal) stands.state in
    let fit = (and_parts (fits (plan_in r) e) _ c.requires.fits).0 in
    entry_made r s c.args.self.now stands e _ fit leaves (subst (Makes r.tasks.now (plan_in r) (history_of s) e c.make.new.self) c.in-None.is makes) refl (c.counted-self.ensures (made_in_line s) stands.made)
