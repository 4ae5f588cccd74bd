use Rattle.std.proofs.Common.{◌≡◌, ◌∷◌, true, false, refl, sym, ap, ◌∙◌, subst, rules}
use Rattle.std.proofs.lemmas.Option.{MatchOption-at_some}
use Rattle.bus_semantics.specs.Common.{is_environment, a_call, history_of, made, to_tick}
use Rattle.trace_check.specs.Along.{plan_in}
use Rattle.trace_check.specs.Order.{Leaves}
use Rattle.trace_check.specs.Orders.{Takes}
use Rattle.trace_check.proofs.Asking.{called}
use Rattle.trace_check.proofs.Judging.{entry_called}
use Rattle.trace_check.proofs.Making.{legal_history}
use Rattle.trace_check.proofs.check.Check.tick.Goals as goal

pub tick-requires-clause-asked : goal.tick-requires-clause-asked
tick-requires-clause-asked c =
    let r = c.args.rules.now in
    let can = c.requires.can in
    record {
      history = history_of can.0;
      legal = legal_history (plan_in r) r.mapping.now can.0 can.1.legal;
      stands = can.1.state;
      asks = called (plan_in r) (history_of can.0) to_tick refl;
    }

pub returns-then-not-take_call : goal.returns-then-not-take_call
returns-then-not-take_call c = λ s stands.
    let other : c.take_call.result ≡ false = search rules in
    let same = (subst (Takes (a_call to_tick) c.args.self.now.orders c.take_call.new.self) other c.take_call.ensures).0 in
    record {
      legal = stands.legal;
      state = stands.state;
      leaves = subst (Leaves c.args.rules.now.script.now.lines s) (sym same) stands.leaves;
      inside = stands.inside;
      made = stands.made;
    }

pub returns-in-Some : goal.returns-in-Some
returns-in-Some c = λ s stands.
    let r = c.args.rules.now in
    let outside : c.args.self.now.inside ≡ false = search rules in
    let told : c.take_call.result ≡ true = search rules in
    let took = subst (Takes (a_call to_tick) c.args.self.now.orders c.take_call.new.self) told c.take_call.ensures in
    let g = MatchOption-at_some _ _ c.in-Some.more c.in-Some.is c.in_ok-more.ensures (history_of s) (legal_history (plan_in r) r.mapping.now s stands.legal) stands.state (called (plan_in r) (history_of s) to_tick refl) in
    record {
      item = made g.entry;
      fit = g.begins.fit;
      whole = g.begins.whole;
      stands = entry_called r s c.args.self.now stands g.entry _ (ap is_environment g.actor) g.legal g.stands outside refl (took ∙ ap (λ v. a_call v ∷ c.take_call.new.self) (sym g.wanted)) refl;
    }
