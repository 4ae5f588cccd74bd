use Rattle.std.proofs.Common.{◌≡◌, ◌∷◌, true, false, refl, sym, ap, ◌∙◌, rules}
use Rattle.std.proofs.lemmas.Option.{MatchOption-at_some}
use Rattle.bus_semantics.specs.declared.entries.Actor.TheVariants.{Env}
use Rattle.bus_semantics.specs.Common.{wish_fits, is_environment, a_call, history_of, made, wanted_of}
use Rattle.trace_check.specs.Along.{plan_in}
use Rattle.trace_check.proofs.Asking.{called, calls_itself}
use Rattle.trace_check.proofs.Judging.{entry_called}
use Rattle.trace_check.proofs.Making.{legal_history}
use Rattle.trace_check.proofs.check.Check.call.Goals as goal

pub go_on-requires-clause-asked : goal.go_on-requires-clause-asked
go_on-requires-clause-asked c =
    let r = c.args.rules.now in
    let can = c.requires.can in
    let told : c.wish_fits.result ≡ true = search rules in
    let fit : wish_fits (plan_in r) Env (wanted_of c.in-Some.wish) ≡ true = sym c.wish_fits.ensures ∙ told in
    record {
      history = history_of can.0;
      legal = legal_history (plan_in r) r.mapping.now can.0 can.1.legal;
      stands = can.1.state;
      asks = called (plan_in r) (history_of can.0) (wanted_of c.in-Some.wish) fit;
    }

pub returns-in-Some-2 : goal.returns-in-Some-2
returns-in-Some-2 c = λ s stands.
    let r = c.args.rules.now in
    let w = wanted_of c.in-Some.wish in
    let told : c.wish_fits.result ≡ true = search rules in
    let outside : c.args.self.now.inside ≡ false = search rules in
    let fit : wish_fits (plan_in r) Env w ≡ true = sym c.wish_fits.ensures ∙ told in
    let g = MatchOption-at_some _ _ c.in-Some-2.more c.in-Some-2.is c.in_ok-more.ensures (history_of s) (legal_history (plan_in r) r.mapping.now s stands.legal) stands.state (called (plan_in r) (history_of s) w fit) in
    record {
      item = made g.entry;
      fit = g.begins.fit;
      whole = g.begins.whole;
      stands = entry_called r s c.args.self.now stands g.entry _ (ap is_environment g.actor) g.legal g.stands outside refl
          (c.in-Some.ensures ∙ ap (λ v. a_call v ∷ c.take_next.new.self) (sym (calls_itself (plan_in r) w fit g.entry.deed g.wanted))) refl;
    }
