use Rattle.std.proofs.Common.{refl}
use Rattle.std.proofs.lemmas.Option.{MatchOption-at_some}
use Rattle.bus_semantics.specs.Run.{history_of, made}
use Rattle.trace_check.specs.Along.{plan_in}
use Rattle.trace_check.proofs.Judging.{entry_went}
use Rattle.trace_check.proofs.Making.{legal_history}
use Rattle.trace_check.proofs.check.Check.make_inside.Goals as goal

pub go_on-requires-clause-asked : goal.go_on-requires-clause-asked
go_on-requires-clause-asked c =
    let r = c.args.rules.now in
    let a = c.requires.asked in
    record { history = history_of a.session; legal = legal_history (plan_in r) r.mapping.now a.session a.stands.legal; stands = a.stands.state; asks = a.asks }

pub returns-in-Some : goal.returns-in-Some
returns-in-Some c = λ s stands asks.
    let r = c.args.rules.now in
    let g = MatchOption-at_some _ _ c.in-Some.more c.in-Some.is c.in_ok-more.ensures (history_of s) (legal_history (plan_in r) r.mapping.now s stands.legal) stands.state asks in
    record {
      item = made g.entry;
      fit = g.begins.fit;
      whole = g.begins.whole;
      stands = entry_went r s c.args.self.now stands c.args.actor g.entry _ c.requires.other g.actor g.legal g.stands c.requires.inside refl refl c.counted-self.ensures;
    }
