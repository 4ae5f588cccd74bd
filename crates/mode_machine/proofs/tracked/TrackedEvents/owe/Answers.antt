use Rattle.std.proofs.Common.{◌∙◌, ap, sym, subst, map}
use Rattle.mode_machine.specs.Common.{AreChains, IsNext, occurs, owed_by, AreTracked, IsReady, Tracked, if_at, moment_in}
use Rattle.mode_machine.proofs.Tracking.{both_owed, moments_kept, phase_tracked}
use Rattle.mode_machine.proofs.tracked.TrackedEvents.owe.Goals as goal

pub owe_chain-requires-2 : goal.owe_chain-requires-2
owe_chain-requires-2 c =
    let t = c.self.inside in
    subst (λ ms. AreChains ms t.chains) (sym (ap (map moment_in) c.owe_chain.ensures ∙ moments_kept t.last c.args.step c.args.settled c.args.next t.events.items)) c.self.invariant.chains

pub invariant_of-self : goal.invariant_of-self
invariant_of-self c =
    let t = c.self.inside in
    let before : Tracked = record { events = t.events.items; last = t.last } in
    let ready = subst IsReady (sym c.self.view_is) c.requires in
    let at = c.moment_of-moment.ensures in
    let first = subst (λ at. IsNext (occurs (map moment_in before.events) at) 0 c.first-self-inside.result) at (c.first-self-inside.ensures (map moment_in before.events) c.self.invariant.chains) in
    let made = c.owe_chain-2.ensures ∙ ap (map (if_at c.moment_of-moment.result (owed_by c.args.step c.args.settled c.args.next))) c.owe_chain.ensures
    ∙ ap (λ at. map (if_at at (owed_by c.args.step c.args.settled c.args.next)) (map (if_at t.last (owed_by c.args.step c.args.settled c.args.next)) t.events.items)) at
    ∙ both_owed c.args.step c.args.settled c.args.next before t.chains t.left c.self.invariant ready in
    let now = phase_tracked c.args.step c.args.settled c.args.next before t.chains t.left c.self.invariant ready c.first-self-inside.result first in
    subst (λ (s : Tracked). AreTracked s t.chains c.first-self-inside.result) (λ i. record { events = sym made i; last = sym at i }) now

pub returns : goal.returns
returns c =
    let t = c.self.inside in
    let before : Tracked = record { events = t.events.items; last = t.last } in
    let ready = subst IsReady (sym c.self.view_is) c.requires in
    let at = c.moment_of-moment.ensures in
    let made = c.owe_chain-2.ensures ∙ ap (map (if_at c.moment_of-moment.result (owed_by c.args.step c.args.settled c.args.next))) c.owe_chain.ensures
    ∙ ap (λ at. map (if_at at (owed_by c.args.step c.args.settled c.args.next)) (map (if_at t.last (owed_by c.args.step c.args.settled c.args.next)) t.events.items)) at
    ∙ both_owed c.args.step c.args.settled c.args.next before t.chains t.left c.self.invariant ready
    ∙ ap (λ (s : Tracked). map (owed_by c.args.step c.args.settled c.args.next) s.events) c.self.view_is in
    λ i. record { events = made i; last = at i }
