use Rattle.std.proofs.Common.{◌≡◌, ◌<◌, ◌∙◌, ℕ, ap, sym, subst, map, length, false, inl, inr}
use Rattle.mode_machine.specs.Common.{occurs, is_woken, IsReady, Tracked, event_at, moment_in, OwedEvent}
use Rattle.mode_machine.proofs.Tracking.{not_woken}
use Rattle.mode_machine.proofs.tracked.TrackedEvents.tell.Goals as goal

pub tell_chain-requires-clause-others : goal.tell_chain-requires-clause-others
tell_chain-requires-clause-others c =
    let t = c.self.inside in
    let before : Tracked = record { events = t.events.items; last = t.last } in
    let ready = subst IsReady (sym c.self.view_is) c.requires.ready in
    let woken = λ (e : OwedEvent). is_woken c.args.step c.args.settled c.args.next e in
    subst (λ xs. (event : ℕ) → event < length xs → occurs (map moment_in xs) c.moment_of-at.result event ≡ false → woken (event_at xs event) ≡ false) (sym c.deref.ensures.value)
    (subst (λ at. (event : ℕ) → event < length t.events.items → occurs (map moment_in t.events.items) at event ≡ false → woken (event_at t.events.items event) ≡ false) (sym c.moment_of-at.ensures)
    (not_woken c.args.step c.args.settled c.args.next before t.chains t.left c.self.invariant ready))

pub returns-clause-told : goal.returns-clause-told
returns-clause-told c = λ at name woken named.
    let same = c.deref.ensures.value ∙ ap (λ (t : Tracked). t.events) c.self.view_is in
    c.tell_chain.ensures.told at name (ap (λ xs. is_woken c.args.step c.args.settled c.args.next (event_at xs at)) same ∙ woken) named

pub returns-clause-only : goal.returns-clause-only
returns-clause-only c = λ name among.
    let same = c.deref.ensures.value ∙ ap (λ (t : Tracked). t.events) c.self.view_is in
    elim (c.tell_chain.ensures.only name among) [
      | inl first ↦ inl first
      | inr n ↦ inr (record { place = n.place; named = n.named; passes = sym (ap (λ xs. is_woken c.args.step c.args.settled c.args.next (event_at xs n.place)) same) ∙ n.passes })
    ]
