use Rattle.std.proofs.Common.{◌<◌, ◌∙◌, ap, sym, subst, length, set, arith}
use Rattle.mode_machine.specs.Common.{after_owed_start, AreTracked, Tracked, event_at}
use Rattle.mode_machine.proofs.Tracking.{made_at, start_tracked}
use Rattle.mode_machine.proofs.tracked.TrackedEvents.start.Goals as goal

pub invariant_of-self : goal.invariant_of-self
invariant_of-self c =
    let t = c.self.inside in
    let event = c.args.event in
    let within : event < length t.events.items = omega (arith, c.requires, ap (λ (s : Tracked). length s.events) c.self.view_is) in
    let made = made_at after_owed_start t.events.items event c.index.result.now c.after_start.result within c.index.ensures c.after_start.ensures in
    subst (λ xs. AreTracked (record { events = xs; last = t.last }) t.chains t.left) (sym made) (start_tracked (record { events = t.events.items; last = t.last }) t.chains t.left c.self.invariant event within)

pub returns : goal.returns
returns c =
    let t = c.self.inside in
    let event = c.args.event in
    let within : event < length t.events.items = omega (arith, c.requires, ap (λ (s : Tracked). length s.events) c.self.view_is) in
    let made = made_at after_owed_start t.events.items event c.index.result.now c.after_start.result within c.index.ensures c.after_start.ensures in
    λ i. record { events = (made ∙ ap (λ (s : Tracked). set s.events event (after_owed_start (event_at s.events event))) c.self.view_is) i; last = ap (λ (s : Tracked). s.last) c.self.view_is i }
