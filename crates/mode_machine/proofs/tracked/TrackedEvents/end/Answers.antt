use Rattle.std.proofs.Common.{◌<◌, ◌∙◌, ap, sym, subst, length, map, arith}
use Rattle.mode_machine.specs.Common.{AreChains, IsNext, after_end, AreTracked, Tracked, is_left, moment_in}
use Rattle.mode_machine.proofs.Nexts.{other_place, same_place}
use Rattle.mode_machine.proofs.Tracking.{end_chains, end_first, end_other, made_at}
use Rattle.mode_machine.proofs.tracked.TrackedEvents.end.Goals as goal

pub left_from-self-inside-requires-clause-chains : goal.left_from-self-inside-requires-clause-chains
left_from-self-inside-requires-clause-chains c =
    let t = c.self.inside in
    let event = c.args.event in
    let within : event < length t.events.items = omega (arith, c.requires, ap (λ (s : Tracked). length s.events) c.self.view_is) in
    let made = made_at after_end t.events.items event c.index.result.now c.after_end.result within c.index.ensures c.after_end.ensures in
    subst (λ xs. AreChains (map moment_in xs) t.chains) (sym (c.deref.ensures.value ∙ made)) (end_chains (record { events = t.events.items; last = t.last }) t.chains t.left c.self.invariant event within)

pub invariant_of-self : goal.invariant_of-self
invariant_of-self c =
    let t = c.self.inside in
    let event = c.args.event in
    let within : event < length t.events.items = omega (arith, c.requires, ap (λ (s : Tracked). length s.events) c.self.view_is) in
    let made = made_at after_end t.events.items event c.index.result.now c.after_end.result within c.index.ensures c.after_end.ensures in
    let search = c.left_from-self-inside in
    let found = subst (λ xs. IsNext (is_left xs) event search.result) (c.deref.ensures.value ∙ made) search.ensures in
    let first = same_place t.left event (sym c.eq.ensures ∙ c.if-eq.true) in
    subst (λ xs. AreTracked (record { events = xs; last = t.last }) t.chains search.result) (sym made) (end_first (record { events = t.events.items; last = t.last }) t.chains t.left c.self.invariant event within first search.result found)

pub invariant_of-self-else-eq : goal.invariant_of-self-else-eq
invariant_of-self-else-eq c =
    let t = c.self.inside in
    let event = c.args.event in
    let within : event < length t.events.items = omega (arith, c.requires, ap (λ (s : Tracked). length s.events) c.self.view_is) in
    let made = made_at after_end t.events.items event c.index.result.now c.after_end.result within c.index.ensures c.after_end.ensures in
    let another = other_place t.left event (sym c.eq.ensures ∙ c.if-eq.false) in
    subst (λ xs. AreTracked (record { events = xs; last = t.last }) t.chains t.left) (sym made) (end_other (record { events = t.events.items; last = t.last }) t.chains t.left c.self.invariant event within another)
