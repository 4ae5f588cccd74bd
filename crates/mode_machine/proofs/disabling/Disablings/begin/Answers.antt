use Rattle.std.proofs.Common.{◌<◌, ◌∙◌, ap, sym, subst, length, set, arith, true, Some}
use Rattle.std.specs.List.{slice_index_or}
use Rattle.std.proofs.lemmas.List.{length-set}
use Rattle.mode_machine.specs.Common.{IsNext, Watched, dependencies, dependency_of, has_mode, holds_at, no_dependency}
use Rattle.mode_machine.proofs.Watching.{as_many_dependencies, begun_held, dependencies_set, lying, modes_there, not_first, rests_held}
use Rattle.mode_machine.proofs.disabling.Disablings.begin.Goals as goal

pub insert-requires : goal.insert-requires
insert-requires c =
    let d = c.self.inside in
    omega (arith, c.requires, ap (λ (w : Watched). length w.events) c.self.view_is, as_many_dependencies d.modes.items d.running c.self.invariant.0)

pub index-requires : goal.index-requires
index-requires c =
    let d = c.self.inside in
    omega (arith, c.requires, ap (λ (w : Watched). length w.events) c.self.view_is, as_many_dependencies d.modes.items d.running c.self.invariant.0, c.self.invariant.0, d.modes.ok)

pub invariant_of-self : goal.invariant_of-self
invariant_of-self c =
    let d = c.self.inside in
    let modes = d.modes.items in
    let event = c.args.event in
    let as_many = c.self.invariant.0 in
    let within : event < length d.running = omega (arith, c.requires, ap (λ (w : Watched). length w.events) c.self.view_is, as_many_dependencies modes d.running as_many) in
    let there = modes_there modes event c.index.result.now (omega (arith, within, as_many)) c.index.ensures in
    let on = sym (c.has_mode.ensures ∙ ap (has_mode d.watched) there) ∙ c.if-has_mode.true in (
      as_many ∙ sym (ap length c.insert.ensures ∙ length-set d.running event true),
      subst (λ running. IsNext (holds_at (lying modes running d.watched)) 0 (Some c.lesser.result)) (sym c.insert.ensures)
          (subst (λ n. IsNext (holds_at (lying modes (set d.running event true) d.watched)) 0 (Some n)) (sym c.lesser.ensures) (begun_held modes d.running d.watched as_many event within d.held c.self.invariant.1 on)),
    )

pub invariant_of-self-else-has_mode : goal.invariant_of-self-else-has_mode
invariant_of-self-else-has_mode c =
    let d = c.self.inside in
    let modes = d.modes.items in
    let event = c.args.event in
    let as_many = c.self.invariant.0 in
    let within : event < length d.running = omega (arith, c.requires, ap (λ (w : Watched). length w.events) c.self.view_is, as_many_dependencies modes d.running as_many) in
    let there = modes_there modes event c.index.result.now (omega (arith, within, as_many)) c.index.ensures in
    let off = sym (c.has_mode.ensures ∙ ap (has_mode d.watched) there) ∙ c.if-has_mode.false in (
      as_many ∙ sym (ap length c.insert.ensures ∙ length-set d.running event true),
      subst (λ running. IsNext (holds_at (lying modes running d.watched)) 0 d.held) (sym c.insert.ensures)
          (rests_held modes d.running d.watched as_many event within d.held c.self.invariant.1 true off (not_first modes d.running d.watched as_many event within d.held c.self.invariant.1 off)),
    )

pub returns-then-has_mode : goal.returns-then-has_mode
returns-then-has_mode c =
    let d = c.self.inside in
    let modes = d.modes.items in
    let event = c.args.event in
    let as_many = c.self.invariant.0 in
    let within : event < length d.running = omega (arith, c.requires, ap (λ (w : Watched). length w.events) c.self.view_is, as_many_dependencies modes d.running as_many) in
    let now = ap (dependencies modes) c.insert.ensures ∙ dependencies_set modes d.running event true as_many within ∙ ap (λ (w : Watched). set w.events event (dependency_of (slice_index_or w.events event no_dependency).modes true)) c.self.view_is in
    λ i. record { events = now i; mode = ap (λ (w : Watched). w.mode) c.self.view_is i }

pub returns-else-has_mode : goal.returns-else-has_mode
returns-else-has_mode c =
    let d = c.self.inside in
    let modes = d.modes.items in
    let event = c.args.event in
    let as_many = c.self.invariant.0 in
    let within : event < length d.running = omega (arith, c.requires, ap (λ (w : Watched). length w.events) c.self.view_is, as_many_dependencies modes d.running as_many) in
    let now = ap (dependencies modes) c.insert.ensures ∙ dependencies_set modes d.running event true as_many within ∙ ap (λ (w : Watched). set w.events event (dependency_of (slice_index_or w.events event no_dependency).modes true)) c.self.view_is in
    λ i. record { events = now i; mode = ap (λ (w : Watched). w.mode) c.self.view_is i }
