use Rattle.std.proofs.Common.{◌<◌, ◌∙◌, ap, sym, subst, length, set, arith, false, refl}
use Rattle.std.specs.List.{slice_index_or}
use Rattle.std.proofs.lemmas.List.{length-set}
use Rattle.mode_machine.specs.Common.{IsNext, Watched, dependencies, dependency_of, holds_at, no_dependency}
use Rattle.mode_machine.proofs.Nexts.{other_place, same_place}
use Rattle.mode_machine.proofs.Watching.{as_many_dependencies, dependencies_set, ended_held, lying, rests_held}
use Rattle.mode_machine.proofs.disabling.Disablings.end.Goals as goal

pub remove-requires : goal.remove-requires
remove-requires c =
    let d = c.self.inside in
    omega (arith, c.requires, ap (λ (w : Watched). length w.events) c.self.view_is, as_many_dependencies d.modes.items d.running c.self.invariant.0)

pub invariant_of-self : goal.invariant_of-self
invariant_of-self c =
    let d = c.self.inside in
    let modes = d.modes.items in
    let event = c.args.event in
    let as_many = c.self.invariant.0 in
    let within : event < length d.running = omega (arith, c.requires, ap (λ (w : Watched). length w.events) c.self.view_is, as_many_dependencies modes d.running as_many) in
    let search = c.first_held-self-inside in
    let now = search.ensures.same ∙ c.remove.ensures in
    let found = subst (λ running. IsNext (holds_at (lying modes running d.watched)) event search.result) c.remove.ensures
    (subst (λ ms. IsNext (holds_at (lying ms c.remove.new.self d.watched)) event search.result) c.deref.ensures.value search.ensures.next) in
    let first = same_place d.held event (sym c.eq.ensures ∙ c.if-eq.true) in (
      as_many ∙ sym (ap length now ∙ length-set d.running event false),
      subst (λ running. IsNext (holds_at (lying modes running d.watched)) 0 search.result) (sym now) (ended_held modes d.running d.watched as_many event within d.held c.self.invariant.1 first search.result found),
    )

pub invariant_of-self-else-eq : goal.invariant_of-self-else-eq
invariant_of-self-else-eq c =
    let d = c.self.inside in
    let modes = d.modes.items in
    let event = c.args.event in
    let as_many = c.self.invariant.0 in
    let within : event < length d.running = omega (arith, c.requires, ap (λ (w : Watched). length w.events) c.self.view_is, as_many_dependencies modes d.running as_many) in (
      as_many ∙ sym (ap length c.remove.ensures ∙ length-set d.running event false),
      subst (λ running. IsNext (holds_at (lying modes running d.watched)) 0 d.held) (sym c.remove.ensures)
          (rests_held modes d.running d.watched as_many event within d.held c.self.invariant.1 false refl (other_place d.held event (sym c.eq.ensures ∙ c.if-eq.false))),
    )

pub returns-then-eq : goal.returns-then-eq
returns-then-eq c =
    let d = c.self.inside in
    let modes = d.modes.items in
    let event = c.args.event in
    let as_many = c.self.invariant.0 in
    let within : event < length d.running = omega (arith, c.requires, ap (λ (w : Watched). length w.events) c.self.view_is, as_many_dependencies modes d.running as_many) in
    let now = ap (dependencies modes) (c.first_held-self-inside.ensures.same ∙ c.remove.ensures) ∙ dependencies_set modes d.running event false as_many within ∙ ap (λ (w : Watched). set w.events event (dependency_of (slice_index_or w.events event no_dependency).modes false)) c.self.view_is in
    λ i. record { events = now i; mode = ap (λ (w : Watched). w.mode) c.self.view_is i }

pub returns-else-eq : goal.returns-else-eq
returns-else-eq c =
    let d = c.self.inside in
    let modes = d.modes.items in
    let event = c.args.event in
    let as_many = c.self.invariant.0 in
    let within : event < length d.running = omega (arith, c.requires, ap (λ (w : Watched). length w.events) c.self.view_is, as_many_dependencies modes d.running as_many) in
    let now = ap (dependencies modes) c.remove.ensures ∙ dependencies_set modes d.running event false as_many within ∙ ap (λ (w : Watched). set w.events event (dependency_of (slice_index_or w.events event no_dependency).modes false)) c.self.view_is in
    λ i. record { events = now i; mode = ap (λ (w : Watched). w.mode) c.self.view_is i }
