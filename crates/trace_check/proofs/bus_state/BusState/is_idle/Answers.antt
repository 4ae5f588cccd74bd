use Rattle.std.proofs.Common.{◌≡◌, true, false, refl, sym, ◌∙◌, rules}
use Rattle.bus_semantics.specs.Common.{false≢true, none_runs}
use Rattle.trace_check.specs.Along.{plan_in}
use Rattle.trace_check.proofs.Making.{idle_then}
use Rattle.trace_check.proofs.bus_state.BusState.is_idle.Goals as goal

pub returns-then-not-none_runs : goal.returns-then-not-none_runs
returns-then-not-none_runs c = λ h legal stands idle.
    let r = c.args.rules.now in
    let some : c.none_runs.result ≡ false = search rules in
    false≢true (sym some ∙ c.none_runs.ensures.none (plan_in r) r.mapping.now h c.requires.sound.sound stands.runners ∙ idle.none)

pub returns : goal.returns
returns c = λ h legal stands.
    let r = c.args.rules.now in
    let none : c.none_runs.result ≡ true = search rules in
    let quiet : none_runs (plan_in r) h ≡ true = sym (c.none_runs.ensures.none (plan_in r) r.mapping.now h c.requires.sound.sound stands.runners) ∙ none in
    idle_then r.tasks.now (plan_in r) r.mapping.now h c.args.self.now _ quiet stands c.may_rest.ensures.planned refl c.none_runs.ensures.same c.may_rest.result c.may_rest.ensures.same c.may_rest.ensures.among
    (c.may_rest.ensures.rest r.mapping.now h c.requires.sound.sound legal quiet stands.objects)
