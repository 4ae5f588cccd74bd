use Rattle.std.proofs.Common.{◌≡◌, ◌<◌, ◌+◌, true, false, get_or, set, sym, ◌∙◌, ap, subst}
use Rattle.bus_semantics.specs.Common.{get_or-set_same, same_Some}
use Rattle.core_runtime.proofs.Wakes.{woken_slot, woken_same}
use Rattle.core_runtime.proofs.machines.rouse_machine.Goals as goal

pub returns-in-Some-clause-woken : goal.returns-in-Some-clause-woken
returns-in-Some-clause-woken c =
    woken_slot c.args.core.now c.rouse.new.self c.in-Some.slot c.rouse.ensures.slots c.rouse.ensures.events c.rouse.ensures.waiting c.rouse.ensures.areas c.rouse.ensures.first c.rouse.ensures.fits c.rouse.ensures.starts c.rouse.ensures.waiters

pub returns-in-Some-clause-awake : goal.returns-in-Some-clause-awake
returns-in-Some-clause-awake c = λ machine at is place within.
    let count = c.count-count.ensures in
    let slot : c.in-Some.slot ≡ at = same_Some _ _ (c.in-Some.ensures.slot machine at is (place ∙ ap (λ n. n + machine) (sym count)) (subst (λ n. at < n) (sym count) within)) in
    ap (λ fs. get_or fs at false) c.rouse.ensures.slots ∙ ap (λ n. get_or (set c.args.core.now.slots n true) at false) slot ∙ get_or-set_same c.args.core.now.slots at true false within

pub returns-in_default-clause-woken : goal.returns-in_default-clause-woken
returns-in_default-clause-woken c = woken_same c.args.core.now

pub returns-in_default-clause-awake : goal.returns-in_default-clause-awake
returns-in_default-clause-awake c = λ machine at is place within.
    let count = c.count-count.ensures in
    absurd (cc (c.in_default.is ∙ c.in_default.ensures.slot machine at is (place ∙ ap (λ n. n + machine) (sym count)) (subst (λ n. at < n) (sym count) within)))
