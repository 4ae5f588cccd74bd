use Rattle.std.proofs.Common.{◌≡◌, sym, ◌∙◌, ap, subst, Some}
use Rattle.bus_semantics.specs.Common.{false≢true, same_Some, Contains, slice_get}
use Rattle.port_objects.specs.Common.{kept_of, wakes, woken_in}
use Rattle.core_runtime.specs.Watching.{IsSeen}
use Rattle.latches.proofs.Places.{found_at, set_here}
use Rattle.core_runtime.proofs.Wakes.{are_same}
use Rattle.core_runtime.proofs.Watched.{after_entry, roused_phases}
use Rattle.core_runtime.proofs.waking.wake_starts.Goals as goal

pub returns-then-not-wakes-clause-woken : goal.returns-then-not-wakes-clause-woken
returns-then-not-wakes-clause-woken c = are_same c.args.w.now.awake.items

pub returns-then-not-wakes-clause-starts : goal.returns-then-not-wakes-clause-starts
returns-then-not-wakes-clause-starts c = λ p n t cores before deed touching after roused answered seated watched.
    after_entry c.held_starts_lead_nowhere.ensures c.other_entries_wake_nothing.ensures p before c.args.objects.now n cores
    c.args.w.now.awake.items c.args.w.now.awake.items c.args.w.now.seats.items seated (are_same c.args.w.now.awake.items) (roused_phases p before c.args.objects.now n cores c.args.w.now.awake.items after roused) c.answers_go_by_flags.ensures.held c.answers_go_by_flags.ensures.comes t answered watched after
    (λ x on. absurd (false≢true (c.if-not-wakes.ensures ∙ ap wakes (sym deed) ∙ on)))

pub returns-in-Some-get-clause-starts : goal.returns-in-Some-get-clause-starts
returns-in-Some-get-clause-starts c = λ p note t cores before deed touching after roused answered seated watched.
    let n = c.in-Some.number in
    let object = c.in-Some-get.object.now in
    after_entry c.held_starts_lead_nowhere.ensures c.other_entries_wake_nothing.ensures p before c.args.objects.now note cores
    c.args.w.now.awake.items c.wake_events.new.w.awake.items c.args.w.now.seats.items seated c.wake_events.ensures.woken (roused_phases p before c.args.objects.now note cores c.args.w.now.awake.items after roused) c.answers_go_by_flags.ensures.held c.answers_go_by_flags.ensures.comes t answered watched after
    (λ x on event s told at.
    let number : Some n ≡ Some x.object = sym c.in-Some.is ∙ touching ∙ x.touching in
    let place : n ≡ x.object = cc in
    let found = found_at c.args.objects.now n object c.in-Some-get.ensures.lookup.3.0 c.in-Some-get.ensures.lookup.1 in
    let same : x.new ≡ object = same_Some _ _ (sym (set_here before x.object x.old x.new x.found) ∙ sym (ap (slice_get c.args.objects.now) place ∙ ap (λ os. slice_get os x.object) x.others) ∙ found) in
    subst (λ o. IsSeen (kept_of o) c.wake_events.new.w.awake.items event s) (sym same)
    (c.wake_events.ensures.seen event s (subst (λ events. Contains events event) (sym c.woken.ensures) (subst (λ o. Contains (woken_in o) event) same told)) at))

pub returns-in_default-get-clause-woken : goal.returns-in_default-get-clause-woken
returns-in_default-get-clause-woken c = are_same c.args.w.now.awake.items

pub returns-in_default-clause-woken : goal.returns-in_default-clause-woken
returns-in_default-clause-woken c = are_same c.args.w.now.awake.items
