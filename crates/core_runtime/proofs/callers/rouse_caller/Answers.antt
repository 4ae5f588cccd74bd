use Rattle.std.proofs.Common.{◌≡◌, ℕ, sym, ◌∙◌, ap, subst}
use Rattle.bus_semantics.specs.Common.{same_Some, slice_get_past, Global, Contains, slice_get}
use Rattle.std.specs.Prelude.{Vec}
use Rattle.core_runtime.specs.Watching.{IsAt}
use Rattle.latches.proofs.Places.{found_at}
use Rattle.core_runtime.proofs.callers.rouse_caller.Goals as goal

pub rouse_events-requires : goal.rouse_events-requires
rouse_events-requires c = record { there = λ e s at. c.requires.there e s (subst (λ xs. IsAt xs e s) c.as_slice.ensures.value at) }

pub returns-in-Some-get-clause-up : goal.returns-in-Some-get-clause-up
returns-in-Some-get-clause-up c = λ runnable event s calls listed at.
    let same : c.in-Some.runnable ≡ runnable = same_Some _ _ (c.in-Some.ensures ∙ calls) in
    let row = c.in-Some-get.events.now in
    let found = ap (λ rs. slice_get rs c.in-Some.runnable) (sym c.deref.ensures.value) ∙ found_at c.deref.result.now c.in-Some.runnable row c.in-Some-get.ensures.lookup.3.0 c.in-Some-get.ensures.lookup.1 in
    let here : listed.row ≡ row = same_Some _ _ (sym listed.row_is ∙ sym (ap (slice_get c.args.w.now.starters.items) same) ∙ found) in
    let among = subst (λ es. Contains es event) (sym c.as_slice-in-Some-get.ensures.value) (subst (λ (v : Vec ℕ Global). Contains v.items event) here listed.among) in
    c.rouse_events.ensures.up event s among (subst (λ xs. IsAt xs event s) (sym c.as_slice.ensures.value) at)

pub returns-in_default-get-clause-up : goal.returns-in_default-get-clause-up
returns-in_default-get-clause-up c = λ runnable event s calls listed at.
    let same : c.in-Some.runnable ≡ runnable = same_Some _ _ (c.in-Some.ensures ∙ calls) in
    let none = slice_get_past c.deref.result.now c.in-Some.runnable c.in_default-get.ensures.lookup.3 in
    absurd (cc (sym none ∙ ap (λ rs. slice_get rs c.in-Some.runnable) c.deref.ensures.value ∙ ap (slice_get c.args.w.now.starters.items) same ∙ listed.row_is))
