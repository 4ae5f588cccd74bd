use Rattle.std.proofs.Common.{◌≡◌, ◌<◌, ◌≤◌, suc, ◌+◌, [], ◌∷◌, ◌++◌, length, get_or, set, sym, ◌∙◌, ap, subst, arith, inl, inr, Some, None}
use Rattle.bus_semantics.specs.Common.{slice_get, cases_lt, get_or-set_same, get_or_from_slice_get, plan_of, touched_by}
use Rattle.place_set.specs.Places.{NoneBetween, IsFirst}
use Rattle.task_slots.specs.declared.slot.Slot.{Slot}
use Rattle.task_slots.specs.Common.{Made, Looked, ObjectsLooked, EventsHeld, noting_of, SlotLooked}
use Rattle.task_slots.specs.Slots.{listed_in, slot_tries, events_of_slot}
use Rattle.task_slots.specs.Ready.{IsReadySlot}
use Rattle.core_turn.specs.Awake.{AwakeState, Fits, HeldTold, IsSettled, SameBefore}
use Rattle.core_turn.proofs.Counting.{SameFrom, before_row, before_settled, from_settled, counted_to, counted_at}
use Rattle.task_slots.specs.Waiting.{flags, is_free, looks_awake}
use Rattle.task_slots.specs.Stepping.{SlotStep}
use Rattle.task_slots.proofs.Written.{look_is}
use Rattle.core_turn.proofs.Passing.{set_same, pass_made, pass_lost}
use Rattle.task_slots.proofs.Unchanged.{TriesHeld, unchanged_on, unchanged_by, held_by, looked_at}
use Rattle.core_turn.proofs.Awakes.{events_held, with_rows}
use Rattle.core_turn.proofs.Settling.{between_held, passed_on, held_onward, slot_within, slot_found, row_found, fits_made, held_made, fits_nothing, held_nothing}
use Rattle.core_turn.proofs.awake_looks.look_among.Goals as goal

pub returns-then-at-to-clause-pass : goal.returns-then-at-to-clause-pass
returns-then-at-to-clause-pass g c =
    let p = plan_of c.args.p.now in
    let t = c.args.t.now in
    let o = (g.B.Bench.told c.args.bench.now).objects in
    let xs = c.args.slots.now.items in
    let first = c.args.a.now.first in
    let loop = c.loop-at.invariant in
    let behind = c.loop-at.behind in
    let a : AwakeState = record { slots = c.next.new.self; events = c.a.inside.events.items; waiting = c.a.inside.waiting; areas = c.a.inside.areas.items; first = c.a.inside.first } in
    let same : c.loop-at.a ≡ a = sym c.a.view_is ∙ (λ i. record { slots = sym c.in-Some.ensures.same i; events = a.events; waiting = a.waiting; areas = a.areas; first = a.first }) in
    let fits : Fits xs first a = subst (Fits xs first) same loop.fits in
    let held : HeldTold p t o None xs behind a = subst (HeldTold p t o None xs behind) same loop.held in
    let at = c.in-Some.at in
    let next : IsFirst a.slots behind (length a.slots) at = subst (λ f. IsFirst f behind (length f) at) (sym c.in-Some.ensures.same) c.in-Some.ensures.next in
    record {
      same = loop.slots;
      none = loop.none;
      looked = looked_at p _ _ _ loop.same (between_held p t o xs c.args.from c.args.to (passed_on p t o xs a first fits c.args.from behind held loop.passed at c.args.to c.if-at-to.true next.none));
    }

pub returns-then-at-to-clause-held : goal.returns-then-at-to-clause-held
returns-then-at-to-clause-held g c =
    let p = plan_of c.args.p.now in
    let t = c.args.t.now in
    let o = (g.B.Bench.told c.args.bench.now).objects in
    let xs = c.args.slots.now.items in
    let first = c.args.a.now.first in
    let loop = c.loop-at.invariant in
    let behind = c.loop-at.behind in
    let a : AwakeState = record { slots = c.next.new.self; events = c.a.inside.events.items; waiting = c.a.inside.waiting; areas = c.a.inside.areas.items; first = c.a.inside.first } in
    let same : c.loop-at.a ≡ a = sym c.a.view_is ∙ (λ i. record { slots = sym c.in-Some.ensures.same i; events = a.events; waiting = a.waiting; areas = a.areas; first = a.first }) in
    let fits : Fits xs first a = subst (Fits xs first) same loop.fits in
    let held : HeldTold p t o None xs behind a = subst (HeldTold p t o None xs behind) same loop.held in
    let at = c.in-Some.at in
    let next : IsFirst a.slots behind (length a.slots) at = subst (λ f. IsFirst f behind (length f) at) (sym c.in-Some.ensures.same) c.in-Some.ensures.next in
    let past = c.if-at-to.true in
    subst (λ ys. HeldTold p t o None ys c.args.to a) (sym loop.slots) (held_onward p t o xs a behind c.args.to loop.short (λ j begun less. next.none j begun (omega arith)) held)

pub returns-clause-pass : goal.returns-clause-pass
returns-clause-pass g c =
    let p = plan_of c.args.p.now in
    let t = c.args.t.now in
    let o = (g.B.Bench.told c.args.bench.now).objects in
    let xs = c.args.slots.now.items in
    let first = c.args.a.now.first in
    let loop = c.loop-at.invariant in
    let behind = c.loop-at.behind in
    let a : AwakeState = record { slots = c.next.new.self; events = c.a.inside.events.items; waiting = c.a.inside.waiting; areas = c.a.inside.areas.items; first = c.a.inside.first } in
    let same : c.loop-at.a ≡ a = sym c.a.view_is ∙ (λ i. record { slots = sym c.in_default.ensures.same i; events = a.events; waiting = a.waiting; areas = a.areas; first = a.first }) in
    let fits : Fits xs first a = subst (Fits xs first) same loop.fits in
    let held : HeldTold p t o None xs behind a = subst (HeldTold p t o None xs behind) same loop.held in
    let none : NoneBetween a.slots behind (length a.slots) = subst (λ f. NoneBetween f behind (length f)) (sym c.in_default.ensures.same) c.in_default.ensures.next in
    let count = fits.count in
    let less : c.args.to ≤ length a.slots = omega (arith, c.requires.within) in
    record {
      same = loop.slots;
      none = loop.none;
      looked = looked_at p _ _ _ loop.same (between_held p t o xs c.args.from c.args.to (passed_on p t o xs a first fits c.args.from behind held loop.passed (length a.slots) c.args.to less none));
    }

pub returns-clause-held : goal.returns-clause-held
returns-clause-held g c =
    let p = plan_of c.args.p.now in
    let t = c.args.t.now in
    let o = (g.B.Bench.told c.args.bench.now).objects in
    let xs = c.args.slots.now.items in
    let first = c.args.a.now.first in
    let loop = c.loop-at.invariant in
    let behind = c.loop-at.behind in
    let a : AwakeState = record { slots = c.next.new.self; events = c.a.inside.events.items; waiting = c.a.inside.waiting; areas = c.a.inside.areas.items; first = c.a.inside.first } in
    let same : c.loop-at.a ≡ a = sym c.a.view_is ∙ (λ i. record { slots = sym c.in_default.ensures.same i; events = a.events; waiting = a.waiting; areas = a.areas; first = a.first }) in
    let fits : Fits xs first a = subst (Fits xs first) same loop.fits in
    let held : HeldTold p t o None xs behind a = subst (HeldTold p t o None xs behind) same loop.held in
    let none : NoneBetween a.slots behind (length a.slots) = subst (λ f. NoneBetween f behind (length f)) (sym c.in_default.ensures.same) c.in_default.ensures.next in
    let count = fits.count in
    let less : c.args.to ≤ length a.slots = omega (arith, c.requires.within) in
    subst (λ ys. HeldTold p t o None ys c.args.to a) (sym loop.slots) (held_onward p t o xs a behind c.args.to loop.short (λ j begun low. none j begun (omega arith)) held)

pub look_at-requires-clause-ready : goal.look_at-requires-clause-ready
look_at-requires-clause-ready g c =
    let p = plan_of c.args.p.now in
    let t = c.args.t.now in
    let o = (g.B.Bench.told c.args.bench.now).objects in
    let xs = c.args.slots.now.items in
    let first = c.args.a.now.first in
    let loop = c.loop-at.invariant in
    let behind = c.loop-at.behind in
    let a : AwakeState = record { slots = c.next.new.self; events = c.a.inside.events.items; waiting = c.a.inside.waiting; areas = c.a.inside.areas.items; first = c.a.inside.first } in
    let same : c.loop-at.a ≡ a = sym c.a.view_is ∙ (λ i. record { slots = sym c.in-Some.ensures.same i; events = a.events; waiting = a.waiting; areas = a.areas; first = a.first }) in
    let fits : Fits xs first a = subst (Fits xs first) same loop.fits in
    let held : HeldTold p t o None xs behind a = subst (HeldTold p t o None xs behind) same loop.held in
    let at = c.in-Some.at in
    let next : IsFirst a.slots behind (length a.slots) at = subst (λ f. IsFirst f behind (length f) at) (sym c.in-Some.ensures.same) c.in-Some.ensures.next in
    let s = c.index_mut.result.now in
    let is : s ≡ get_or xs at s = c.index_mut.ensures.value ∙ ap (λ ys. get_or ys at s) loop.slots in
    let found : slice_get xs at ≡ Some s = slot_found xs a first fits at next.within s is in
    c.requires.ready at s found

pub look_at-requires-clause-width : goal.look_at-requires-clause-width
look_at-requires-clause-width g c =
    let p = plan_of c.args.p.now in
    let t = c.args.t.now in
    let o = (g.B.Bench.told c.args.bench.now).objects in
    let xs = c.args.slots.now.items in
    let first = c.args.a.now.first in
    let loop = c.loop-at.invariant in
    let behind = c.loop-at.behind in
    let a : AwakeState = record { slots = c.next.new.self; events = c.a.inside.events.items; waiting = c.a.inside.waiting; areas = c.a.inside.areas.items; first = c.a.inside.first } in
    let same : c.loop-at.a ≡ a = sym c.a.view_is ∙ (λ i. record { slots = sym c.in-Some.ensures.same i; events = a.events; waiting = a.waiting; areas = a.areas; first = a.first }) in
    let fits : Fits xs first a = subst (Fits xs first) same loop.fits in
    let held : HeldTold p t o None xs behind a = subst (HeldTold p t o None xs behind) same loop.held in
    let at = c.in-Some.at in
    let next : IsFirst a.slots behind (length a.slots) at = subst (λ f. IsFirst f behind (length f) at) (sym c.in-Some.ensures.same) c.in-Some.ensures.next in
    let s = c.index_mut.result.now in
    let is : s ≡ get_or xs at s = c.index_mut.ensures.value ∙ ap (λ ys. get_or ys at s) loop.slots in
    let found : slice_get xs at ≡ Some s = slot_found xs a first fits at next.within s is in
    fits.widths at s c.index_mut-in-Some.result.now found (row_found xs a first fits at next.within _ c.index_mut-in-Some.ensures.value)

pub look_at-requires-clause-held : goal.look_at-requires-clause-held
look_at-requires-clause-held g c =
    let p = plan_of c.args.p.now in
    let t = c.args.t.now in
    let o = (g.B.Bench.told c.args.bench.now).objects in
    let xs = c.args.slots.now.items in
    let first = c.args.a.now.first in
    let loop = c.loop-at.invariant in
    let behind = c.loop-at.behind in
    let a : AwakeState = record { slots = c.next.new.self; events = c.a.inside.events.items; waiting = c.a.inside.waiting; areas = c.a.inside.areas.items; first = c.a.inside.first } in
    let same : c.loop-at.a ≡ a = sym c.a.view_is ∙ (λ i. record { slots = sym c.in-Some.ensures.same i; events = a.events; waiting = a.waiting; areas = a.areas; first = a.first }) in
    let fits : Fits xs first a = subst (Fits xs first) same loop.fits in
    let held : HeldTold p t o None xs behind a = subst (HeldTold p t o None xs behind) same loop.held in
    let at = c.in-Some.at in
    let next : IsFirst a.slots behind (length a.slots) at = subst (λ f. IsFirst f behind (length f) at) (sym c.in-Some.ensures.same) c.in-Some.ensures.next in
    let s = c.index_mut.result.now in
    let is : s ≡ get_or xs at s = c.index_mut.ensures.value ∙ ap (λ ys. get_or ys at s) loop.slots in
    let found : slice_get xs at ≡ Some s = slot_found xs a first fits at next.within s is in
    subst (λ b. EventsHeld p b (events_of_slot s) (flags c.index_mut-in-Some.result.now)) (sym loop.same.objects)
    (events_held p t o xs behind a at s c.index_mut-in-Some.result.now found (row_found xs a first fits at next.within _ c.index_mut-in-Some.ensures.value)
    (fits.widths at s c.index_mut-in-Some.result.now found (row_found xs a first fits at next.within _ c.index_mut-in-Some.ensures.value)) held)

pub look_at-requires-clause-space : goal.look_at-requires-clause-space
look_at-requires-clause-space g c =
    let count : length c.loop-at.made.items ≡ length c.args.made.now.items = ap length c.loop-at.invariant.none in
    omega (arith, c.requires.space, c.loop-at.invariant.capacity)

pub returns-in-Made-clause-pass : goal.returns-in-Made-clause-pass
returns-in-Made-clause-pass g c =
    let p = plan_of c.args.p.now in
    let t = c.args.t.now in
    let o = (g.B.Bench.told c.args.bench.now).objects in
    let xs = c.args.slots.now.items in
    let first = c.args.a.now.first in
    let loop = c.loop-at.invariant in
    let behind = c.loop-at.behind in
    let a : AwakeState = record { slots = c.next.new.self; events = c.a.inside.events.items; waiting = c.a.inside.waiting; areas = c.a.inside.areas.items; first = c.a.inside.first } in
    let same : c.loop-at.a ≡ a = sym c.a.view_is ∙ (λ i. record { slots = sym c.in-Some.ensures.same i; events = a.events; waiting = a.waiting; areas = a.areas; first = a.first }) in
    let fits : Fits xs first a = subst (Fits xs first) same loop.fits in
    let held : HeldTold p t o None xs behind a = subst (HeldTold p t o None xs behind) same loop.held in
    let at = c.in-Some.at in
    let next : IsFirst a.slots behind (length a.slots) at = subst (λ f. IsFirst f behind (length f) at) (sym c.in-Some.ensures.same) c.in-Some.ensures.next in
    let s = c.index_mut.result.now in
    let is : s ≡ get_or xs at s = c.index_mut.ensures.value ∙ ap (λ ys. get_or ys at s) loop.slots in
    let found : slice_get xs at ≡ Some s = slot_found xs a first fits at next.within s is in
    let begun = loop.begun in
    let after = next.behind in
    let behind_it : c.args.from ≤ at = omega arith in
    let within : at < length xs = slot_within xs a first fits at next.within in
    let passed = between_held p t o xs c.args.from at (passed_on p t o xs a first fits c.args.from behind held loop.passed at at (omega arith) next.none) in
    let e = c.in-Made.ensures.written.0 in
    let written = look_is c.last_entries_are_last.ensures c.loop-at.made.items c.look_at.new.made.items c.in-Made.ensures.written in
    record {
      within = c.if-at-to.false;
      entry = e;
      written = c.in-Made.ensures.written.1 ∙ ap (λ ys. ys ++ e ∷ []) loop.none;
      made = pass_made p t xs c.args.from at s behind_it within is _ c.look_at.new.slot _ _ _ _ _ e (ap (λ ys. set ys at c.look_at.new.slot) loop.slots)
          (subst (SlotLooked p t s c.look_at.new.slot) written c.in-Made.ensures.slot) (looked_at p _ _ _ loop.same passed)
          (subst (Looked p (slot_tries p t s) (looks_awake p s (flags c.index_mut-in-Some.result.now)) (g.B.Bench.told c.loop-at.bench) (g.B.Bench.told c.look_at.new.bench)) written c.in-Made.ensures.looked);
    }

pub returns-in-Made-clause-fits : goal.returns-in-Made-clause-fits
returns-in-Made-clause-fits g c =
    let p = plan_of c.args.p.now in
    let t = c.args.t.now in
    let o = (g.B.Bench.told c.args.bench.now).objects in
    let xs = c.args.slots.now.items in
    let first = c.args.a.now.first in
    let loop = c.loop-at.invariant in
    let behind = c.loop-at.behind in
    let a : AwakeState = record { slots = c.next.new.self; events = c.a.inside.events.items; waiting = c.a.inside.waiting; areas = c.a.inside.areas.items; first = c.a.inside.first } in
    let same : c.loop-at.a ≡ a = sym c.a.view_is ∙ (λ i. record { slots = sym c.in-Some.ensures.same i; events = a.events; waiting = a.waiting; areas = a.areas; first = a.first }) in
    let fits : Fits xs first a = subst (Fits xs first) same loop.fits in
    let held : HeldTold p t o None xs behind a = subst (HeldTold p t o None xs behind) same loop.held in
    let at = c.in-Some.at in
    let next : IsFirst a.slots behind (length a.slots) at = subst (λ f. IsFirst f behind (length f) at) (sym c.in-Some.ensures.same) c.in-Some.ensures.next in
    let s = c.index_mut.result.now in
    let is : s ≡ get_or xs at s = c.index_mut.ensures.value ∙ ap (λ ys. get_or ys at s) loop.slots in
    let found : slice_get xs at ≡ Some s = slot_found xs a first fits at next.within s is in
    let step : SlotStep p t s c.look_at.new.slot c.in-Made.ensures.written.0 =
    subst (SlotLooked p t s c.look_at.new.slot) (look_is c.last_entries_are_last.ensures c.loop-at.made.items c.look_at.new.made.items c.in-Made.ensures.written) c.in-Made.ensures.slot in
    subst (λ ys. Fits (set ys at c.look_at.new.slot) first (with_rows a (set a.events at c.look_at.new.hints))) (sym loop.slots)
    (fits_made xs a first fits at next.within s c.look_at.new.slot c.look_at.new.hints is c.in-Made.ensures.width (ap listed_in step.table))

pub returns-in-Made-clause-held : goal.returns-in-Made-clause-held
returns-in-Made-clause-held g c = λ e last.
    let p = plan_of c.args.p.now in
    let t = c.args.t.now in
    let o = (g.B.Bench.told c.args.bench.now).objects in
    let xs = c.args.slots.now.items in
    let first = c.args.a.now.first in
    let loop = c.loop-at.invariant in
    let behind = c.loop-at.behind in
    let a : AwakeState = record { slots = c.next.new.self; events = c.a.inside.events.items; waiting = c.a.inside.waiting; areas = c.a.inside.areas.items; first = c.a.inside.first } in
    let same : c.loop-at.a ≡ a = sym c.a.view_is ∙ (λ i. record { slots = sym c.in-Some.ensures.same i; events = a.events; waiting = a.waiting; areas = a.areas; first = a.first }) in
    let fits : Fits xs first a = subst (Fits xs first) same loop.fits in
    let held : HeldTold p t o None xs behind a = subst (HeldTold p t o None xs behind) same loop.held in
    let at = c.in-Some.at in
    let next : IsFirst a.slots behind (length a.slots) at = subst (λ f. IsFirst f behind (length f) at) (sym c.in-Some.ensures.same) c.in-Some.ensures.next in
    let s = c.index_mut.result.now in
    let is : s ≡ get_or xs at s = c.index_mut.ensures.value ∙ ap (λ ys. get_or ys at s) loop.slots in
    let found : slice_get xs at ≡ Some s = slot_found xs a first fits at next.within s is in
    let asleep = subst (λ b. EventsHeld p b (events_of_slot s) (flags c.look_at.new.hints)) loop.same.objects c.in-Made.ensures.held in
    let written = look_is c.last_entries_are_last.ensures c.loop-at.made.items c.look_at.new.made.items (e, last ∙ ap (λ ys. ys ++ e ∷ []) (sym loop.none)) in
    let step : SlotStep p t s c.look_at.new.slot e = subst (SlotLooked p t s c.look_at.new.slot) written c.in-Made.ensures.slot in
    let now : Looked p (slot_tries p t s) (looks_awake p s (flags c.index_mut-in-Some.result.now)) (g.B.Bench.told c.loop-at.bench) (g.B.Bench.told c.look_at.new.bench) (Made e) =
    subst (Looked p (slot_tries p t s) (looks_awake p s (flags c.index_mut-in-Some.result.now)) (g.B.Bench.told c.loop-at.bench) (g.B.Bench.told c.look_at.new.bench)) written c.in-Made.ensures.looked in
    let looked = subst (λ b. ObjectsLooked p (slot_tries p t s) b (g.B.Bench.told c.look_at.new.bench).objects (Made e)) loop.same.objects now.objects in
    subst (λ ys. HeldTold p t o (touched_by p (noting_of e)) (set ys at c.look_at.new.slot) (suc at) (with_rows a (set a.events at c.look_at.new.hints))) (sym loop.slots)
    (held_made xs a first fits at next.within p t o behind next.behind next.none next.chosen held s c.look_at.new.slot c.look_at.new.hints e (g.B.Bench.told c.look_at.new.bench).objects is asleep (ap listed_in step.table) looked)

pub returns-in-Contended-clause-pass : goal.returns-in-Contended-clause-pass
returns-in-Contended-clause-pass g c =
    let p = plan_of c.args.p.now in
    let t = c.args.t.now in
    let o = (g.B.Bench.told c.args.bench.now).objects in
    let xs = c.args.slots.now.items in
    let first = c.args.a.now.first in
    let loop = c.loop-at.invariant in
    let behind = c.loop-at.behind in
    let a : AwakeState = record { slots = c.next.new.self; events = c.a.inside.events.items; waiting = c.a.inside.waiting; areas = c.a.inside.areas.items; first = c.a.inside.first } in
    let same : c.loop-at.a ≡ a = sym c.a.view_is ∙ (λ i. record { slots = sym c.in-Some.ensures.same i; events = a.events; waiting = a.waiting; areas = a.areas; first = a.first }) in
    let fits : Fits xs first a = subst (Fits xs first) same loop.fits in
    let held : HeldTold p t o None xs behind a = subst (HeldTold p t o None xs behind) same loop.held in
    let at = c.in-Some.at in
    let next : IsFirst a.slots behind (length a.slots) at = subst (λ f. IsFirst f behind (length f) at) (sym c.in-Some.ensures.same) c.in-Some.ensures.next in
    let s = c.index_mut.result.now in
    let is : s ≡ get_or xs at s = c.index_mut.ensures.value ∙ ap (λ ys. get_or ys at s) loop.slots in
    let found : slice_get xs at ≡ Some s = slot_found xs a first fits at next.within s is in
    let begun = loop.begun in
    let after = next.behind in
    let behind_it : c.args.from ≤ at = omega arith in
    let within : at < length xs = slot_within xs a first fits at next.within in
    let passed = between_held p t o xs c.args.from at (passed_on p t o xs a first fits c.args.from behind held loop.passed at at (omega arith) next.none) in
    record {
      same = ap (λ ys. set ys at c.look_at.new.slot) loop.slots ∙ ap (set xs at) c.in-Contended.ensures.slot ∙ set_same xs at s is;
      none = c.in-Contended.ensures.written ∙ loop.none;
      looked = pass_lost p t xs c.args.from at s behind_it within is c.args.to _ _ _ _ _ c.in-Contended.object c.if-at-to.false (looked_at p _ _ _ loop.same passed) c.in-Contended.ensures.looked;
    }

pub returns-in-Contended-clause-fits : goal.returns-in-Contended-clause-fits
returns-in-Contended-clause-fits g c =
    let p = plan_of c.args.p.now in
    let t = c.args.t.now in
    let o = (g.B.Bench.told c.args.bench.now).objects in
    let xs = c.args.slots.now.items in
    let first = c.args.a.now.first in
    let loop = c.loop-at.invariant in
    let behind = c.loop-at.behind in
    let a : AwakeState = record { slots = c.next.new.self; events = c.a.inside.events.items; waiting = c.a.inside.waiting; areas = c.a.inside.areas.items; first = c.a.inside.first } in
    let same : c.loop-at.a ≡ a = sym c.a.view_is ∙ (λ i. record { slots = sym c.in-Some.ensures.same i; events = a.events; waiting = a.waiting; areas = a.areas; first = a.first }) in
    let fits : Fits xs first a = subst (Fits xs first) same loop.fits in
    let held : HeldTold p t o None xs behind a = subst (HeldTold p t o None xs behind) same loop.held in
    let at = c.in-Some.at in
    let next : IsFirst a.slots behind (length a.slots) at = subst (λ f. IsFirst f behind (length f) at) (sym c.in-Some.ensures.same) c.in-Some.ensures.next in
    let s = c.index_mut.result.now in
    let is : s ≡ get_or xs at s = c.index_mut.ensures.value ∙ ap (λ ys. get_or ys at s) loop.slots in
    let found : slice_get xs at ≡ Some s = slot_found xs a first fits at next.within s is in
    subst (λ ys. Fits (set ys at c.look_at.new.slot) first (with_rows a (set a.events at c.look_at.new.hints))) (sym loop.slots)
    (fits_made xs a first fits at next.within s c.look_at.new.slot c.look_at.new.hints is c.in-Contended.ensures.width (ap events_of_slot c.in-Contended.ensures.slot))

pub settle-requires-clause-ready : goal.settle-requires-clause-ready
settle-requires-clause-ready g c =
    let p = plan_of c.args.p.now in
    let t = c.args.t.now in
    let o = (g.B.Bench.told c.args.bench.now).objects in
    let xs = c.args.slots.now.items in
    let first = c.args.a.now.first in
    let loop = c.loop-at.invariant in
    let behind = c.loop-at.behind in
    let a : AwakeState = record { slots = c.next.new.self; events = c.a.inside.events.items; waiting = c.a.inside.waiting; areas = c.a.inside.areas.items; first = c.a.inside.first } in
    let same : c.loop-at.a ≡ a = sym c.a.view_is ∙ (λ i. record { slots = sym c.in-Some.ensures.same i; events = a.events; waiting = a.waiting; areas = a.areas; first = a.first }) in
    let fits : Fits xs first a = subst (Fits xs first) same loop.fits in
    let held : HeldTold p t o None xs behind a = subst (HeldTold p t o None xs behind) same loop.held in
    let at = c.in-Some.at in
    let next : IsFirst a.slots behind (length a.slots) at = subst (λ f. IsFirst f behind (length f) at) (sym c.in-Some.ensures.same) c.in-Some.ensures.next in
    let s = c.index_mut.result.now in
    let is : s ≡ get_or xs at s = c.index_mut.ensures.value ∙ ap (λ ys. get_or ys at s) loop.slots in
    let found : slice_get xs at ≡ Some s = slot_found xs a first fits at next.within s is in
    let within : at < length xs = slot_within xs a first fits at next.within in
    let inside : at < length c.loop-at.slots.items = subst (λ ys. at < length ys) (sym loop.slots) within in
    let own : c.index.result.now ≡ s = c.index.ensures ∙ get_or-set_same c.loop-at.slots.items at c.look_at.new.slot c.index.result.now inside ∙ c.in-Nothing.ensures.slot in
    subst (IsReadySlot p t) (sym own) (c.requires.ready at s found)

pub loop-at-preserved : goal.loop-at-preserved
loop-at-preserved g c =
    let p = plan_of c.args.p.now in
    let t = c.args.t.now in
    let o = (g.B.Bench.told c.args.bench.now).objects in
    let xs = c.args.slots.now.items in
    let first = c.args.a.now.first in
    let loop = c.loop-at.invariant in
    let behind = c.loop-at.behind in
    let a : AwakeState = record { slots = c.next.new.self; events = c.a.inside.events.items; waiting = c.a.inside.waiting; areas = c.a.inside.areas.items; first = c.a.inside.first } in
    let same : c.loop-at.a ≡ a = sym c.a.view_is ∙ (λ i. record { slots = sym c.in-Some.ensures.same i; events = a.events; waiting = a.waiting; areas = a.areas; first = a.first }) in
    let fits : Fits xs first a = subst (Fits xs first) same loop.fits in
    let held : HeldTold p t o None xs behind a = subst (HeldTold p t o None xs behind) same loop.held in
    let at = c.in-Some.at in
    let next : IsFirst a.slots behind (length a.slots) at = subst (λ f. IsFirst f behind (length f) at) (sym c.in-Some.ensures.same) c.in-Some.ensures.next in
    let s = c.index_mut.result.now in
    let is : s ≡ get_or xs at s = c.index_mut.ensures.value ∙ ap (λ ys. get_or ys at s) loop.slots in
    let found : slice_get xs at ≡ Some s = slot_found xs a first fits at next.within s is in
    let within : at < length xs = slot_within xs a first fits at next.within in
    let tries : TriesHeld p o (slot_tries p t s) = held_by p (slot_tries p t s) _ _ _ _ loop.same c.in-Nothing.ensures.looked in
    let asleep = subst (λ b. EventsHeld p b (events_of_slot s) (flags c.look_at.new.hints)) loop.same.objects c.in-Nothing.ensures.held in
    let inside : at < length c.loop-at.slots.items = subst (λ ys. at < length ys) (sym loop.slots) within in
    let own : c.index.result.now ≡ s = c.index.ensures ∙ get_or-set_same c.loop-at.slots.items at c.look_at.new.slot c.index.result.now inside ∙ c.in-Nothing.ensures.slot in
    let settled : IsSettled p t s (is_free s) at (with_rows a (set a.events at c.look_at.new.hints)) c.settle.new.a = subst (λ (x : Slot). IsSettled p t x (is_free x) at (with_rows a (set a.events at c.look_at.new.hints)) c.settle.new.a) own c.settle.ensures in
    let begun = loop.begun in
    let after = next.behind in
    let less : at ≤ at = omega arith in
    let more : suc at ≡ at + 1 = omega arith in
    let low = c.if-at-to.false in
    record {
      slots = ap (λ ys. set ys at c.look_at.new.slot) loop.slots ∙ ap (set xs at) c.in-Nothing.ensures.slot ∙ set_same xs at s is;
      home = c.in-Nothing.ensures.home ∙ loop.home;
      plan = c.in-Nothing.ensures.plan ∙ loop.plan;
      none = c.in-Nothing.ensures.written ∙ loop.none;
      capacity = c.in-Nothing.ensures.capacity ∙ loop.capacity;
      fits = fits_nothing xs a first fits at next.within p t c.settle.new.a s c.look_at.new.hints is c.in-Nothing.ensures.width settled;
      held = subst (λ n. HeldTold p t o None xs n c.settle.new.a) more
          (held_nothing xs a first fits at next.within p t o behind next.behind next.none next.chosen held
          (λ q object area k b fit there none. c.areas_are_closed_alike.ensures q object area k b fit there none) c.settle.new.a s c.look_at.new.hints is asleep tries settled);
      begun = omega arith;
      short = omega arith;
      passed = λ i x behind_it before there. elim (cases_lt i at) [
        | inl low_it ↦ passed_on p t o xs a first fits c.args.from behind held loop.passed at at less next.none i x behind_it low_it there
        | inr high ↦
            let here : i ≡ at = omega arith in
            let one : Some x ≡ Some s = sym there ∙ ap (slice_get xs) here ∙ found in
            let own_one : x ≡ s = cc in
            subst (λ y. TriesHeld p o (slot_tries p t y)) (sym own_one) tries
      ];
      later = from_settled p t s (is_free s) c.args.a.now a c.settle.new.a at c.look_at.new.hints settled behind after (subst (SameFrom behind c.args.a.now) same loop.later);
      before = before_settled p t s (is_free s) c.args.a.now a c.settle.new.a at c.look_at.new.hints settled c.args.from (omega (arith, begun, after)) (subst (SameBefore c.args.from c.args.a.now) same loop.before);
      counted = counted_at p xs c.args.a.now a c.args.from behind begun (subst (SameFrom behind c.args.a.now) same loop.later) _ _ loop.counted at s c.index_mut-in-Some.result.now _ after next.none next.chosen found
          (get_or_from_slice_get a.events at c.index_mut-in-Some.result.now [] (row_found xs a first fits at next.within _ c.index_mut-in-Some.ensures.value))
          c.in-Nothing.ensures.looked.work;
      same = unchanged_on _ _ _ loop.same (unchanged_by p _ _ _ _ c.in-Nothing.ensures.looked);
    }

pub returns-then-at-to-clause-before : goal.returns-then-at-to-clause-before
returns-then-at-to-clause-before g c =
    let p = plan_of c.args.p.now in
    let t = c.args.t.now in
    let xs = c.args.slots.now.items in
    let first = c.args.a.now.first in
    let loop = c.loop-at.invariant in
    let behind = c.loop-at.behind in
    let a : AwakeState = record { slots = c.next.new.self; events = c.a.inside.events.items; waiting = c.a.inside.waiting; areas = c.a.inside.areas.items; first = c.a.inside.first } in
    let same : c.loop-at.a ≡ a = sym c.a.view_is ∙ (λ i. record { slots = sym c.in-Some.ensures.same i; events = a.events; waiting = a.waiting; areas = a.areas; first = a.first }) in
    subst (SameBefore c.args.from c.args.a.now) same loop.before

pub returns-then-at-to-clause-counted : goal.returns-then-at-to-clause-counted
returns-then-at-to-clause-counted g c =
    let p = plan_of c.args.p.now in
    let t = c.args.t.now in
    let xs = c.args.slots.now.items in
    let first = c.args.a.now.first in
    let loop = c.loop-at.invariant in
    let behind = c.loop-at.behind in
    let a : AwakeState = record { slots = c.next.new.self; events = c.a.inside.events.items; waiting = c.a.inside.waiting; areas = c.a.inside.areas.items; first = c.a.inside.first } in
    let same : c.loop-at.a ≡ a = sym c.a.view_is ∙ (λ i. record { slots = sym c.in-Some.ensures.same i; events = a.events; waiting = a.waiting; areas = a.areas; first = a.first }) in
    let at = c.in-Some.at in
    let next : IsFirst a.slots behind (length a.slots) at = subst (λ f. IsFirst f behind (length f) at) (sym c.in-Some.ensures.same) c.in-Some.ensures.next in
    let past = c.if-at-to.true in
    counted_to p xs c.args.a.now a c.args.from behind loop.begun (subst (SameFrom behind c.args.a.now) same loop.later) _ _ loop.counted c.args.to loop.short
    (λ j begun less. next.none j begun (omega (arith, past, less)))

pub returns-clause-before : goal.returns-clause-before
returns-clause-before g c =
    let p = plan_of c.args.p.now in
    let t = c.args.t.now in
    let xs = c.args.slots.now.items in
    let first = c.args.a.now.first in
    let loop = c.loop-at.invariant in
    let behind = c.loop-at.behind in
    let a : AwakeState = record { slots = c.next.new.self; events = c.a.inside.events.items; waiting = c.a.inside.waiting; areas = c.a.inside.areas.items; first = c.a.inside.first } in
    let same : c.loop-at.a ≡ a = sym c.a.view_is ∙ (λ i. record { slots = sym c.in_default.ensures.same i; events = a.events; waiting = a.waiting; areas = a.areas; first = a.first }) in
    subst (SameBefore c.args.from c.args.a.now) same loop.before

pub returns-clause-counted : goal.returns-clause-counted
returns-clause-counted g c =
    let p = plan_of c.args.p.now in
    let t = c.args.t.now in
    let xs = c.args.slots.now.items in
    let first = c.args.a.now.first in
    let loop = c.loop-at.invariant in
    let behind = c.loop-at.behind in
    let a : AwakeState = record { slots = c.next.new.self; events = c.a.inside.events.items; waiting = c.a.inside.waiting; areas = c.a.inside.areas.items; first = c.a.inside.first } in
    let same : c.loop-at.a ≡ a = sym c.a.view_is ∙ (λ i. record { slots = sym c.in_default.ensures.same i; events = a.events; waiting = a.waiting; areas = a.areas; first = a.first }) in
    let fits : Fits xs first a = subst (Fits xs first) same loop.fits in
    let none : NoneBetween a.slots behind (length a.slots) = subst (λ f. NoneBetween f behind (length f)) (sym c.in_default.ensures.same) c.in_default.ensures.next in
    let count = fits.count in
    let less : c.args.to ≤ length a.slots = omega (arith, c.requires.within) in
    counted_to p xs c.args.a.now a c.args.from behind loop.begun (subst (SameFrom behind c.args.a.now) same loop.later) _ _ loop.counted c.args.to loop.short
    (λ j begun low. none j begun (omega (arith, less, low)))

pub returns-in-Made-clause-before : goal.returns-in-Made-clause-before
returns-in-Made-clause-before g c =
    let p = plan_of c.args.p.now in
    let t = c.args.t.now in
    let xs = c.args.slots.now.items in
    let first = c.args.a.now.first in
    let loop = c.loop-at.invariant in
    let behind = c.loop-at.behind in
    let a : AwakeState = record { slots = c.next.new.self; events = c.a.inside.events.items; waiting = c.a.inside.waiting; areas = c.a.inside.areas.items; first = c.a.inside.first } in
    let same : c.loop-at.a ≡ a = sym c.a.view_is ∙ (λ i. record { slots = sym c.in-Some.ensures.same i; events = a.events; waiting = a.waiting; areas = a.areas; first = a.first }) in
    let at = c.in-Some.at in
    let next : IsFirst a.slots behind (length a.slots) at = subst (λ f. IsFirst f behind (length f) at) (sym c.in-Some.ensures.same) c.in-Some.ensures.next in
    let begun = loop.begun in
    let low = next.behind in
    before_row c.args.from at c.args.a.now a c.look_at.new.hints (omega (arith, begun, low)) (subst (SameBefore c.args.from c.args.a.now) same loop.before)

pub returns-in-Contended-clause-before : goal.returns-in-Contended-clause-before
returns-in-Contended-clause-before g c =
    let p = plan_of c.args.p.now in
    let t = c.args.t.now in
    let xs = c.args.slots.now.items in
    let first = c.args.a.now.first in
    let loop = c.loop-at.invariant in
    let behind = c.loop-at.behind in
    let a : AwakeState = record { slots = c.next.new.self; events = c.a.inside.events.items; waiting = c.a.inside.waiting; areas = c.a.inside.areas.items; first = c.a.inside.first } in
    let same : c.loop-at.a ≡ a = sym c.a.view_is ∙ (λ i. record { slots = sym c.in-Some.ensures.same i; events = a.events; waiting = a.waiting; areas = a.areas; first = a.first }) in
    let at = c.in-Some.at in
    let next : IsFirst a.slots behind (length a.slots) at = subst (λ f. IsFirst f behind (length f) at) (sym c.in-Some.ensures.same) c.in-Some.ensures.next in
    let begun = loop.begun in
    let low = next.behind in
    before_row c.args.from at c.args.a.now a c.look_at.new.hints (omega (arith, begun, low)) (subst (SameBefore c.args.from c.args.a.now) same loop.before)
