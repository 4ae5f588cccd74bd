use Rattle.std.proofs.Common.{◌<◌, ◌≤◌, ◌+◌, ◌-◌, ◌∙◌, ℕ, ap, sym, subst, arith, length, map, get_or, inl, inr}
use Rattle.std.proofs.lemmas.List.{length-map}
use Rattle.std.proofs.lemmas.Option.{slice_get-get_or}
use Rattle.mode_machine.specs.Common.{IsNext, occurs, is_woken, event_at, moment_in}
use Rattle.mode_machine.proofs.Nexts.{end_of, passed}
use Rattle.mode_machine.proofs.Told.{TellsBelow, all_told, only_next, tells_next, tells_past}
use Rattle.mode_machine.proofs.Walking.{end_within, goes_less, goes_on, inside, next_of, passes_there}
use Rattle.mode_machine.proofs.telling.tell_chain.Goals as goal

pub offset_bounds-events-event : goal.offset_bounds-events-event
offset_bounds-events-event c =
    let moments = map moment_in c.args.events.now in
    let event = c.in-Some.event in
    let count = length c.args.events.now in
    let on = c.loop-from.invariant.here event c.in-Some.is in
    let within : event < count = inside c.args.events.now c.args.at event on in
    omega arith

pub bounds-events-event : goal.bounds-events-event
bounds-events-event c =
    let moments = map moment_in c.args.events.now in
    let event = c.in-Some.event in
    let count = length c.args.events.now in
    let on = c.loop-from.invariant.here event c.in-Some.is in
    let within : event < count = inside c.args.events.now c.args.at event on in
    within

pub offset_bounds-names-event : goal.offset_bounds-names-event
offset_bounds-names-event c =
    let moments = map moment_in c.args.events.now in
    let event = c.in-Some.event in
    let count = length c.args.events.now in
    let on = c.loop-from.invariant.here event c.in-Some.is in
    let within : event < count = inside c.args.events.now c.args.at event on in
    let named : event < length c.args.names.now = omega (arith, within, c.requires.named) in
    omega arith

pub bounds-names-event : goal.bounds-names-event
bounds-names-event c =
    let moments = map moment_in c.args.events.now in
    let event = c.in-Some.event in
    let count = length c.args.events.now in
    let on = c.loop-from.invariant.here event c.in-Some.is in
    let within : event < count = inside c.args.events.now c.args.at event on in
    omega (arith, within, c.requires.named)

pub tell_if-requires : goal.tell_if-requires
tell_if-requires c =
    let moments = map moment_in c.args.events.now in
    let event = c.in-Some.event in
    let count = length c.args.events.now in
    let on = c.loop-from.invariant.here event c.in-Some.is in
    let within : event < count = inside c.args.events.now c.args.at event on in
    omega (arith, within, c.loop-from.invariant.room, c.loop-from.invariant.capacity, c.requires.room, ap (end_of count) c.in-Some.is)

pub next-from-requires : goal.next-from-requires
next-from-requires c =
    let moments = map moment_in c.args.events.now in
    let event = c.in-Some.event in
    let count = length c.args.events.now in
    let on = c.loop-from.invariant.here event c.in-Some.is in
    let within : event < count = inside c.args.events.now c.args.at event on in
    omega (arith, within, c.requires.chains.count, length-map c.args.events.now moment_in)

pub loop-from-smaller : goal.loop-from-smaller
loop-from-smaller c =
    let moments = map moment_in c.args.events.now in
    let event = c.in-Some.event in
    let count = length c.args.events.now in
    let on = c.loop-from.invariant.here event c.in-Some.is in
    let within : event < count = inside c.args.events.now c.args.at event on in
    let more = subst (IsNext (occurs moments c.args.at) (event + 1)) (sym c.next-from.ensures) (next_of moments c.args.chains.now c.requires.chains c.args.at event on) in
    let less = goes_less (occurs moments c.args.at) event count c.next-from.result within (inside c.args.events.now c.args.at) more in
    subst (λ o. (count + 1) - end_of (count + 1) c.next-from.result < (count + 1) - end_of (count + 1) o) (sym c.in-Some.is) less

pub loop-from-preserved : goal.loop-from-preserved
loop-from-preserved c =
    let moments = map moment_in c.args.events.now in
    let event = c.in-Some.event in
    let count = length c.args.events.now in
    let on = c.loop-from.invariant.here event c.in-Some.is in
    let within : event < count = inside c.args.events.now c.args.at event on in
    let more = subst (IsNext (occurs moments c.args.at) (event + 1)) (sym c.next-from.ensures) (next_of moments c.args.chains.now c.requires.chains c.args.at event on) in
    let names = c.args.names.now in
    let x = get_or names event 0 in
    let there = slice_get-get_or names event 0 (omega (arith, within, c.requires.named)) in
    let test = λ (k : ℕ). is_woken c.args.step c.args.settled c.args.next (event_at c.args.events.now k) in
    let told = c.tell_if.ensures in
    let now = c.tell_if.new.told.items in
    let before = c.loop-from.invariant in
    let here = passes_there (occurs moments c.args.at) (event + 1) c.next-from.result more in
    let ends = end_within c.args.events.now c.args.at c.next-from.result here in
    let further = goes_on (occurs moments c.args.at) (event + 1) count c.next-from.result (omega (arith, within)) more in
    record {
      here = here;
      told = tells_past names test (event + 1) (end_of count c.next-from.result) now
          (λ k behind under. c.requires.others k (omega (arith, under, ends)) (passed (occurs moments c.args.at) (event + 1) count c.next-from.result more k behind under))
          (tells_next names test event x c.loop-from.told.items now there (λ on. told.told (c.is_woken.ensures ∙ on)) told.kept (subst (λ o. TellsBelow names test (end_of count o) c.loop-from.told.items) c.in-Some.is before.told));
      kept = λ name first. told.kept name (before.kept name first);
      only = only_next names test event x c.args.told.now.items c.loop-from.told.items now there (λ name among. elim (told.only name among) [ inl earlier ↦ inl earlier | inr one ↦ inr (sym c.is_woken.ensures ∙ one.0, one.1) ]) before.only;
      room = omega (arith, told.room, before.room, ap (end_of count) c.in-Some.is, further);
      capacity = told.capacity ∙ before.capacity;
    }

pub returns-clause-told : goal.returns-clause-told
returns-clause-told c =
    let names = c.args.names.now in
    let count = length c.args.events.now in
    let test = λ (k : ℕ). is_woken c.args.step c.args.settled c.args.next (event_at c.args.events.now k) in
    let past : length names ≤ count = omega (arith, c.requires.named) in
    all_told names test count c.loop-from.told.items past (subst (λ o. TellsBelow names test (end_of count o) c.loop-from.told.items) c.in_default.is c.loop-from.invariant.told)
