use Rattle.std.proofs.Common.{◌<◌, ◌+◌, ◌-◌, ◌∙◌, ap, sym, subst, arith, length, map}
use Rattle.std.proofs.lemmas.List.{length-map}
use Rattle.mode_machine.specs.Common.{IsNext, occurs, moment_in}
use Rattle.mode_machine.proofs.Nexts.{end_of}
use Rattle.mode_machine.proofs.Walking.{goes_less, goes_on, inside, next_of, none_left_yet, passes_there}
use Rattle.mode_machine.proofs.tracked.left_from.Goals as goal

pub offset_bounds-events-event : goal.offset_bounds-events-event
offset_bounds-events-event c =
    let moments = map moment_in c.args.events.now in
    let event = c.in-Some.event in
    let count = length c.args.events.now in
    let on = c.loop-from.invariant.here event c.in-Some.is in
    let within : event < count = inside c.args.events.now c.args.at event on in
    omega arith

pub bounds-events-event : goal.bounds-events-event
bounds-events-event c =
    let moments = map moment_in c.args.events.now in
    let event = c.in-Some.event in
    let count = length c.args.events.now in
    let on = c.loop-from.invariant.here event c.in-Some.is in
    let within : event < count = inside c.args.events.now c.args.at event on in
    within

pub next-from-requires : goal.next-from-requires
next-from-requires c =
    let moments = map moment_in c.args.events.now in
    let event = c.in-Some.event in
    let count = length c.args.events.now in
    let on = c.loop-from.invariant.here event c.in-Some.is in
    let within : event < count = inside c.args.events.now c.args.at event on in
    omega (arith, within, c.requires.chains.count, length-map c.args.events.now moment_in)

pub loop-from-smaller : goal.loop-from-smaller
loop-from-smaller c =
    let moments = map moment_in c.args.events.now in
    let event = c.in-Some.event in
    let count = length c.args.events.now in
    let on = c.loop-from.invariant.here event c.in-Some.is in
    let within : event < count = inside c.args.events.now c.args.at event on in
    let more = subst (IsNext (occurs moments c.args.at) (event + 1)) (sym c.next-from.ensures) (next_of moments c.args.chains.now c.requires.chains c.args.at event on) in
    let less = goes_less (occurs moments c.args.at) event count c.next-from.result within (inside c.args.events.now c.args.at) more in
    subst (λ o. (count + 1) - end_of (count + 1) c.next-from.result < (count + 1) - end_of (count + 1) o) (sym c.in-Some.is) less

pub loop-from-preserved : goal.loop-from-preserved
loop-from-preserved c =
    let moments = map moment_in c.args.events.now in
    let event = c.in-Some.event in
    let count = length c.args.events.now in
    let on = c.loop-from.invariant.here event c.in-Some.is in
    let within : event < count = inside c.args.events.now c.args.at event on in
    let more = subst (IsNext (occurs moments c.args.at) (event + 1)) (sym c.next-from.ensures) (next_of moments c.args.chains.now c.requires.chains c.args.at event on) in
    let before = c.loop-from.invariant in
    let further = goes_on (occurs moments c.args.at) (event + 1) count c.next-from.result (omega (arith, within)) more in
    record {
      here = passes_there (occurs moments c.args.at) (event + 1) c.next-from.result more;
      behind = omega (arith, before.behind, ap (end_of count) c.in-Some.is, further);
      none = none_left_yet c.args.events.now c.args.at c.requires.owed c.args.event c.loop-from.from event c.next-from.result c.in-Some.is before.none (sym c.is_left.ensures ∙ c.if-is_left.false) more;
    }
