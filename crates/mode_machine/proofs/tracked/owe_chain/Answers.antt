use Rattle.std.proofs.Common.{◌≡◌, ◌<◌, ◌+◌, ◌-◌, ◌∙◌, ap, sym, subst, arith, length, map}
use Rattle.std.proofs.lemmas.List.{length-map}
use Rattle.mode_machine.specs.Common.{IsNext, occurs, owed_by, if_at, moment_in}
use Rattle.mode_machine.proofs.Each.{as_many_so_far, so_far}
use Rattle.mode_machine.proofs.Nexts.{end_of}
use Rattle.mode_machine.proofs.Walking.{goes_less, inside, next_of, passes_there, walk_begins, walk_goes}
use Rattle.mode_machine.proofs.tracked.owe_chain.Goals as goal

pub loop-from-init : goal.loop-from-init
loop-from-init c =
    let events = c.args.events.now.items in
    let first = c.first-from.ensures (map moment_in events) c.requires in
    record {
      here = passes_there (occurs (map moment_in events) c.args.at) 0 c.first-from.result first;
      done = walk_begins events c.args.at c.args.step c.args.settled c.args.next c.first-from.result first;
    }

pub index-requires : goal.index-requires
index-requires c =
    let events = c.args.events.now.items in
    let moments = map moment_in events in
    let event = c.in-Some.event in
    let count = length events in
    let f = if_at c.args.at (owed_by c.args.step c.args.settled c.args.next) in
    let on = c.loop-from.invariant.here event c.in-Some.is in
    let within : event < count = inside events c.args.at event on in
    let long : length c.loop-from.events.items ≡ count = ap length c.loop-from.invariant.done ∙ as_many_so_far f (end_of count c.loop-from.from) events in
    omega (arith, within, long, c.loop-from.events.ok)

pub index_mut-requires : goal.index_mut-requires
index_mut-requires c =
    let events = c.args.events.now.items in
    let moments = map moment_in events in
    let event = c.in-Some.event in
    let count = length events in
    let f = if_at c.args.at (owed_by c.args.step c.args.settled c.args.next) in
    let on = c.loop-from.invariant.here event c.in-Some.is in
    let within : event < count = inside events c.args.at event on in
    let long : length c.loop-from.events.items ≡ count = ap length c.loop-from.invariant.done ∙ as_many_so_far f (end_of count c.loop-from.from) events in
    omega (arith, within, long, c.loop-from.events.ok)

pub next-from-requires : goal.next-from-requires
next-from-requires c =
    let events = c.args.events.now.items in
    let moments = map moment_in events in
    let event = c.in-Some.event in
    let count = length events in
    let f = if_at c.args.at (owed_by c.args.step c.args.settled c.args.next) in
    let on = c.loop-from.invariant.here event c.in-Some.is in
    let within : event < count = inside events c.args.at event on in
    omega (arith, within, c.requires.count, length-map events moment_in)

pub loop-from-smaller : goal.loop-from-smaller
loop-from-smaller c =
    let events = c.args.events.now.items in
    let moments = map moment_in events in
    let event = c.in-Some.event in
    let count = length events in
    let f = if_at c.args.at (owed_by c.args.step c.args.settled c.args.next) in
    let on = c.loop-from.invariant.here event c.in-Some.is in
    let within : event < count = inside events c.args.at event on in
    let more = subst (IsNext (occurs moments c.args.at) (event + 1)) (sym c.next-from.ensures) (next_of moments c.args.chains.now c.requires c.args.at event on) in
    let less = goes_less (occurs moments c.args.at) event count c.next-from.result within (inside events c.args.at) more in
    subst (λ o. (count + 1) - end_of (count + 1) c.next-from.result < (count + 1) - end_of (count + 1) o) (sym c.in-Some.is) less

pub loop-from-preserved : goal.loop-from-preserved
loop-from-preserved c =
    let events = c.args.events.now.items in
    let moments = map moment_in events in
    let event = c.in-Some.event in
    let count = length events in
    let f = if_at c.args.at (owed_by c.args.step c.args.settled c.args.next) in
    let on = c.loop-from.invariant.here event c.in-Some.is in
    let within : event < count = inside events c.args.at event on in
    let long : length c.loop-from.events.items ≡ count = ap length c.loop-from.invariant.done ∙ as_many_so_far f (end_of count c.loop-from.from) events in
    let more = subst (IsNext (occurs moments c.args.at) (event + 1)) (sym c.next-from.ensures) (next_of moments c.args.chains.now c.requires c.args.at event on) in
    let done = c.loop-from.invariant.done ∙ ap (λ o. so_far f (end_of count o) events) c.in-Some.is in
    record {
      here = passes_there (occurs moments c.args.at) (event + 1) c.next-from.result more;
      done = walk_goes events c.args.at c.args.step c.args.settled c.args.next event c.loop-from.events.items c.index.result.now c.after_phase.result c.next-from.result on done (omega (arith, within, long)) c.index.ensures c.after_phase.ensures more;
    }
