use Rattle.std.proofs.Common.{◌≡◌, sym, refl, Some}
use Rattle.bus_semantics.specs.Common.{plan_of, runnable_of_event, plain_key}
use Rattle.bus_laws.proofs.Thinning.{option_test}
use Rattle.trace_objects.proofs.Mapped.{own_key}
use Rattle.trace_objects.proofs.Pausing.{start_fits, start_begins, started}
use Rattle.trace_objects.proofs.resting.start_comes.Goals as goal

pub comes-requires-clause-fits : goal.comes-requires-clause-fits
comes-requires-clause-fits c =
    let p = plan_of c.args.p.now in
    let r = c.in-Some.runnable in
    let own : runnable_of_event p c.args.event ≡ Some r = sym c.in-Some.ensures in
    let sound = c.requires.sound in
    start_fits p c.args.event (plain_key r) (own_key p sound.0 sound.1 c.args.event r c.requires.mapped own) own

pub comes-requires-clause-own : goal.comes-requires-clause-own
comes-requires-clause-own c =
    let p = plan_of c.args.p.now in
    let r = c.in-Some.runnable in
    let own : runnable_of_event p c.args.event ≡ Some r = sym c.in-Some.ensures in
    option_test (runnable_of_event p c.args.event) (Some r) own

pub returns-clause-held : goal.returns-clause-held
returns-clause-held c = λ no i o touch is. (c.comes.ensures.held no i o touch is).flag c.in-Some.runnable c.args.event refl refl

pub returns-clause-starts : goal.returns-clause-starts
returns-clause-starts c = λ m h paused.
    let p = plan_of c.args.p.now in
    let r = c.in-Some.runnable in
    let own : runnable_of_event p c.args.event ≡ Some r = sym c.in-Some.ensures in
    started p h c.args.event r own c.comes.result
    (c.comes.ensures.comes m h paused.sound paused.legal paused.stand (start_begins p m h c.args.objects.now.items paused (λ k running. c.running_activations_go_on.ensures p m h k paused.sound paused.legal running) c.args.event r own))
