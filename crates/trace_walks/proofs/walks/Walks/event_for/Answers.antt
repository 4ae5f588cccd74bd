use Rattle.std.proofs.Common.{◌≡◌, ◌∙◌, sym, ap, true, Some}
use Rattle.bus_semantics.specs.Common.{option_map, plan_of, needs_event}
use Rattle.trace_walks.specs.Standing.{walk_of}
use Rattle.trace_walks.proofs.Following.{key_of_entry, event_is, no_walk}
use Rattle.trace_walks.proofs.walks.Walks.event_for.Goals as goal

pub returns-in-Some : goal.returns-in-Some
returns-in-Some c = λ t h stands running.
    let p = plan_of c.args.p.now in
    let e = c.args.entry.now in
    let k = c.in-Act.key in
    let w = c.in-Some.walk.now in
    let needs : needs_event e.deed ≡ true = sym c.needs_event.ensures ∙ c.if-not-needs_event.false in
    let there : walk_of c.args.self.now k ≡ Some w = sym c.walk.ensures ∙ ap (option_map (λ walk. walk.now)) c.in-Some.is in
    c.event.ensures ∙ event_is t p h c.args.self.now stands e k w c.in-Act.is c.requires.fits there needs (running needs k c.in-Act.is)

pub returns-in-None : goal.returns-in-None
returns-in-None c = λ t h stands running.
    let p = plan_of c.args.p.now in
    let k = c.in-Act.key in
    no_walk t p h c.args.self.now stands k (key_of_entry p k c.args.entry.now c.in-Act.is c.requires.fits) (sym c.walk.ensures ∙ ap (option_map (λ walk. walk.now)) c.in-None.is)
