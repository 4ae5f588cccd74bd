use Rattle.std.proofs.Common.{◌≡◌, ◌∙◌, sym, ap, Some}
use Rattle.bus_semantics.specs.Common.{option_map, plan_of}
use Rattle.trace_walks.specs.Standing.{walk_of}
use Rattle.trace_walks.proofs.Following.{begins_is, held_is}
use Rattle.trace_walks.proofs.walks.Walks.may_begin.Goals as goal

pub returns-then-not-is_held : goal.returns-then-not-is_held
returns-then-not-is_held c = λ t h fit stands told.
    let p = plan_of c.args.p.now in
    let k = c.args.key in
    let w = c.in-Some.walk.now in
    let there : walk_of c.args.self.now k ≡ Some w = sym c.walk.ensures ∙ ap (option_map (λ walk. walk.now)) c.in-Some.is in
    record {
      may = sym (c.may_start.ensures ∙ begins_is t p h c.args.self.now stands k w c.args.event fit there) ∙ told;
      free = sym (held_is t p h c.args.self.now stands k w fit there) ∙ sym c.is_held.ensures ∙ c.if-not-is_held.true;
    }

pub returns-else-not-is_held : goal.returns-else-not-is_held
returns-else-not-is_held c = λ t h fit stands told. absurd (cc told)

pub returns-in-None : goal.returns-in-None
returns-in-None c = λ t h fit stands told. absurd (cc told)
