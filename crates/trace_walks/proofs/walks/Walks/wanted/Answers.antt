use Rattle.std.proofs.Common.{◌≡◌, ◌∙◌, sym, ap, Some}
use Rattle.std.specs.Option.{option_map}
use Rattle.trace_walks.specs.Standing.{walk_of}
use Rattle.trace_walks.proofs.Following.{walk_stands}
use Rattle.trace_walks.proofs.walks.Walks.wanted.Goals as goal

pub returns-in-Some : goal.returns-in-Some
returns-in-Some c = λ p h w bodies fit stands is.
    let k = c.args.key in
    let there : walk_of c.args.self.now k ≡ Some c.in-Some.walk.now = sym c.walk.ensures ∙ ap (option_map (λ walk. walk.now)) c.in-Some.is in
    c.wanted.ensures p k h w bodies fit (walk_stands c.args.t.now p h c.args.self.now stands k c.in-Some.walk.now fit there) is

pub returns-in-None : goal.returns-in-None
returns-in-None c = λ p h w bodies fit stands is. absurd (cc is)
