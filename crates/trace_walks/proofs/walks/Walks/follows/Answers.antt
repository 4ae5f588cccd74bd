use Rattle.std.proofs.Common.{◌≡◌, ◌∙◌, sym, ap, not, Some}
use Rattle.bus_semantics.specs.Common.{option_map, plan_of}
use Rattle.trace_walks.specs.Standing.{walk_of}
use Rattle.trace_walks.proofs.Following.{key_of_entry, follows_free, follows_held, no_walk}
use Rattle.trace_walks.proofs.walks.Walks.follows.Goals as goal

pub returns-then-not-is_held : goal.returns-then-not-is_held
returns-then-not-is_held c = λ h stands.
    let p = plan_of c.args.p.now in
    let k = c.in-Act.key in
    let w = c.in-Some.walk.now in
    let fit = key_of_entry p k c.args.entry.now c.in-Act.is c.requires.fits in
    let there : walk_of c.args.self.now k ≡ Some w = sym c.walk.ensures ∙ ap (option_map (λ walk. walk.now)) c.in-Some.is in
    c.may_come.ensures h c.requires.bodies stands fit there ∙ follows_free c.args.t.now p h c.args.self.now stands c.args.entry.now k w c.in-Act.is fit there (ap not (sym c.is_held.ensures ∙ c.if-not-is_held.true))

pub returns-else-not-is_held : goal.returns-else-not-is_held
returns-else-not-is_held c = λ h stands.
    let p = plan_of c.args.p.now in
    let k = c.in-Act.key in
    let w = c.in-Some.walk.now in
    let fit = key_of_entry p k c.args.entry.now c.in-Act.is c.requires.fits in
    let there : walk_of c.args.self.now k ≡ Some w = sym c.walk.ensures ∙ ap (option_map (λ walk. walk.now)) c.in-Some.is in
    ap not c.if-not-is_held.false ∙ follows_held c.args.t.now p h c.args.self.now stands c.args.entry.now k w c.in-Act.is fit there (ap not (sym c.is_held.ensures ∙ c.if-not-is_held.false))

pub returns-in-None : goal.returns-in-None
returns-in-None c = λ h stands.
    let p = plan_of c.args.p.now in
    let k = c.in-Act.key in
    no_walk c.args.t.now p h c.args.self.now stands k (key_of_entry p k c.args.entry.now c.in-Act.is c.requires.fits) (sym c.walk.ensures ∙ ap (option_map (λ walk. walk.now)) c.in-None.is)
