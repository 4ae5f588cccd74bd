use Rattle.std.proofs.Common.{◌∙◌, sym, true≢false}
use Rattle.end_search.proofs.Gating.{at_gate}
use Rattle.end_search.proofs.gates.ends_at.Goals as goal

pub returns-in_ok-found-in-Outer-clause-found : goal.returns-in_ok-found-in-Outer-clause-found
returns-in_ok-found-in-Outer-clause-found c = at_gate c.args.tree.now.d.now c.args.wish.now.wanted c.args.gate _ c.in-Outer.is c.in_ok-found-in-Outer.found (c.in_ok-found-in-Outer.ensures.found c.args.wish.now.wanted)

pub returns-in_ok-found-in-Component-clause-found : goal.returns-in_ok-found-in-Component-clause-found
returns-in_ok-found-in-Component-clause-found c = at_gate c.args.tree.now.d.now c.args.wish.now.wanted c.args.gate _ c.in-Component.is c.in_ok-found-in-Component.found c.in_ok-found-in-Component.ensures.found

pub returns-in_ok-found-in-Composition-clause-found : goal.returns-in_ok-found-in-Composition-clause-found
returns-in_ok-found-in-Composition-clause-found c = at_gate c.args.tree.now.d.now c.args.wish.now.wanted c.args.gate _ c.in-Composition.is c.in_ok-found-in-Composition.found c.in_ok-found-in-Composition.ensures.found

pub returns-in_ok-found-in-Outer-clause-cut : goal.returns-in_ok-found-in-Outer-clause-cut
returns-in_ok-found-in-Outer-clause-cut c = λ is. absurd (true≢false (sym is ∙ c.in_ok-found-in-Outer.ensures.whole))
