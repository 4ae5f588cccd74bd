use Rattle.std.proofs.Common.{subst}
use Rattle.end_search.specs.Gates.{gate_ends}
use Rattle.description_types.specs.Members.{Among}
use Rattle.end_search.proofs.Gating.{outer_below}
use Rattle.end_search.proofs.below.interfaces_below.Goals as goal

pub returns-in_ok-found-in-Outer : goal.returns-in_ok-found-in-Outer
returns-in_ok-found-in-Outer c = outer_below c.args.tree.now.d.now c.args.gate _ c.in-Outer.interface c.in-Outer.is c.in_ok-found-in-Outer.found.keys c.in_ok-found-in-Outer.ensures

pub returns-in_ok-found-in-Component : goal.returns-in_ok-found-in-Component
returns-in_ok-found-in-Component c = λ x a. c.in_ok-found-in-Component.ensures 0 c.in-Component.field-1 x (subst (λ g. Among x (gate_ends c.args.tree.now.d.now g)) c.in-Component.is a)

pub returns-in_ok-found-in-Composition : goal.returns-in_ok-found-in-Composition
returns-in_ok-found-in-Composition c = λ x a. c.in_ok-found-in-Composition.ensures c.in-Composition.field-0 c.in-Composition.field-2 x (subst (λ g. Among x (gate_ends c.args.tree.now.d.now g)) c.in-Composition.is a)
