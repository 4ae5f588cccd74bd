use Rattle.std.proofs.Common.{◌∙◌, ◌↔◌, List, Some, refl, sym, subst}
use Rattle.composition_tables.specs.declared.tree.PortEnd.{PortEnd}
use Rattle.end_search.specs.Gates.{gate_ends, outer_ends}
use Rattle.composition_flatten.specs.Links.{IsOuterLink}
use Rattle.description_types.specs.Members.{Among}
use Rattle.composition_tables.proofs.Growth.{grown_none}
use Rattle.composition_flatten.proofs.Wholes.{outer_grown, outer_none}
use Rattle.composition_flatten.proofs.whole.add_outer.Goals as goal

pub returns-in_ok-is_full-in-Some-clause-grown : goal.returns-in_ok-is_full-in-Some-clause-grown
returns-in_ok-is_full-in-Some-clause-grown c = outer_grown c.args.tree.now.d.now c.args.port c.kind_of-kind.result (Some c.in-Some.interface) (outer_ends (Some c.in-Some.interface) c.args.port) (outer_ends (Some c.in-Some.interface) c.args.port)
    (gate_ends c.args.tree.now.d.now c.root_gate-inner.result) (gate_ends c.args.tree.now.d.now c.root_gate-inner.result) c.args.links.now.list.items c.add_between.new.links.list.items c.in_ok-is_full-in-Some.is_full
    c.kind_of-kind.ensures (sym c.in-Some.is ∙ c.interface_of.ensures) refl refl refl
    (λ x. subst (λ (l : List PortEnd). Among x (gate_ends c.args.tree.now.d.now c.root_gate-inner.result) ↔ Among x l) c.root_gate-inner.ensures.ends ((λ h. h), (λ h. h))) c.in_ok-is_full-in-Some.ensures.grown

pub returns-in-None-clause-grown : goal.returns-in-None-clause-grown
returns-in-None-clause-grown c = grown_none (IsOuterLink c.args.tree.now.d.now c.args.port) c.args.links.now.list.items (λ x. outer_none c.args.tree.now.d.now c.args.port x (sym c.interface_of.ensures ∙ c.in-None.is))

pub add_between-requires-clause-matched : goal.add_between-requires-clause-matched
add_between-requires-clause-matched c = c.begin.ensures _
