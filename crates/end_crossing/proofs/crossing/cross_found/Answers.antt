use Rattle.std.proofs.Common.{inl, inr, sym, subst}
use Rattle.end_search.specs.Gates.{gate_ends}
use Rattle.description_types.specs.Members.{Among}
use Rattle.end_crossing.proofs.Parting.{pairs_part, cross_full, cross_part, cross_whole}
use Rattle.end_crossing.proofs.crossing.cross_found.Goals as goal

pub cross-requires-clause-pairs : goal.cross-requires-clause-pairs
cross-requires-clause-pairs c = pairs_part c.args.d.now (gate_ends c.args.d.now c.args.provided) (gate_ends c.args.d.now c.args.required) c.args.pairs.now c.as_slice.result.now c.as_slice-2.result.now
    (λ x a. c.requires.first.sound x (subst (Among x) c.as_slice.ensures.keys a)) (λ x a. c.requires.second.sound x (subst (Among x) c.as_slice-2.ensures.keys a)) c.requires.pairs

pub returns-then-is_full-clause-grown : goal.returns-then-is_full-clause-grown
returns-then-is_full-clause-grown c = cross_full c.args.d.now (gate_ends c.args.d.now c.args.provided) (gate_ends c.args.d.now c.args.required) c.as_slice.result.now c.as_slice-2.result.now
    (λ x a. c.requires.first.sound x (subst (Among x) c.as_slice.ensures.keys a)) (λ x a. c.requires.second.sound x (subst (Among x) c.as_slice-2.ensures.keys a))
    c.args.links.now.list.items c.cross.new.links.list.items c.in_ok-is_full.is_full c.if-is_full.true c.in_ok-is_full.ensures.grown

pub returns-then-first-clause-part : goal.returns-then-first-clause-part
returns-then-first-clause-part c = cross_part c.args.d.now (gate_ends c.args.d.now c.args.provided) (gate_ends c.args.d.now c.args.required) c.as_slice.result.now c.as_slice-2.result.now
    (λ x a. c.requires.first.sound x (subst (Among x) c.as_slice.ensures.keys a)) (λ x a. c.requires.second.sound x (subst (Among x) c.as_slice-2.ensures.keys a))
    c.args.links.now.list.items c.cross.new.links.list.items c.in_ok-is_full.is_full c.in_ok-is_full.ensures.grown

pub returns-then-first-clause-cut : goal.returns-then-first-clause-cut
returns-then-first-clause-cut c = inl c.if-first.true

pub returns-then-second-clause-part : goal.returns-then-second-clause-part
returns-then-second-clause-part c = cross_part c.args.d.now (gate_ends c.args.d.now c.args.provided) (gate_ends c.args.d.now c.args.required) c.as_slice.result.now c.as_slice-2.result.now
    (λ x a. c.requires.first.sound x (subst (Among x) c.as_slice.ensures.keys a)) (λ x a. c.requires.second.sound x (subst (Among x) c.as_slice-2.ensures.keys a))
    c.args.links.now.list.items c.cross.new.links.list.items c.in_ok-is_full.is_full c.in_ok-is_full.ensures.grown

pub returns-then-second-clause-cut : goal.returns-then-second-clause-cut
returns-then-second-clause-cut c = inr c.if-second.true

pub returns-clause-grown : goal.returns-clause-grown
returns-clause-grown c = cross_whole c.args.d.now (gate_ends c.args.d.now c.args.provided) (gate_ends c.args.d.now c.args.required) c.as_slice.result.now c.as_slice-2.result.now
    (λ x a. c.requires.first.sound x (subst (Among x) c.as_slice.ensures.keys a)) (λ x a. c.requires.second.sound x (subst (Among x) c.as_slice-2.ensures.keys a))
    c.args.links.now.list.items c.cross.new.links.list.items c.in_ok-is_full.is_full c.args.pairs.now
    (λ x a r h. subst (Among x) (sym c.as_slice.ensures.keys) (c.requires.first.whole c.if-first.false x a r h))
    (λ x a p h. subst (Among x) (sym c.as_slice-2.ensures.keys) (c.requires.second.whole c.if-second.false x a p h))
    c.requires.pairs c.if-is_full.false c.in_ok-is_full.ensures.grown
