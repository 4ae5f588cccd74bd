use Rattle.end_search.specs.Gates.{gate_ends}
use Rattle.end_crossing.proofs.ByParts.{side_has}
use Rattle.end_crossing.proofs.Parting.{known_all}
use Rattle.end_crossing.proofs.crossing.add_shared.Goals as goal

pub add_known-requires-clause-first : goal.add_known-requires-clause-first
add_known-requires-clause-first c = λ k a. side_has c.args.tree.now.d.now c.args.provided c.complete_firsts.new.side c.in_ok-has_firsts.ensures.side k.0 (c.in_ok-has_firsts.ensures.has c.if-has_firsts.true k a)

pub add_known-requires-clause-second : goal.add_known-requires-clause-second
add_known-requires-clause-second c = λ k a. side_has c.args.tree.now.d.now c.args.required c.complete_seconds.new.side c.in_ok-has_seconds.ensures.side k.1 (c.in_ok-has_seconds.ensures.has c.if-has_seconds.true k a)

pub returns-then-has_seconds-clause-grown : goal.returns-then-has_seconds-clause-grown
returns-then-has_seconds-clause-grown c =
    known_all c.args.tree.now.d.now (gate_ends c.args.tree.now.d.now c.args.provided) (gate_ends c.args.tree.now.d.now c.args.required) c.args.pairs.now
    c.complete_firsts.new.side.groups c.complete_seconds.new.side.groups c.in_ok-has_firsts.ensures.side.sound c.in_ok-has_seconds.ensures.side.sound
    (λ k a x b e. (side_has c.args.tree.now.d.now c.args.provided c.complete_firsts.new.side c.in_ok-has_firsts.ensures.side k.0 (c.in_ok-has_firsts.ensures.has c.if-has_firsts.true k a) x).1 (b, e))
    (λ k a x b e. (side_has c.args.tree.now.d.now c.args.required c.complete_seconds.new.side c.in_ok-has_seconds.ensures.side k.1 (c.in_ok-has_seconds.ensures.has c.if-has_seconds.true k a) x).1 (b, e))
    c.requires.pairs c.args.links.now.list.items c.add_known.new.links.list.items c.in_ok-is_full.is_full c.in_ok-is_full.ensures.grown
