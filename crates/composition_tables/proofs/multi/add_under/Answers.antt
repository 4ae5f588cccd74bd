use Rattle.std.proofs.Common.{◌≡◌, rules}
use Rattle.composition_tables.specs.Multi.{under}
use Rattle.indexmap.specs.IndexMap.{get}
use Rattle.composition_tables.proofs.Adding.{added}
use Rattle.composition_tables.proofs.multi.add_under.Goals.{in-Some, in-None}
use Rattle.composition_tables.proofs.multi.add_under.Goals as goal

pub returns : goal.returns
returns g c =
    let was : c.match-swap_remove.list.items ≡ under (get g.K.PartialEq.eq c.args.map.now c.args.key) = elim c.match-swap_remove.branch [ in-Some w ↦ search rules | in-None w ↦ search rules ] in
    added g.K.PartialEq.eq g.met.K.Eq.laws c.args.key c.args.value c.args.map.now c.swap_remove.new.self c.insert.new.self c.push.new.self c.match-swap_remove.list.items
    c.swap_remove.ensures.updates c.in_ok-insert.ensures.updates was c.in_ok-push.ensures.items
