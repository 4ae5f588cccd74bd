use Rattle.std.proofs.Common.{◌≡◌, ℕ}
use Rattle.composition_tables.specs.declared.links.Link.{Link}
use Rattle.end_crossing.specs.PortLinks.{link_of}
use Rattle.composition_tables.proofs.Growth.{grown_more, grown_full, grown_all}
use Rattle.end_crossing.proofs.cross.add_items.Goals as goal

pub returns-then-branch : goal.returns-then-branch
returns-then-branch c = grown_full (λ (items : ℕ × ℕ) (x : Link). x ≡ link_of c.args.provided c.args.required items) c.args.pairs.now c.loop-pair.pair-index (0, 0) c.args.links.now.list.items c.loop-pair.links.list.items c.add_item.new.links.list.items c.in_ok-add_item.field-0
    c.loop-pair-test.true c.loop-pair.invariant c.in_ok-add_item.ensures c.if-branch.true

pub loop-pair-preserved : goal.loop-pair-preserved
loop-pair-preserved c = grown_more (λ (items : ℕ × ℕ) (x : Link). x ≡ link_of c.args.provided c.args.required items) c.args.pairs.now c.loop-pair.pair-index (0, 0) c.args.links.now.list.items c.loop-pair.links.list.items c.add_item.new.links.list.items c.in_ok-add_item.field-0
    c.loop-pair-test.true c.loop-pair.invariant c.in_ok-add_item.ensures c.if-branch.false

pub returns : goal.returns
returns c = grown_all (λ (items : ℕ × ℕ) (x : Link). x ≡ link_of c.args.provided c.args.required items) c.args.pairs.now c.loop-pair.pair-index c.args.links.now.list.items c.loop-pair.links.list.items c.loop-pair-test.false c.loop-pair.invariant
