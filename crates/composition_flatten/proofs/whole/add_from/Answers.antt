use Rattle.std.proofs.Common.{◌≡◌}
use Rattle.composition_tables.specs.declared.links.Link.{Link}
use Rattle.composition_flatten.specs.Links.{link_from}
use Rattle.composition_tables.proofs.Growth.{grown_more, grown_full, grown_all}
use Rattle.composition_flatten.proofs.Assembling.{no_link}
use Rattle.composition_flatten.proofs.whole.add_from.Goals as goal

pub returns-then-branch : goal.returns-then-branch
returns-then-branch c = grown_full (λ (y x : Link). x ≡ link_from c.args.first y) c.args.own.now c.loop-link.link-index no_link c.args.links.now.list.items c.loop-link.links.list.items c.add_one_from.new.links.list.items c.in_ok-add_one_from.field-0
    c.loop-link-test.true c.loop-link.invariant c.in_ok-add_one_from.ensures c.if-branch.true

pub loop-link-preserved : goal.loop-link-preserved
loop-link-preserved c = grown_more (λ (y x : Link). x ≡ link_from c.args.first y) c.args.own.now c.loop-link.link-index no_link c.args.links.now.list.items c.loop-link.links.list.items c.add_one_from.new.links.list.items c.in_ok-add_one_from.field-0
    c.loop-link-test.true c.loop-link.invariant c.in_ok-add_one_from.ensures c.if-branch.false

pub returns : goal.returns
returns c = grown_all (λ (y x : Link). x ≡ link_from c.args.first y) c.args.own.now c.loop-link.link-index c.args.links.now.list.items c.loop-link.links.list.items c.loop-link-test.false c.loop-link.invariant
