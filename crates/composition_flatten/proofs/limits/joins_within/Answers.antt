use Rattle.std.proofs.Common.{◌<◌, ◌≤◌, ◌∙◌, subst}
use Rattle.composition_flatten.specs.Links.{IsLink}
use Rattle.composition_flatten.proofs.Limiting.{past_full, past_long, are_joins}
use Rattle.composition_tables.proofs.Growth.{grown_ordered}
use Rattle.composition_flatten.proofs.limits.joins_within.Goals as goal

pub returns-then-is_full-clause-none : goal.returns-then-is_full-clause-none
returns-then-is_full-clause-none c = past_full c.args.tree.now.d.now c.requires.counts c.no_links-links.result.list.items c.add_links.new.links.list.items c.in_ok-is_full.is_full c.no_links-links.ensures c.in_ok-is_full.ensures c.if-is_full.true

pub returns-clause-some : goal.returns-clause-some
returns-clause-some c = are_joins c.args.tree.now.d.now c.requires.counts c.no_links-links.result.list.items c.put_in_order.new.links.list.items c.as_slice.result.now c.in_ok-joins.joins.items c.in_ok-is_full.is_full c.no_links-links.ensures
    (grown_ordered (IsLink c.args.tree.now.d.now) c.no_links-links.result.list.items c.add_links.new.links.list.items c.put_in_order.new.links.list.items c.in_ok-is_full.is_full c.in_ok-put_in_order.ensures.members c.in_ok-is_full.ensures)
    c.if-is_full.false c.in_ok-put_in_order.ensures.in_order (subst (λ n. n ≤ 65536) (c.len.ensures ∙ c.put_in_order.new.links.list.ok.0) c.if-len-gt-LINK_LIMIT.false) c.as_slice.ensures.value c.in_ok-joins.ensures

pub returns-then-len-gt-LINK_LIMIT-clause-none : goal.returns-then-len-gt-LINK_LIMIT-clause-none
returns-then-len-gt-LINK_LIMIT-clause-none c = past_long c.args.tree.now.d.now c.requires.counts c.no_links-links.result.list.items c.put_in_order.new.links.list.items c.in_ok-is_full.is_full c.no_links-links.ensures
    (grown_ordered (IsLink c.args.tree.now.d.now) c.no_links-links.result.list.items c.add_links.new.links.list.items c.put_in_order.new.links.list.items c.in_ok-is_full.is_full c.in_ok-put_in_order.ensures.members c.in_ok-is_full.ensures)
    c.in_ok-put_in_order.ensures.in_order (subst (λ n. 65536 < n) (c.len.ensures ∙ c.put_in_order.new.links.list.ok.0) c.if-len-gt-LINK_LIMIT.true)
