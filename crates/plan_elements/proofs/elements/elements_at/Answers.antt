use Rattle.std.proofs.Common.{None, ap, false, get_or, map}
use Rattle.plan_definitions.specs.Common.{elem_seen, element_of, group_of, site}
use Rattle.plan_definitions.specs.declared.site.Site.{Site}
use Rattle.plan_definitions.specs.declared.site.SiteKind.TheVariants.{Element}
use Rattle.plan_elements.proofs.Mapped.{mapped_all, mapped_at, mapped_more}
use Rattle.plan_elements.specs.Ends.{joined_at}
use Rattle.plan_elements.proofs.elements.elements_at.Goals as goal

abbrev no_site : Site
no_site = site None None 0 (Element false)

pub loop-number-preserved : goal.loop-number-preserved
loop-number-preserved c =
    let d = c.args.source.now.d.now in
    let f = c.args.source.now.f.now in
    let i = c.loop-number.number in
    let s : Site = get_or c.args.sites.now i no_site in
    mapped_more (λ s. element_of d f (group_of d f s) s) c.args.sites.now i no_site (map elem_seen c.loop-number.list.items) (map elem_seen c.push_element.new.list.items)
    (element_of d f (get_or c.args.groups.now i 0) s) c.loop-number-test.true c.in_ok-push_element.ensures
    (ap (λ g. element_of d f g s) (mapped_at (group_of d f) c.args.sites.now i no_site 0 c.args.groups.now c.loop-number-test.true c.requires.groups))
    c.loop-number.invariant

pub push_element-requires : goal.push_element-requires
push_element-requires c = mapped_at (joined_at c.args.source.now.f.now.joins) c.args.sites.now c.loop-number.number no_site false c.args.joined.now c.loop-number-test.true c.requires.joined

pub returns : goal.returns
returns c =
    let d = c.args.source.now.d.now in
    let f = c.args.source.now.f.now in
    mapped_all (λ s. element_of d f (group_of d f s) s) c.args.sites.now c.loop-number.number (map elem_seen c.loop-number.list.items) c.loop-number-test.false c.loop-number.invariant
