use Rattle.std.proofs.Common.{◌≡◌, ◌∙◌, ◌++◌, ap, [], get_or, true, length}
use Rattle.bus_semantics.specs.Common.{and_parts, plan_of, groups_at, same_numbers}
use Rattle.std.specs.Prelude.{nat_lt}
use Rattle.bus_laws.proofs.Bundling.{bundle_lists, same_lists}
use Rattle.object_kinds.proofs.Lists.{at_index}
use Rattle.bundle_objects.proofs.making.numbers_of.Goals as goal

pub returns : goal.returns
returns c =
    let p = plan_of c.args.p.now in
    let b = c.args.bundle in
    let gs = c.index-items-bundle.result in
    let there = at_index c.args.p.now.bundles c.items.result.now b gs c.items.ensures c.index-items-bundle.is c.requires.within in
    let listed : gs ≡ groups_at p b = same_lists gs (groups_at p b) (and_parts (same_numbers gs (groups_at p b)) (nat_lt 0 (length gs)) (bundle_lists p c.requires.bundles b gs there)).0 in
    c.in_ok-extend_from_slice.ensures.items ∙ ap (λ xs. xs ++ c.items-2.result.now) c.new-numbers.ensures.items ∙ c.items-2.ensures ∙ listed
