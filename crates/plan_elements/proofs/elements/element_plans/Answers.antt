use Rattle.std.proofs.Common.{map, sym, ap, ◌∙◌}
use Rattle.plan_definitions.specs.Common.{group_of, leaders, group_number, leader_of, keys_of, elements_of}
use Rattle.plan_elements.proofs.Leading.{grouped}
use Rattle.plan_elements.specs.Ends.{joined_at}
use Rattle.plan_elements.proofs.elements.element_plans.Goals as goal

pub elements_at-requires-clause-groups : goal.elements_at-requires-clause-groups
elements_at-requires-clause-groups c =
    let d = c.args.source.now.d.now in
    let f = c.args.source.now.f.now in
    c.as_slice.ensures.value ∙ c.requires.are_numbers ∙ grouped (group_number (leaders d f)) (leader_of f.joins (keys_of (elements_of d f))) (elements_of d f)
    ∙ ap (map (group_of d f)) (sym (c.as_slice-3.ensures.value ∙ c.args.source.now.listed.elements))

pub elements_at-requires-clause-joined : goal.elements_at-requires-clause-joined
elements_at-requires-clause-joined c =
    c.as_slice-2.ensures.value ∙ c.requires.are_joined ∙ ap (map (joined_at c.args.source.now.f.now.joins)) (sym (c.as_slice-3.ensures.value ∙ c.args.source.now.listed.elements))
