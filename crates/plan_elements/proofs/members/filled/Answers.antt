use Rattle.std.proofs.Common.{[], ap, arith, get_or, length, map, replicate, ◌∙◌}
use Rattle.std.proofs.lemmas.List.{get_or_default, take_all}
use Rattle.plan_definitions.specs.ElementGroups.{all_members}
use Rattle.plan_elements.specs.Lists.{put_in}
use Rattle.plan_elements.proofs.Filling.{none_yet, one_more}
use Rattle.plan_elements.proofs.members.filled.Goals as goal

pub loop-element-preserved : goal.loop-element-preserved
loop-element-preserved c = one_more c.args.count c.args.numbers.now c.loop-element.element (get_or c.args.numbers.now c.loop-element.element 0) _ _ c.loop-element-test.true
    (get_or_default c.args.numbers.now c.loop-element.element 0 (get_or c.args.numbers.now c.loop-element.element 0) c.loop-element-test.true)
    (c.in_ok-put.ensures ∙ ap (λ n. put_in (get_or c.args.numbers.now c.loop-element.element 0) n (map (λ v. v.items) c.loop-element.lists.items)) c.position.ensures)
    c.loop-element.invariant

pub loop-element-init : goal.loop-element-init
loop-element-init c = c.in_ok-lists.ensures ∙ ap (λ n. replicate n []) (ap length c.as_slice.ensures.value ∙ c.in_ok-sizes.ensures) ∙ none_yet c.args.count

pub returns : goal.returns
returns c = c.loop-element.invariant ∙ ap (all_members c.args.count) (take_all c.loop-element.element c.args.numbers.now c.loop-element-test.false)

pub position-requires : goal.position-requires
position-requires c = omega (arith, c.loop-element-test.true, c.requires)
