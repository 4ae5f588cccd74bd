use Rattle.std.proofs.Common.{◌∙◌, option_map, sym, ap}
use Rattle.serde_json.specs.View.{view, members_view}
use Rattle.description_shapes.specs.Forms.{form_of}
use Rattle.description_shapes.specs.Keys.{key_of}
use Rattle.description_shapes.specs.Spots.{inside, inside_part}
use Rattle.description_shapes.specs.Trails.{spot_of}
use Rattle.description_shapes.specs.Visits.{members_visits, part_of}
use Rattle.description_shapes.proofs.Calculating.{none_at_key}
use Rattle.description_shapes.proofs.Members.{member_found}
use Rattle.description_shapes.proofs.Walks.{key_broken, key_unbroken, part_broken, part_unbroken, spot_of_part, spot_of_member, value_found, none_found, same_found}
use Rattle.description_shapes.proofs.walk.+walk.Goals as goal

pub first_at_key-returns-then-skips : goal.first_at_key-returns-then-skips
first_at_key-returns-then-skips g t c =
    none_at_key (g.R.Rule.breaks c.args.rule.now) (key_of c.args.key.now) (inside (spot_of c.args.trail.now) c.args.kind (view c.args.owner.now)) (members_view c.args.members.now.entries)
    (c.skips.ensures c.if-skips.true)

pub first_at_key-returns-in-Some : goal.first_at_key-returns-in-Some
first_at_key-returns-in-Some g t c =
    let found = member_found c.get.result c.args.key.now.name.now c.args.members.now.entries c.get.ensures.value in
    let value = sym (ap (option_map (λ x. view x.now)) c.in-Some.is) ∙ found in
    same_found c.first_fault.result _ _
    (value_found (g.R.Rule.breaks c.args.rule.now) (key_of c.args.key.now) (inside (spot_of c.args.trail.now) c.args.kind (view c.args.owner.now)) (members_view c.args.members.now.entries) (view c.in-Some.value.now) _
    value (spot_of_member c.args.trail c.args.owner c.args.kind c.args.key.now.name))
    c.first_fault.ensures

pub first_at_key-returns-in-None : goal.first_at_key-returns-in-None
first_at_key-returns-in-None g t c =
    let found = member_found c.get.result c.args.key.now.name.now c.args.members.now.entries c.get.ensures.value in
    let nothing = sym (ap (option_map (λ x. view x.now)) c.in-None.is) ∙ found in
    none_found (g.R.Rule.breaks c.args.rule.now) (key_of c.args.key.now) (inside (spot_of c.args.trail.now) c.args.kind (view c.args.owner.now)) (members_view c.args.members.now.entries) nothing

pub first_in_members-returns-in-Some : goal.first_in_members-returns-in-Some
first_in_members-returns-in-Some g t c =
    key_broken (g.R.Rule.breaks c.args.rule.now) c.keys_of-key-items.result.now (inside (spot_of c.args.trail.now) c.args.kind (view c.args.owner.now)) (members_visits (members_view c.args.members.now.entries))
    c.loop-key.key-index _ _ c.in_ok-place.field-0 c.in-Some.place c.loop-key-test.true c.loop-key.invariant c.in_ok-place.ensures c.in-Some.is

pub first_in_members-loop-key-preserved : goal.first_in_members-loop-key-preserved
first_in_members-loop-key-preserved g t c =
    key_unbroken (g.R.Rule.breaks c.args.rule.now) c.keys_of-key-items.result.now (inside (spot_of c.args.trail.now) c.args.kind (view c.args.owner.now)) (members_visits (members_view c.args.members.now.entries))
    c.loop-key.key-index _ _ c.in_ok-place.field-0 c.loop-key-test.true c.loop-key.invariant c.in_ok-place.ensures c.in-None.is

pub first_in_parts-returns-in-Some : goal.first_in_parts-returns-in-Some
first_in_parts-returns-in-Some g t c =
    part_broken (g.R.Rule.breaks c.args.rule.now) c.args.parts.now (part_of (form_of c.args.kind) c.args.kind) (inside_part (spot_of c.args.trail.now) c.args.kind (view c.args.owner.now))
    c.loop-index.index c.index-parts-index.result c.at.result _ _ c.in_ok-place.field-0 c.in-Some.place c.loop-index-test.true c.index-parts-index.is (c.at.ensures ∙ c.part_kinds-kinds.ensures c.loop-index.index)
    (spot_of_part c.args.trail c.args.owner c.args.kind c.loop-index.index) c.loop-index.invariant c.in_ok-place.ensures c.in-Some.is

pub first_in_parts-loop-index-preserved : goal.first_in_parts-loop-index-preserved
first_in_parts-loop-index-preserved g t c =
    part_unbroken (g.R.Rule.breaks c.args.rule.now) c.args.parts.now (part_of (form_of c.args.kind) c.args.kind) (inside_part (spot_of c.args.trail.now) c.args.kind (view c.args.owner.now))
    c.loop-index.index c.index-parts-index.result c.at.result _ _ c.in_ok-place.field-0 c.loop-index-test.true c.index-parts-index.is (c.at.ensures ∙ c.part_kinds-kinds.ensures c.loop-index.index)
    (spot_of_part c.args.trail c.args.owner c.args.kind c.loop-index.index) c.loop-index.invariant c.in_ok-place.ensures c.in-None.is
