use Rattle.std.proofs.Common.{◌∙◌, is_none, option_map, sym, ap}
use Rattle.serde_json.specs.View.{view, members_view}
use Rattle.description_shapes.specs.Forms.{form_of}
use Rattle.description_shapes.specs.Keys.{key_of}
use Rattle.description_shapes.specs.Spots.{inside, inside_part}
use Rattle.description_shapes.specs.Trails.{spot_of}
use Rattle.description_shapes.specs.Visits.{members_visits, part_of}
use Rattle.description_shapes.proofs.Calculating.{none_at_key}
use Rattle.description_shapes.proofs.Members.{member_found}
use Rattle.description_shapes.proofs.Walks.{key_judged, key_passed, part_judged, part_passed, spot_of_part, spot_of_member, value_found, none_found}
use Rattle.description_shapes.proofs.walk.+judge.Goals as goal

pub is_unbroken_at_key-returns-then-skips : goal.is_unbroken_at_key-returns-then-skips
is_unbroken_at_key-returns-then-skips g t c =
    ap is_none (none_at_key (g.R.Rule.breaks c.args.rule.now) (key_of c.args.key.now) (inside (spot_of c.args.trail.now) c.args.kind (view c.args.owner.now)) (members_view c.args.members.now.entries)
    (c.skips.ensures c.if-skips.true))

pub is_unbroken_at_key-returns-in-Some : goal.is_unbroken_at_key-returns-in-Some
is_unbroken_at_key-returns-in-Some g t c =
    let found = member_found c.get.result c.args.key.now.name.now c.args.members.now.entries c.get.ensures.value in
    let value = sym (ap (option_map (λ x. view x.now)) c.in-Some.is) ∙ found in
    c.is_unbroken.ensures
    ∙ ap is_none (value_found (g.R.Rule.breaks c.args.rule.now) (key_of c.args.key.now) (inside (spot_of c.args.trail.now) c.args.kind (view c.args.owner.now)) (members_view c.args.members.now.entries) (view c.in-Some.value.now) _
    value (spot_of_member c.args.trail c.args.owner c.args.kind c.args.key.now.name))

pub is_unbroken_at_key-returns-in-None : goal.is_unbroken_at_key-returns-in-None
is_unbroken_at_key-returns-in-None g t c =
    let found = member_found c.get.result c.args.key.now.name.now c.args.members.now.entries c.get.ensures.value in
    let nothing = sym (ap (option_map (λ x. view x.now)) c.in-None.is) ∙ found in
    ap is_none (none_found (g.R.Rule.breaks c.args.rule.now) (key_of c.args.key.now) (inside (spot_of c.args.trail.now) c.args.kind (view c.args.owner.now)) (members_view c.args.members.now.entries) nothing)

pub is_unbroken_in_members-returns-then-not-is_unbroken_at_key : goal.is_unbroken_in_members-returns-then-not-is_unbroken_at_key
is_unbroken_in_members-returns-then-not-is_unbroken_at_key g t c =
    key_judged (g.R.Rule.breaks c.args.rule.now) c.keys_of-key-items.result.now (inside (spot_of c.args.trail.now) c.args.kind (view c.args.owner.now)) (members_visits (members_view c.args.members.now.entries))
    c.loop-key.key-index _ _ c.loop-key-test.true c.loop-key.invariant c.if-not-is_unbroken_at_key.ensures

pub is_unbroken_in_members-loop-key-preserved : goal.is_unbroken_in_members-loop-key-preserved
is_unbroken_in_members-loop-key-preserved g t c =
    key_passed (g.R.Rule.breaks c.args.rule.now) c.keys_of-key-items.result.now (inside (spot_of c.args.trail.now) c.args.kind (view c.args.owner.now)) (members_visits (members_view c.args.members.now.entries))
    c.loop-key.key-index _ _ c.loop-key-test.true c.loop-key.invariant c.if-not-is_unbroken_at_key.ensures

pub is_unbroken_in_parts-returns-then-not-is_unbroken : goal.is_unbroken_in_parts-returns-then-not-is_unbroken
is_unbroken_in_parts-returns-then-not-is_unbroken g t c =
    part_judged (g.R.Rule.breaks c.args.rule.now) c.args.parts.now (part_of (form_of c.args.kind) c.args.kind) (inside_part (spot_of c.args.trail.now) c.args.kind (view c.args.owner.now))
    c.loop-index.index c.index-parts-index.result c.at.result _ _ c.loop-index-test.true c.index-parts-index.is (c.at.ensures ∙ c.part_kinds-kinds.ensures c.loop-index.index)
    (spot_of_part c.args.trail c.args.owner c.args.kind c.loop-index.index) c.loop-index.invariant c.if-not-is_unbroken.ensures

pub is_unbroken_in_parts-loop-index-preserved : goal.is_unbroken_in_parts-loop-index-preserved
is_unbroken_in_parts-loop-index-preserved g t c =
    part_passed (g.R.Rule.breaks c.args.rule.now) c.args.parts.now (part_of (form_of c.args.kind) c.args.kind) (inside_part (spot_of c.args.trail.now) c.args.kind (view c.args.owner.now))
    c.loop-index.index c.index-parts-index.result c.at.result _ _ c.loop-index-test.true c.index-parts-index.is (c.at.ensures ∙ c.part_kinds-kinds.ensures c.loop-index.index)
    (spot_of_part c.args.trail c.args.owner c.args.kind c.loop-index.index) c.loop-index.invariant c.if-not-is_unbroken.ensures
