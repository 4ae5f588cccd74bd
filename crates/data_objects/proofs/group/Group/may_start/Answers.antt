use Rattle.std.proofs.Common.{◌≡◌, ◌<◌, length, arith, sym, ◌∙◌, ap, Some, None}
use Rattle.object_kinds.specs.Common.{place, is_pending}
use Rattle.object_kinds.proofs.Flags.{flag_is}
use Rattle.object_kinds.proofs.Placing.{place_within}
use Rattle.data_objects.specs.Kept.{GroupState, may_start}
use Rattle.data_objects.proofs.group.Group.may_start.Goals as goal

pub is_due-requires : goal.is_due-requires
is_due-requires c =
    let events = c.self.inside.events.items in
    let there : place c.args.event events ≡ Some c.in-Some.place = ap (place c.args.event) (sym c.as_slice.ensures.value) ∙ sym c.find.ensures ∙ c.in-Some.is in
    let within : c.in-Some.place < length events = place_within c.args.event events c.in-Some.place there in
    let same = c.self.invariant.1 in
    omega arith

pub returns-in-Some : goal.returns-in-Some
returns-in-Some c =
    let inside = c.self.inside in
    let there : place c.args.event inside.events.items ≡ Some c.in-Some.place = ap (place c.args.event) (sym c.as_slice.ensures.value) ∙ sym c.find.ensures ∙ c.in-Some.is in
    sym (flag_is inside.unqueued.due c.in-Some.place c.is_due.result (sym c.is_due.ensures)) ∙ ap (is_pending inside.unqueued.due) (sym there) ∙ ap (λ (s : GroupState). may_start s.kept c.args.event) c.self.view_is

pub returns-in-None : goal.returns-in-None
returns-in-None c =
    let inside = c.self.inside in
    let none : place c.args.event inside.events.items ≡ None = ap (place c.args.event) (sym c.as_slice.ensures.value) ∙ sym c.find.ensures ∙ c.in-None.is in
    ap (is_pending inside.unqueued.due) (sym none) ∙ ap (λ (s : GroupState). may_start s.kept c.args.event) c.self.view_is
