use Rattle.std.proofs.Common.{◌≡◌, ◌⊎◌, ℕ, true, false, subst, inl, inr}
use Rattle.std.specs.List.{Contains}
use Rattle.data_objects.specs.Flags.{IsOfClear}
use Rattle.data_objects.specs.Kept.{GroupState, may_start}
use Rattle.data_objects.proofs.Telling.{state, came, made}
use Rattle.data_objects.proofs.group.Group.publish_and_add.Goals as goal

pub returns-clause-told : goal.returns-clause-told
returns-clause-told c =
    let inside = c.self.inside in
    subst (λ (old : GroupState). (event : ℕ) → may_start old.kept event ≡ false → may_start (state inside.events.items c.publish_and_add.new.self inside.woken.items).kept event ≡ true → Contains c.publish_and_add.new.woken.items event) c.self.view_is
    (came inside.events.items c.as_slice.result.now inside.unqueued c.publish_and_add.new.self c.args.value.now c.publish_and_add.new.woken.items c.as_slice.ensures.value c.publish_and_add.ensures.kept c.publish_and_add.ensures.woken)

pub returns-clause-only : goal.returns-clause-only
returns-clause-only c = λ event among. by_case event (c.publish_and_add.ensures.only event among)
  where
    by_case : (event : ℕ) → Contains c.args.woken.now.items event ⊎ IsOfClear c.self.inside.unqueued.due c.as_slice.result.now event
        → Contains c.args.woken.now.items event ⊎ ((may_start c.args.self.now.kept event ≡ false) × (may_start (state c.self.inside.events.items c.publish_and_add.new.self c.self.inside.woken.items).kept event ≡ true))
    by_case event (inl before) = inl before
    by_case event (inr of) =
        inr (subst (λ (old : GroupState). (may_start old.kept event ≡ false) × (may_start (state c.self.inside.events.items c.publish_and_add.new.self c.self.inside.woken.items).kept event ≡ true)) c.self.view_is
        (made c.self.inside.events.items c.as_slice.result.now c.self.inside.unqueued c.publish_and_add.new.self c.args.value.now c.self.invariant.0 c.as_slice.ensures.value c.publish_and_add.ensures.kept event of))
