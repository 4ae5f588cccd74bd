use Rattle.std.proofs.Common.{refl, sym, ◌∙◌, ap, subst, Some}
use Rattle.bus_semantics.specs.declared.entries.Deed.TheVariants as deed
use Rattle.bus_semantics.specs.declared.entries.Entry.{Entry}
use Rattle.bus_semantics.specs.Wanted.{to_invalidate}
use Rattle.data_objects.specs.KeptValues as data_kept
use Rattle.object_kinds.specs.Common.{place, is_pending}
use Rattle.data_objects.specs.Acting.{Leads}
use Rattle.data_objects.proofs.Telling.{state, none_tells}
use Rattle.data_objects.proofs.group.Group.invalidate.Goals as goal

pub returns : goal.returns
returns c = λ p group.
    let inside = c.self.inside in
    let events = inside.events.items in
    let new = state events c.invalidate.new.self inside.woken.items in
    let entry : Entry = record { actor = c.args.who.now; deed = deed.Invalidate c.args.elem } in
    subst (λ old. Leads p group c.args.who.now (to_invalidate c.args.elem) old new entry) c.self.view_is (record {
      actor = refl;
      wish = λ event. refl;
      bare = refl;
      leads = ap (λ k. Some k) (sym c.invalidate.ensures);
      events = refl;
      told = none_tells (state events inside.unqueued inside.woken.items) new entry.deed refl refl (λ event off. ap (λ (z : data_kept.Kept). is_pending z.due (place event events)) c.invalidate.ensures ∙ off);
    })
