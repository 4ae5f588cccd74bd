use Rattle.std.proofs.Common.{refl, sym, ap, subst, Some}
use Rattle.bus_semantics.specs.Common.{words_of, to_publish}
use Rattle.bus_semantics.specs.declared.entries.Deed.TheVariants as deed
use Rattle.bus_semantics.specs.declared.entries.Entry.{Entry}
use Rattle.data_objects.specs.Acting.{Leads}
use Rattle.data_objects.proofs.Telling.{state, write_tells}
use Rattle.data_objects.proofs.group.Group.publish.Goals as goal

pub returns : goal.returns
returns c = λ p group.
    let inside = c.self.inside in
    let events = inside.events.items in
    let new = state events c.publish_and_tell.new.self c.publish_and_tell.new.woken.items in
    let entry : Entry = record { actor = c.args.who.now; deed = deed.Publish c.args.elem c.args.value.now } in
    subst (λ old. Leads p group c.args.who.now (to_publish c.args.elem (words_of c.args.value.now)) old new entry) c.self.view_is (record {
      actor = refl;
      wish = λ event. refl;
      bare = refl;
      leads = ap (λ k. Some k) (sym c.publish_and_tell.ensures.kept);
      events = refl;
      told = write_tells events c.as_slice.result.now inside.unqueued c.publish_and_tell.new.self c.args.value.now inside.woken.items c.publish_and_tell.new.woken.items c.self.invariant.0 c.as_slice.ensures.value c.publish_and_tell.ensures.kept c.publish_and_tell.ensures.woken c.publish_and_tell.ensures.only entry.deed refl;
    })
