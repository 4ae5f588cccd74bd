use Rattle.std.proofs.Common.{◌≡◌, refl, sym, ap, subst, Some}
use Rattle.bus_semantics.specs.Common.{words_of, to_write}
use Rattle.bus_semantics.specs.declared.entries.Deed.TheVariants as deed
use Rattle.bus_semantics.specs.declared.entries.Entry.{Entry}
use Rattle.data_objects.specs.Acting.{Leads}
use Rattle.data_objects.proofs.Telling.{state, write_tells}
use Rattle.data_objects.proofs.group.Group.write.Goals as goal

pub returns : goal.returns
returns c = λ p group.
    let inside = c.self.inside in
    let events = inside.events.items in
    let new = state events c.write_and_tell.new.self c.write_and_tell.new.woken.items in
    let entry : Entry = record { actor = c.args.who.now; deed = deed.Write c.args.elem c.args.value.now } in
    let filled : entry ≡ c.fill_write.new.out = λ i. record { actor = sym c.fill_write.ensures.actor i; deed = sym c.fill_write.ensures.deed i } in
    subst (λ e. Leads p group c.args.who.now (to_write c.args.elem (words_of c.args.value.now)) c.args.self.now new e) filled
    (subst (λ old. Leads p group c.args.who.now (to_write c.args.elem (words_of c.args.value.now)) old new entry) c.self.view_is (record {
      actor = refl;
      wish = λ event. refl;
      bare = refl;
      leads = ap (λ k. Some k) (sym c.write_and_tell.ensures.kept);
      events = refl;
      told = write_tells events c.as_slice.result.now inside.unqueued c.write_and_tell.new.self c.args.value.now inside.woken.items c.write_and_tell.new.woken.items c.self.invariant.0 c.as_slice.ensures.value c.write_and_tell.ensures.kept c.write_and_tell.ensures.woken c.write_and_tell.ensures.only entry.deed refl;
    }))
