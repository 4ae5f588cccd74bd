use Rattle.std.proofs.Common.{◌≡◌, ◌∷◌, [], ◌++◌, ℕ, ◌∙◌, ap, subst}
use Rattle.std.specs.Prelude.{Option, unwrap_or}
use Rattle.atomic_table.specs.Table.{rest}
use Rattle.bus_semantics.specs.declared.entries.Actor.TheVariants.{Env}
use Rattle.bus_semantics.specs.declared.entries.Deed.TheVariants.{Tick}
use Rattle.bus_semantics.specs.declared.entries.Stamped.{Stamped}
use Rattle.bus_semantics.specs.Common.{plan_of, wanted_of, touched}
use Rattle.object_kinds.specs.Common.{acted}
use Rattle.port_objects.specs.Common.{IsAnswer, IsOfPlan}
use Rattle.cross_core_table.specs.Plays.{as_stamped}
use Rattle.cross_core_table.proofs.Acts.{in_hand, is_last, last_set}
use Rattle.cross_core_table.proofs.acting.act_on.Goals as goal

pub returns-clause-filled : goal.returns-clause-filled
returns-clause-filled c = λ held out_is.
    let p = plan_of c.args.p.now in
    let a = c.args.who.now in
    let w = wanted_of c.args.wish.now in
    let before = c.args.seat.now.made.items in
    let e = c.act_in_place.new.out in
    let object = c.act_in_place.new.object in
    let blank : Stamped = record { stamp = 0; entry = record { actor = Env; deed = Tick }; event = c.event_of.result } in
    let s : Stamped = c.index_mut-stamped.result.now in
    let items = c.push_reserved.new.self.items in
    let last = c.len-at.ensures ∙ c.args.seat.now.made.ok.0 in
    let pushed = is_last before items c.len-at.result blank s last c.push_reserved.ensures.items c.index_mut-stamped.ensures.value in
    let same = in_hand c.args.object c.slot_mut-held.result.now held c.args.seat.now.place.me.1 c.slot_mut-held.ensures.value out_is in
    let at : touched p a w ≡ c.args.object = ap (λ o. unwrap_or o 0) c.requires.asked.touching in
    record {
      entry = e;
      object = object;
      made = last_set before items c.len-at.result blank (record s { entry = e }) last c.push_reserved.ensures.items
          ∙ ap (λ (x : Stamped). before ++ record x { entry = e } ∷ []) pushed
          ∙ ap (λ (event : Option ℕ). before ++ as_stamped 0 e event ∷ []) c.event_of.ensures;
      slots = ap (λ l. (c.args.object, object) ∷ rest l) out_is;
      answer = subst (λ n. IsAnswer p n a w held object (acted c.act_in_place.result e)) at (subst (λ h. IsAnswer p (touched p a w) a w h object (acted c.act_in_place.result e)) same c.act_in_place.ensures.lead);
      planned = subst (λ n. IsOfPlan p n object) at c.act_in_place.ensures.planned;
    }
