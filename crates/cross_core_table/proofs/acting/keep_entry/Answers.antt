use Rattle.std.proofs.Common.{◌≡◌, ◌-◌, ◌++◌, ◌∷◌, [], sym, ◌∙◌, ap, subst, Some}
use Rattle.bus_semantics.specs.declared.entries.Stamped.{Stamped}
use Rattle.bus_semantics.specs.Common.{touched_by}
use Rattle.cross_core_table.specs.Logs.{plan_in}
use Rattle.cross_core_table.specs.Places.{IsToKeep}
use Rattle.cross_core_table.specs.Plays.{Sat, making, letting_go, as_stamped}
use Rattle.cross_core_table.proofs.Acts.{leads_touch, is_kept, is_last, last_set, last_at}
use Rattle.cross_core_table.proofs.acting.keep_entry.Goals as goal

pub stamp_on-stamp-requires-clause-touching : goal.stamp_on-stamp-requires-clause-touching
stamp_on-stamp-requires-clause-touching c =
    let keeps = c.requires.keeps in
    let at = last_at keeps.0 _ c.len-at.result keeps.1 (c.len-at.ensures ∙ c.args.seat.now.made.ok.0) keeps.2 in
    let same = is_last keeps.0 _ (c.len-at.result - 1) keeps.1 c.index_mut-last.result.now at keeps.2 c.index_mut-last.ensures.value in
    subst (λ (s : Stamped). touched_by (plan_in c.args.top.now.key) (record { entry = s.entry; event = s.event }) ≡ Some c.args.object) (sym same) (leads_touch _ _ _ _ _ keeps.3.leads)

pub unlock-requires-clause-holds : goal.unlock-requires-clause-holds
unlock-requires-clause-holds c =
    let keeps = c.requires.keeps in
    let s = c.index_mut-last.result.now in
    let at = last_at keeps.0 _ c.len-at.result keeps.1 (c.len-at.ensures ∙ c.args.seat.now.made.ok.0) keeps.2 in
    let same = is_last keeps.0 _ (c.len-at.result - 1) keeps.1 s at keeps.2 c.index_mut-last.ensures.value in
    is_kept _ _ _ _ s.entry s.event c.stamp_on-stamp.result c.requires.opening (subst (λ (x : Stamped). IsToKeep c.args.top.now.key c.args.seat.now.place.me c.args.object x.entry x.event) (sym same) keeps.3) c.stamp_on-stamp.ensures.stamped

pub returns-clause-seat : goal.returns-clause-seat
returns-clause-seat c = λ before last lies.
    let at = last_at before _ c.len-at.result last (c.len-at.ensures ∙ c.args.seat.now.made.ok.0) lies in
    let same = is_last before _ (c.len-at.result - 1) last c.index_mut-last.result.now at lies c.index_mut-last.ensures.value in
    c.unlock.ensures.idle
    ∙ ap (λ (m : Sat). (letting_go m.0, [])) c.stamp_on-stamp.ensures.stamped
    ∙ ap (λ (x : Stamped). (making (letting_go c.args.seat.now.place.me.0) (as_stamped c.stamp_on-stamp.result x.entry x.event), [])) same

pub returns-clause-made : goal.returns-clause-made
returns-clause-made c = λ before last lies.
    let at = last_at before _ c.len-at.result last (c.len-at.ensures ∙ c.args.seat.now.made.ok.0) lies in
    let same = is_last before _ (c.len-at.result - 1) last c.index_mut-last.result.now at lies c.index_mut-last.ensures.value in
    last_set before _ (c.len-at.result - 1) last _ at lies ∙ ap (λ (x : Stamped). before ++ as_stamped c.stamp_on-stamp.result x.entry x.event ∷ []) same
