use Rattle.std.proofs.Common.{◌≡◌, ◌<◌, length, sym, ◌∙◌, subst, set}
use Rattle.std.proofs.lemmas.Option.{same_Some, slice_get_within}
use Rattle.core_turn.specs.Awake.{AwakeState}
use Rattle.latches.proofs.Places.{found_at, set_here}
use Rattle.core_runtime.proofs.Wakes.{woken_slot, are_set, up_now}
use Rattle.core_runtime.proofs.callers.rouse_seat.Goals as goal

pub rouse-requires : goal.rouse-requires
rouse-requires c =
    let xs = c.args.awake.now.items in
    let s = c.args.seat.now in
    let a = c.index_mut.result.now in
    let within : s.core < length xs = slice_get_within xs s.core c.requires.there.core c.requires.there.core_is in
    let same : c.requires.there.core ≡ a = same_Some _ _ (sym c.requires.there.core_is ∙ found_at xs s.core a within c.index_mut.ensures.value) in
    record {
      slot = subst (λ (x : AwakeState). s.slot < length x.slots) same c.requires.there.slot;
      waiting = subst (λ (x : AwakeState). length x.waiting ≡ length x.slots) same c.requires.there.even.waiting;
    }

pub returns-clause-woken : goal.returns-clause-woken
returns-clause-woken c =
    let xs = c.args.awake.now.items in
    let s = c.args.seat.now in
    let a = c.index_mut.result.now in
    let within : s.core < length xs = slice_get_within xs s.core c.requires.there.core c.requires.there.core_is in
    are_set xs s.core a c.rouse.new.self (found_at xs s.core a within c.index_mut.ensures.value)
    (woken_slot a c.rouse.new.self s.slot c.rouse.ensures.slots c.rouse.ensures.events c.rouse.ensures.waiting c.rouse.ensures.areas c.rouse.ensures.first c.rouse.ensures.fits c.rouse.ensures.starts c.rouse.ensures.waiters)

pub returns-clause-up : goal.returns-clause-up
returns-clause-up c =
    let xs = c.args.awake.now.items in
    let s = c.args.seat.now in
    let a = c.index_mut.result.now in
    let within : s.core < length xs = slice_get_within xs s.core c.requires.there.core c.requires.there.core_is in
    let found = found_at xs s.core a within c.index_mut.ensures.value in
    let same : c.requires.there.core ≡ a = same_Some _ _ (sym c.requires.there.core_is ∙ found) in
    up_now (set xs s.core c.rouse.new.self) s a c.rouse.new.self (set_here xs s.core a c.rouse.new.self found) c.rouse.ensures.slots (subst (λ (x : AwakeState). s.slot < length x.slots) same c.requires.there.slot)
