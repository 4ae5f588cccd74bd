use Rattle.std.proofs.Common.{◌≡◌, ◌<◌, [], get_or, length, sym, ◌∙◌, subst, arith, set}
use Rattle.std.proofs.lemmas.Option.{same_Some, slice_get_within}
use Rattle.port_objects.specs.Objects.{kept_of}
use Rattle.core_turn.specs.Awake.{AwakeState}
use Rattle.core_runtime.specs.Watching.{AreWoken, IsSeen}
use Rattle.latches.proofs.Places.{found_at, set_here}
use Rattle.core_runtime.proofs.Wakes.{woken_one, woken_same, awake_now, are_set, seen_awake, seen_held}
use Rattle.core_runtime.proofs.waking.wake_seat.Goals as goal
use Rattle.core_runtime.proofs.waking.wake_seat.Goals.{else-not-is_awake-via-then-not-is_awake+else-may_start, else-not-is_awake-via-else-not-is_awake}

pub index_mut-core-requires : goal.index_mut-core-requires
index_mut-core-requires c =
    let within : c.args.seat.now.core < length c.args.awake.now.items = slice_get_within c.args.awake.now.items c.args.seat.now.core c.requires.there.core c.requires.there.core_is in
    omega (arith, within)

pub is_awake-requires-clause-slot : goal.is_awake-requires-clause-slot
is_awake-requires-clause-slot c =
    let xs = c.args.awake.now.items in
    let s = c.args.seat.now in
    let a = c.index_mut-core.result.now in
    let within : s.core < length xs = slice_get_within xs s.core c.requires.there.core c.requires.there.core_is in
    let same : c.requires.there.core ≡ a = same_Some _ _ (sym c.requires.there.core_is ∙ found_at xs s.core a within c.index_mut-core.ensures.value) in
    subst (λ (x : AwakeState). s.slot < length x.slots) same c.requires.there.slot

pub is_awake-requires-clause-place : goal.is_awake-requires-clause-place
is_awake-requires-clause-place c =
    let xs = c.args.awake.now.items in
    let s = c.args.seat.now in
    let a = c.index_mut-core.result.now in
    let within : s.core < length xs = slice_get_within xs s.core c.requires.there.core c.requires.there.core_is in
    let same : c.requires.there.core ≡ a = same_Some _ _ (sym c.requires.there.core_is ∙ found_at xs s.core a within c.index_mut-core.ensures.value) in
    subst (λ (x : AwakeState). s.place < length (get_or x.events s.slot [])) same c.requires.there.place

pub wake-requires-clause-slot : goal.wake-requires-clause-slot
wake-requires-clause-slot c =
    let xs = c.args.awake.now.items in
    let s = c.args.seat.now in
    let a = c.index_mut-core.result.now in
    let within : s.core < length xs = slice_get_within xs s.core c.requires.there.core c.requires.there.core_is in
    let same : c.requires.there.core ≡ a = same_Some _ _ (sym c.requires.there.core_is ∙ found_at xs s.core a within c.index_mut-core.ensures.value) in
    subst (λ (x : AwakeState). s.slot < length x.slots) same c.requires.there.slot

pub wake-requires-clause-place : goal.wake-requires-clause-place
wake-requires-clause-place c =
    let xs = c.args.awake.now.items in
    let s = c.args.seat.now in
    let a = c.index_mut-core.result.now in
    let within : s.core < length xs = slice_get_within xs s.core c.requires.there.core c.requires.there.core_is in
    let same : c.requires.there.core ≡ a = same_Some _ _ (sym c.requires.there.core_is ∙ found_at xs s.core a within c.index_mut-core.ensures.value) in
    subst (λ (x : AwakeState). s.place < length (get_or x.events s.slot [])) same c.requires.there.place

pub wake-requires-clause-waiting : goal.wake-requires-clause-waiting
wake-requires-clause-waiting c =
    let xs = c.args.awake.now.items in
    let s = c.args.seat.now in
    let a = c.index_mut-core.result.now in
    let within : s.core < length xs = slice_get_within xs s.core c.requires.there.core c.requires.there.core_is in
    let same : c.requires.there.core ≡ a = same_Some _ _ (sym c.requires.there.core_is ∙ found_at xs s.core a within c.index_mut-core.ensures.value) in
    subst (λ (x : AwakeState). length x.waiting ≡ length x.slots) same c.requires.there.even.waiting

pub returns-then-may_start-clause-woken : goal.returns-then-may_start-clause-woken
returns-then-may_start-clause-woken c =
    let xs = c.args.awake.now.items in
    let s = c.args.seat.now in
    let a = c.index_mut-core.result.now in
    let within : s.core < length xs = slice_get_within xs s.core c.requires.there.core c.requires.there.core_is in
    are_set xs s.core a c.wake.new.self (found_at xs s.core a within c.index_mut-core.ensures.value)
    (woken_one a c.wake.new.self s.slot s.place c.wake.ensures.slots c.wake.ensures.events c.wake.ensures.waiting c.wake.ensures.areas c.wake.ensures.first c.wake.ensures.fits c.wake.ensures.starts c.wake.ensures.waiters)

pub returns-then-may_start-clause-seen : goal.returns-then-may_start-clause-seen
returns-then-may_start-clause-seen c =
    let xs = c.args.awake.now.items in
    let s = c.args.seat.now in
    let a = c.index_mut-core.result.now in
    let within : s.core < length xs = slice_get_within xs s.core c.requires.there.core c.requires.there.core_is in
    let found = found_at xs s.core a within c.index_mut-core.ensures.value in
    let same : c.requires.there.core ≡ a = same_Some _ _ (sym c.requires.there.core_is ∙ found) in
    seen_awake (kept_of c.args.object.now) (set xs s.core c.wake.new.self) c.args.event s c.wake.new.self (set_here xs s.core a c.wake.new.self found)
    (awake_now a c.wake.new.self s.slot s.place c.wake.ensures.slots c.wake.ensures.events (subst (λ (x : AwakeState). s.slot < length x.slots) same c.requires.there.slot)
    (subst (λ (x : AwakeState). s.place < length (get_or x.events s.slot [])) same c.requires.there.place))

pub returns-else-not-is_awake-clause-woken : goal.returns-else-not-is_awake-clause-woken
returns-else-not-is_awake-clause-woken c =
    let xs = c.args.awake.now.items in
    let s = c.args.seat.now in
    let a = c.index_mut-core.result.now in
    let within : s.core < length xs = slice_get_within xs s.core c.requires.there.core c.requires.there.core_is in
    let same = are_set xs s.core a a (found_at xs s.core a within c.index_mut-core.ensures.value) (woken_same a) in
    elim c.else-not-is_awake.branch [
      | else-not-is_awake-via-then-not-is_awake+else-may_start w ↦ subst (λ (v : _). AreWoken xs v.items) (sym w.awake-is) same
      | else-not-is_awake-via-else-not-is_awake w ↦ subst (λ (v : _). AreWoken xs v.items) (sym w.awake-is) same
    ]

pub returns-else-not-is_awake-clause-seen : goal.returns-else-not-is_awake-clause-seen
returns-else-not-is_awake-clause-seen c =
    let xs = c.args.awake.now.items in
    let s = c.args.seat.now in
    let a = c.index_mut-core.result.now in
    let within : s.core < length xs = slice_get_within xs s.core c.requires.there.core c.requires.there.core_is in
    let found = found_at xs s.core a within c.index_mut-core.ensures.value in
    elim c.else-not-is_awake.branch [
      | else-not-is_awake-via-then-not-is_awake+else-may_start w ↦ seen_held (kept_of c.args.object.now) c.else-not-is_awake.awake.items c.args.event s (sym w.may_start.ensures ∙ w.if-may_start.false)
      | else-not-is_awake-via-else-not-is_awake w ↦ subst (λ (v : _). IsSeen (kept_of c.args.object.now) v.items c.args.event s) (sym w.awake-is) (seen_awake (kept_of c.args.object.now) (set xs s.core a) c.args.event s a (set_here xs s.core a a found) (sym c.is_awake.ensures ∙ w.if-not-is_awake.false))
    ]
