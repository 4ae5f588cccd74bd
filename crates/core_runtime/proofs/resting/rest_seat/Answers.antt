use Rattle.std.proofs.Common.{◌≡◌, ◌<◌, [], get_or, length, sym, ◌∙◌, subst, arith}
use Rattle.std.proofs.lemmas.Option.{same_Some, slice_get_within}
use Rattle.core_turn.specs.Awake.{AwakeState}
use Rattle.latches.proofs.Places.{found_at}
use Rattle.core_runtime.proofs.Asleep.{set_watched, set_waiting}
use Rattle.core_runtime.proofs.resting.rest_seat.Goals as goal

pub index_mut-requires : goal.index_mut-requires
index_mut-requires c =
    let within : c.args.seat.now.core < length c.args.awake.now.items = slice_get_within c.args.awake.now.items c.args.seat.now.core c.requires.there.core c.requires.there.core_is in
    omega (arith, within)

pub rest-requires : goal.rest-requires
rest-requires c =
    let xs = c.args.awake.now.items in
    let s = c.args.seat.now in
    let a = c.index_mut.result.now in
    let within : s.core < length xs = slice_get_within xs s.core c.requires.there.core c.requires.there.core_is in
    let same : c.requires.there.core ≡ a = same_Some _ _ (sym c.requires.there.core_is ∙ found_at xs s.core a within c.index_mut.ensures.value) in
    record { place = subst (λ (x : AwakeState). s.place < length (get_or x.events s.slot [])) same c.requires.there.place }

pub returns-clause-watched : goal.returns-clause-watched
returns-clause-watched c = λ p t objects cores over watched.
    let xs = c.args.awake.now.items in
    let s = c.args.seat.now in
    let a = c.index_mut.result.now in
    let within : s.core < length xs = slice_get_within xs s.core c.requires.there.core c.requires.there.core_is in
    set_watched p t objects cores xs s.core a c.rest.new.self (found_at xs s.core a within c.index_mut.ensures.value)
    c.rest.ensures.fits (λ k core_is held. c.rest.ensures.starts p t objects k.slots (over k core_is) held) watched

pub returns-clause-waiting : goal.returns-clause-waiting
returns-clause-waiting c = λ p t objects touched cores waiting.
    let xs = c.args.awake.now.items in
    let s = c.args.seat.now in
    let a = c.index_mut.result.now in
    let within : s.core < length xs = slice_get_within xs s.core c.requires.there.core c.requires.there.core_is in
    set_waiting p t objects cores xs s.core a c.rest.new.self (found_at xs s.core a within c.index_mut.ensures.value)
    touched c.rest.ensures.first (λ slots first held. c.rest.ensures.waiters p t objects touched slots first held) waiting
