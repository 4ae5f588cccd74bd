use Rattle.std.proofs.Common.{◌≡◌, ◌≤◌, length, sym, ◌∙◌, ap, subst, arith}
use Rattle.core_turn.specs.Cores.{CoreState}
use Rattle.core_turn.specs.Awake.{AwakeState, Fits}
use Rattle.core_turn.proofs.AllAwake.{begun, followed}
use Rattle.core_turn.proofs.awake.Awake.follow.Goals as goal

pub rouse_before-requires-clause-place : goal.rouse_before-requires-clause-place
rouse_before-requires-clause-place c =
    let below = begun c.args.c.now.slots c.requires.0 c.requires.1 c.args.self.now c.requires.2 c.requires.3 in
    let same : length c.c.inside.slots.items ≡ length c.args.c.now.slots = ap (λ (k : CoreState). length k.slots) c.c.view_is in
    omega (arith, c.c.invariant, same, below.count)

pub rouse_before-requires-clause-waiting : goal.rouse_before-requires-clause-waiting
rouse_before-requires-clause-waiting c =
    let below = begun c.args.c.now.slots c.requires.0 c.requires.1 c.args.self.now c.requires.2 c.requires.3 in
    below.waiting ∙ sym below.count

pub returns : goal.returns
returns c =
    let a : AwakeState = c.rouse_before.new.self in
    let fits = c.rouse_before.ensures c.requires.0 c.requires.1 c.requires.2 in
    let next = ap (λ (k : CoreState). k.first) c.c.view_is in
    subst (Fits c.args.c.now.slots c.args.c.now.first) (sym (ap (λ (x : AwakeState). record { slots = x.slots; events = x.events; waiting = x.waiting; areas = x.areas; first = c.c.inside.first }) c.self.view_is))
    (followed c.args.c.now.slots c.requires.0 c.requires.1 c.args.c.now.first c.c.inside.first a fits c.requires.3 next)
