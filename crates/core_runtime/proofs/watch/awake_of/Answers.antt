use Rattle.std.proofs.Common.{[], ◌∷◌, ◌++◌, sym, ◌∙◌, ap, subst, take, List, None}
use Rattle.std.proofs.lemmas.List.{take_more, take_all}
use Rattle.core_turn.specs.Awake.{AwakeState}
use Rattle.core_turn.specs.Cores.{CoreState}
use Rattle.core_runtime.specs.Watching.{AreWatched, AreWaiting}
use Rattle.core_runtime.proofs.Turned.{none_watched, none_waiting, one_watched, one_waiting}
use Rattle.core_runtime.proofs.watch.awake_of.Goals as goal

pub loop-core-init : goal.loop-core-init
loop-core-init c = λ p t objects. (none_watched p t objects c.new-awake.result.items c.new-awake.ensures.items, none_waiting p t objects c.new-awake.result.items)

pub loop-core-preserved : goal.loop-core-preserved
loop-core-preserved c = λ p t objects.
    let core = c.core-item.result in
    let a = c.in_ok-all.field-0 in
    let before = take c.loop-core.core-index c.args.cores.now in
    let more = take_more c.args.cores.now c.loop-core.core-index core c.loop-core-test.true ∙ ap (λ x. before ++ x ∷ []) (sym c.core-item.is) in
    let far = c.loop-core.invariant p t objects in
    let held = c.in_ok-all.ensures.held p t objects None a.first in (
      subst (λ cs. AreWatched p t objects cs c.push.new.self.items) (sym {A = List CoreState} more)
          (subst (AreWatched p t objects (before ++ core ∷ [])) (sym {A = List AwakeState} c.in_ok-push.ensures.items)
          (one_watched p t objects before c.loop-core.awake.items core a far.0 (record { fits = c.in_ok-all.ensures.fits; starts = held.starts }))),
      subst (λ cs. AreWaiting p t objects None cs c.push.new.self.items) (sym {A = List CoreState} more)
          (subst (AreWaiting p t objects None (before ++ core ∷ [])) (sym {A = List AwakeState} c.in_ok-push.ensures.items)
          (one_waiting p t objects before c.loop-core.awake.items core a far.0 held.waiters far.1)),
    )

pub returns : goal.returns
returns c = λ p t objects.
    let all = take_all c.loop-core.core-index c.args.cores.now c.loop-core-test.false in
    let far = c.loop-core.invariant p t objects in
    (subst (λ cs. AreWatched p t objects cs c.loop-core.awake.items) all far.0, subst (λ cs. AreWaiting p t objects None cs c.loop-core.awake.items) all far.1)
