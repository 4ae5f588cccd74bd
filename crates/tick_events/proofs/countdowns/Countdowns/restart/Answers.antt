use Rattle.std.proofs.Common.{◌≡◌, sym, ◌∙◌, ap, subst, set, length-set, Some}
use Rattle.std.specs.List.{slice_get}
use Rattle.std.proofs.lemmas.List.{map-set}
use Rattle.tick_events.specs.Countdowns.{whole, seen, all_seen}
use Rattle.tick_events.proofs.Seen.{seen_period}
use Rattle.tick_events.proofs.Tree.{changed, left_set_other}
use Rattle.tick_events.proofs.countdowns.Countdowns.restart.Goals as goal

pub settle_above-requires-clause-tree : goal.settle_above-requires-clause-tree
settle_above-requires-clause-tree c =
    let items = c.self.inside.countdowns.items in
    let now = c.self.inside.ticks in
    let is = map-set (seen now) items c.args.at c.restart.new.self in
    rw (c.deref.ensures.value, c.deref_mut.ensures.value, is) (changed (all_seen now items) (set (all_seen now items) c.args.at (seen now c.restart.new.self)) c.self.inside.best.items c.args.at c.self.invariant
    (length-set _ _ _)
    (λ other apart. left_set_other (all_seen now items) c.args.at (seen now c.restart.new.self) other apart))

pub returns : goal.returns
returns c = λ c' found.
    let items = c.self.inside.countdowns.items in
    let now = c.self.inside.ticks in
    let found' : slice_get (all_seen now items) c.args.at ≡ Some c' = subst (λ cs. slice_get cs c.args.at ≡ Some c') (sym c.self.view_is) found in
    let period = seen_period now items c.args.at c.index_mut.result.now c' found' in
    map-set (seen now) items c.args.at c.restart.new.self
    ∙ ap (set (all_seen now items) c.args.at) (c.restart.ensures ∙ ap (λ x. whole x.period) c.index_mut.ensures.value ∙ ap whole period)
    ∙ ap (λ cs. set cs c.args.at (whole c'.period)) c.self.view_is
