use Rattle.std.proofs.Common.{◌≡◌, ◌<◌, ◌≤◌, ◌++◌, true, arith, length, sym, ◌∙◌, ap}
use Rattle.server_objects.specs.Kept.{ServerState, awaiting, told_where}
use Rattle.server_objects.proofs.Whole.{few_awaiting, listed_there}
use Rattle.server_objects.proofs.server_object.ServerObject.tell_returns.Goals as goal

pub append_all-requires : goal.append_all-requires
append_all-requires c =
    let i = c.self.inside in
    let within : c.args.place < length i.by_point.items = omega (arith, c.requires.within, ap (λ (z : ServerState). length z.kept.points) c.self.view_is, c.self.invariant.lists_many) in
    let events : c.as_slice.result.now ≡ awaiting i.returns.items i.awaited.items c.args.place =
    c.as_slice.ensures.value ∙ listed_there i.by_point.items c.args.place c.index.result.now within c.index.ensures ∙ c.self.invariant.listed c.args.place in
    let few : length (awaiting i.returns.items i.awaited.items c.args.place) ≤ length i.returns.items = few_awaiting i.returns.items i.awaited.items c.args.place in
    let one : length i.woken.items ≤ 1 = omega (arith, c.requires.first, ap (λ (z : ServerState). length z.woken) c.self.view_is) in
    omega (arith, few, one, ap length events, c.self.invariant.room_for)

pub returns-then-not-was_due-clause-woken : goal.returns-then-not-was_due-clause-woken
returns-then-not-was_due-clause-woken c =
    let i = c.self.inside in
    let within : c.args.place < length i.by_point.items = omega (arith, c.requires.within, ap (λ (z : ServerState). length z.kept.points) c.self.view_is, c.self.invariant.lists_many) in
    let events : c.as_slice.result.now ≡ awaiting i.returns.items i.awaited.items c.args.place =
    c.as_slice.ensures.value ∙ listed_there i.by_point.items c.args.place c.index.result.now within c.index.ensures ∙ c.self.invariant.listed c.args.place in
    c.append_all.ensures.appended
    ∙ ap (λ es. i.woken.items ++ es) events
    ∙ ap (λ (z : ServerState). z.woken ++ awaiting z.kept.returns z.kept.awaited c.args.place) c.self.view_is
    ∙ ap (λ b. c.args.self.now.woken ++ told_where b true (awaiting c.args.self.now.kept.returns c.args.self.now.kept.awaited c.args.place)) (sym c.if-not-was_due.true)
