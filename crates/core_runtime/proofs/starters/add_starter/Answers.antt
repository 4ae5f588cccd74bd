use Rattle.std.proofs.Common.{◌<◌, length, sym, arith}
use Rattle.bus_semantics.specs.Plan.{plan_of}
use Rattle.latches.proofs.Places.{found_at}
use Rattle.core_runtime.proofs.Starting.{starter_added}
use Rattle.core_runtime.proofs.starters.add_starter.Goals as goal

pub returns-in_ok-push : goal.returns-in_ok-push
returns-in_ok-push c =
    let lists = c.args.lists.now.items in
    let row = c.index_mut.result.now in
    let within : c.in-Some.runnable < length lists = omega (arith, c.if-runnable-len.true, c.len.ensures) in
    starter_added (plan_of c.args.p.now) c.args.event c.in-Some.runnable lists row c.push.new.self (sym c.in-Some.ensures) (found_at lists c.in-Some.runnable row within c.index_mut.ensures.value) c.in_ok-push.ensures.items
