use Rattle.std.proofs.Common.{◌≡◌, ◌<◌, ℕ, ◌++◌, map, rules}
use Rattle.bus_semantics.specs.Common.{plan_of, wanted_of}
use Rattle.feed_queue.specs.Gifts.{wishes_at}
use Rattle.feed_queue.specs.Heard.{heard_as}
use Rattle.feed_queue.specs.Reading.{given_to}
use Rattle.feed_queue.proofs.ReadingSteps.{has_read_next}
use Rattle.feed_queue.proofs.reading.read_by.Goals as goal

pub loop-rest-preserved : goal.loop-rest-preserved
loop-rest-preserved c =
    let given : (f : ℕ) → f < 4 → map wanted_of (wishes_at c.give.new.lists.items f) ≡ map wanted_of (wishes_at c.loop-rest.wishes.items f) ++ given_to f (heard_as c.hear-heard.result) = search rules in
    has_read_next (plan_of c.args.environment.now.plan.now) c.args.bytes.now c.loop-rest.wishes.items c.give.new.lists.items c.loop-rest.progress c.in-Ok-judge.more
    c.loop-rest.rest.now c.split_line.result.0.now c.split_line.result.1.now (heard_as c.hear-heard.result)
    c.loop-rest.invariant c.split_line.ensures.lines c.hear-heard.ensures c.in-Ok-judge.ensures.0 c.in-Ok-judge.ensures.1 c.give.ensures.four given
