use Rattle.std.proofs.Common.{◌≡◌, ◌≤◌, ◌<◌, subst, arith, length, get_or}
use Rattle.live_lanes.proofs.Orders.{feed_few}
use Rattle.live_lanes.proofs.feeding.feed.Goals as goal

pub overflow_cast-number : goal.overflow_cast-number
overflow_cast-number g c =
    let at = c.in-Some.ensures.lookup in
    let feed = c.feed-feed.result in
    let list = c.in-Some.wishes.now in
    let few : length list.items ≤ 65536 = feed_few c.args.ground.now.feeds.now feed list (subst (λ xs. feed < length xs) c.deref.ensures.value at.3.0) (subst (λ xs. list ≡ get_or xs feed list) c.deref.ensures.value at.1) c.requires.ground.wished.few in
    omega (arith, few)
