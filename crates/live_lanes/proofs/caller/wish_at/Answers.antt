use Rattle.live_lanes.proofs.Orders.{wish_is}
use Rattle.live_lanes.proofs.caller.wish_at.Goals as goal

pub returns : goal.returns
returns c = wish_is c.args.feeds.now c.args.feed c.args.number c.requires c.index.result.now c.index-2.result.now c.index.ensures c.index-2.ensures
