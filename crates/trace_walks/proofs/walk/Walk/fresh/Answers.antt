use Rattle.std.proofs.Common.{ap, sym, subst, arith, length, length-append, [], ◌∷◌}
use Rattle.trace_walks.specs.Walking.{AreFresh}
use Rattle.trace_walks.proofs.Fresh.{one_more}
use Rattle.trace_walks.proofs.walk.Walk.fresh.Goals as goal

pub loop-preserved : goal.loop-preserved
loop-preserved c = record {
  counted = let long = length-append c.loop.walks.items (c.new-walk.result ∷ []) in omega (arith, ap length c.in_ok-push.ensures.items, long, c.loop.invariant.counted);
  fresh = subst AreFresh (sym c.in_ok-push.ensures.items) (one_more c.loop.walks.items c.new-walk.result c.loop.invariant.fresh c.new-walk.ensures);
}
