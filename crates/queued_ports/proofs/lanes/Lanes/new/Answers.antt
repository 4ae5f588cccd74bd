use Rattle.std.proofs.Common.{sym, ◌∙◌, ap, subst, map}
use Rattle.queued_ports.specs.KeptBlocks as pool
use Rattle.queued_ports.specs.Laid.{AreLaid, queue_of}
use Rattle.queued_ports.proofs.Made.{empty_queues, made_laid}
use Rattle.queued_ports.proofs.lanes.Lanes.new.Goals as goal

pub invariant_of-result : goal.invariant_of-result
invariant_of-result c =
    let words = c.args.words in
    subst (λ k. AreLaid words k c.in_ok-lanes.lanes.items) (sym c.in_ok-pool.ensures)
    (subst (AreLaid words (pool.fresh c.block_count.result)) (sym c.in_ok-lanes.ensures) (made_laid words c.block_count.result c.args.lengths.now c.block_count.ensures))

pub returns : goal.returns
returns c =
    let queues = ap (map (queue_of c.in_ok-pool.pool.values)) c.in_ok-lanes.ensures ∙ empty_queues c.in_ok-pool.pool.values c.args.lengths.now in
    λ i. record { words = c.args.words; queues = queues i }
