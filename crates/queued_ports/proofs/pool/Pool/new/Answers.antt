use Rattle.std.proofs.Common.{◌≡◌, ◌++◌, ◌∷◌, [], ◌∙◌, ap, length, arith}
use Rattle.std.specs.List.{range_with_len}
use Rattle.std.proofs.lemmas.List.{length-replicate}
use Rattle.std.proofs.lemmas.List.FromFn.{length-range_with_len}
use Rattle.queued_ports.proofs.Free.{all_free, all_empty, range_more}
use Rattle.queued_ports.proofs.pool.Pool.new.Goals as goal

pub push_reserved-requires : goal.push_reserved-requires
push_reserved-requires c =
    let free = c.loop-block.free in
    omega (arith, ap length c.loop-block.invariant.so_far, length-range_with_len 0 c.loop-block.block, free.ok, c.loop-block.invariant.capacity, c.in_ok-free.ensures.exact, c.loop-block-test.true)

pub loop-block-preserved : goal.loop-block-preserved
loop-block-preserved c = record {
  so_far = c.push_reserved.ensures.items ∙ ap (λ xs. xs ++ c.loop-block.block ∷ []) c.loop-block.invariant.so_far ∙ range_more c.loop-block.block;
  capacity = c.push_reserved.ensures.capacity ∙ c.loop-block.invariant.capacity;
}

pub invariant_of-result : goal.invariant_of-result
invariant_of-result c =
    let values = c.in_ok-values.values.items in
    let free = c.loop-block.free in
    let n = c.args.blocks in
    let at_end : c.loop-block.block ≡ n = omega (arith, c.loop-block-test.false, c.loop-block.auto.block-end) in
    let is = c.in_ok-values.ensures.items_if_clones_equal (λ y e. e) in
    all_free values free n (c.loop-block.invariant.so_far ∙ ap (range_with_len 0) at_end) (ap length is ∙ length-replicate n c.empty.result)
    (omega (arith, c.loop-block.invariant.capacity, c.in_ok-free.ensures.exact))

pub returns : goal.returns
returns c =
    let n = c.args.blocks in
    let at_end : c.loop-block.block ≡ n = omega (arith, c.loop-block-test.false, c.loop-block.auto.block-end) in
    let is = all_empty c.in_ok-values.values.items n c.empty.result c.empty.ensures (c.in_ok-values.ensures.items_if_clones_equal (λ y e. e)) in
    let free = c.loop-block.invariant.so_far ∙ ap (range_with_len 0) at_end in
    λ i. record { values = is i; free = free i }
