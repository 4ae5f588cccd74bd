use Rattle.std.proofs.Common.{◌≡◌, sym, ap, subst, length, ◌+◌, ◌∙◌, add-one, arith}
use Rattle.std.proofs.lemmas.List.{length_push}
use Rattle.composition_tables.specs.Counts.{AreCounts}
use Rattle.composition_tables.proofs.Counting.{levels_more}
use Rattle.composition_tables.proofs.counts.count_levels.Goals as goal

pub loop-preserved : goal.loop-preserved
loop-preserved c = record {
  as_many = ap length c.in_ok-push.ensures.items ∙ length_push c.loop.levels.items c.loop.counts ∙ ap (λ n. n + 1) c.loop.invariant.as_many;
  last = subst (λ n. AreCounts c.args.d.now n c.in_ok-deeper.deeper.items) (sym (add-one c.loop.counter))
      (c.in_ok-deeper.ensures c.loop.counter (subst (AreCounts c.args.d.now c.loop.counter) (sym c.as_slice.ensures.value) c.loop.invariant.last));
  earlier = levels_more c.args.d.now c.loop.levels.items c.push.new.self.items c.loop.counts c.loop.counter c.in_ok-push.ensures.items c.loop.invariant.as_many c.loop.invariant.last c.loop.invariant.earlier;
}

pub returns : goal.returns
returns c =
    let eight : c.loop.counter ≡ 8 = omega arith in (
      ap length c.in_ok-push-2.ensures.items ∙ length_push c.loop.levels.items c.loop.counts ∙ ap (λ n. n + 1) (c.loop.invariant.as_many ∙ eight),
      levels_more c.args.d.now c.loop.levels.items c.push-2.new.self.items c.loop.counts c.loop.counter c.in_ok-push-2.ensures.items c.loop.invariant.as_many c.loop.invariant.last c.loop.invariant.earlier,
    )
