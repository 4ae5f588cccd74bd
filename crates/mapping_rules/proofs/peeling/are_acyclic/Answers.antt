use Rattle.std.proofs.Common.{◌≡◌, ◌==◌, ◌∙◌, length, ap, arith}
use Rattle.mapping_rules.proofs.Circles.{ranks_left, within_left, no_longer, decided}
use Rattle.mapping_rules.proofs.peeling.are_acyclic.Goals as goal

pub loop-left-init : goal.loop-left-init
loop-left-init c = record { ranks = λ r. r; within = λ e h. h }

pub loop-left-preserved : goal.loop-left-preserved
loop-left-preserved c = record {
  ranks = ranks_left c.args.edges.items c.loop-left.left.items c.in_ok-kept.kept.items c.as_slice.result.now c.as_slice.ensures.value c.in_ok-kept.ensures c.loop-left.invariant.ranks;
  within = within_left c.args.edges.items c.loop-left.left.items c.in_ok-kept.kept.items c.as_slice.result.now c.as_slice.ensures.value c.in_ok-kept.ensures c.loop-left.invariant.within;
}

pub loop-left-smaller : goal.loop-left-smaller
loop-left-smaller c = let most = no_longer c.args.edges.items c.loop-left.left.items c.in_ok-kept.kept.items c.as_slice.result.now c.as_slice.ensures.value c.in_ok-kept.ensures in omega arith

pub returns-then-len : goal.returns-then-len
returns-then-len c =
    let same : c.loop-left.left.len ≡ length c.loop-left.left.items = omega arith in
    decided c.args.edges.items c.loop-left.left.items c.in_ok-kept.kept.items c.as_slice.result.now c.as_slice.ensures.value c.in_ok-kept.ensures
    c.is_empty.result c.loop-left.invariant.ranks c.loop-left.invariant.within (omega arith) (c.is_empty.ensures ∙ ap (λ n. n == 0) same)
