use Rattle.std.proofs.Common.{◌≡◌, ℕ, ◌+◌, ◌-◌, List, bytes_eq, map, drop, length, unwrap_or, arith, ap, ◌∙◌}
use Rattle.indexmap.specs.IndexMap.{get_by}
use Rattle.declared_names.specs.Names.{position_in, text_of}
use Rattle.declared_names.proofs.Placed.{placed}
use Rattle.declared_names.proofs.names.places_of.Goals as goal

pub loop-left-preserved : goal.loop-left-preserved
loop-left-preserved c =
    let names = c.args.names.now in
    let back : c.loop-left.left ≡ (c.loop-left.left - 1) + 1 = omega arith in
    let before : (q : List ℕ) → unwrap_or (get_by (λ k. bytes_eq q k.now) c.loop-left.places) (length names) ≡ ((c.loop-left.left - 1) + 1) + position_in (map text_of (drop ((c.loop-left.left - 1) + 1) names)) q =
    λ q. c.loop-left.invariant.found q ∙ ap (λ n. n + position_in (map text_of (drop n names)) q) back in
    record {
      within = omega arith;
      found = placed names (c.loop-left.left - 1) _ c.loop-left.places c.insert.new.self (length names) (omega arith) c.in_ok-insert.ensures.updates before;
    }
