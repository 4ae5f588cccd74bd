use Rattle.std.proofs.Common.{◌≡◌, ◌+◌, ◌-◌, ◌<◌, Some, nat_eq, if◌then◌else◌, drop, get_or, length, refl, sym, ap, ◌∙◌, arith}
use Rattle.std.specs.Prelude.{◌==◌}
use Rattle.bus_semantics.specs.Common.{list_any, lookup, plan_of, list_with}
use Rattle.indexmap.specs.IndexMap.{get}
use Rattle.implicit_buffers.proofs.Listing.{list_more, no_more}
use Rattle.implicit_buffers.proofs.fetchings.lists_by_element.Goals as goal

pub loop-left-init : goal.loop-left-init
loop-left-init c =
    let ls = c.args.numbers.now in
    record {
      within = omega arith;
      found = λ x. ap (λ es. lookup (nat_eq x) es) c.new-lists.ensures.empty ∙ sym (no_more (plan_of c.args.p.now) ls (length ls) x (omega arith));
    }

pub loop-left-preserved : goal.loop-left-preserved
loop-left-preserved c =
    let p = plan_of c.args.p.now in
    let ls = c.args.numbers.now in
    let n = c.loop-left.left - 1 in
    let back : c.loop-left.left ≡ n + 1 = omega (arith, c.loop-left-test.true) in
    let below : n < length ls = omega (arith, c.loop-left-test.true, c.loop-left.invariant.within) in
    record {
      within = omega (arith, c.loop-left.invariant.within);
      found = λ x. list_more p ls n 0 (get_or ls n 0) x _ _ below refl
          (c.in_ok-note_list.ensures x ∙ ap (λ xs. if list_any (λ y. y == x) xs then Some (get_or ls n 0) else get nat_eq c.loop-left.lists x) c.elems_of.ensures)
          (c.loop-left.invariant.found x ∙ ap (λ m. list_with p (drop m ls) x) back);
    }
