use Rattle.std.proofs.Common.{◌≡◌, suc, List, get_or, ◌-◌, ◌<◌, length, drop, arith, sym, ap, ◌∙◌}
use Rattle.bus_semantics.specs.Common.{lookup, Limits, kind_number, Access, is_to, found}
use Rattle.indexmap.specs.IndexMap.{get}
use Rattle.task_generator.specs.Found.{same_key, access_in}
use Rattle.task_generator.proofs.Finding.{none_behind, noted}
use Rattle.task_generator.proofs.accesses.found_of.Goals as goal

pub loop-left-init : goal.loop-left-init
loop-left-init c = record {
  accesses = omega (arith, c.min-left.ensures);
  numbers = omega (arith, c.min-left.ensures);
  found = λ k port item. ap (λ es. access_in (lookup (same_key (kind_number k, port, item)) es)) c.new-found.ensures.empty
      ∙ sym (none_behind (is_to k port item) c.args.accesses.now c.args.own.now c.min-left.result c.min-left.ensures);
}

pub loop-left-preserved : goal.loop-left-preserved
loop-left-preserved c =
    let xs = c.args.accesses.now in
    let ts = c.args.own.now in
    let n = c.loop-left.left - 1 in
    let some = c.loop-left-test.true in
    let back : c.loop-left.left ≡ suc n = omega (arith, some) in
    let xs_short : n < length xs = omega (arith, some, c.loop-left.invariant.accesses) in
    let ts_short : n < length ts = omega (arith, some, c.loop-left.invariant.numbers) in
    let made : List Limits → Access = λ ls. record { target = get_or ts n 0; ins = ls } in
    record {
      accesses = omega (arith, c.loop-left.invariant.accesses);
      numbers = omega (arith, c.loop-left.invariant.numbers);
      found = λ k port item. noted k port item xs ts n c.index-accesses-left.result _ _ (λ q. get same_key c.loop-left.found q) (λ q. get same_key c.insert.new.self q) c.key_of-key.result _
          xs_short ts_short c.key_of-key.ensures c.index-accesses-left.is (ap made c.items-ins.ensures) c.in_ok-insert.ensures.updates.0
          (c.loop-left.invariant.found k port item ∙ ap (λ m. found (is_to k port item) (drop m xs) (drop m ts)) back);
    }
