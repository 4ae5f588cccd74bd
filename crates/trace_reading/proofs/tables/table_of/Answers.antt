use Rattle.std.proofs.Common.{◌≡◌, ◌-◌, ap, ◌∙◌, drop, arith}
use Rattle.bus_semantics.specs.Common.{position_from, plan_of}
use Rattle.trace_reading.specs.Tables.{goes_by, labels}
use Rattle.trace_reading.proofs.Indexing.{all_noted, noted}
use Rattle.trace_reading.proofs.tables.table_of.Goals as goal

pub loop-left-preserved : goal.loop-left-preserved
loop-left-preserved c =
    let j = c.loop-left.left - 1 in
    record {
      within = omega arith;
      found = noted c.args.kind (plan_of c.args.p.now) j c.loop-left.left c.key_at.result c.loop-left.table c.note.new.table (omega arith) (omega arith) c.key_at.ensures c.in_ok-note.ensures c.loop-left.invariant.found;
    }

pub returns : goal.returns
returns c =
    let none : c.loop-left.left ≡ 0 = omega arith in
    let p = plan_of c.args.p.now in
    λ q. c.loop-left.invariant.found q
    ∙ ap (λ n. position_from (goes_by q.0 q.1.now) n (drop n (labels c.args.kind p))) none
    ∙ all_noted c.args.kind p q.0 q.1.now
