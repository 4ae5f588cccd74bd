use Rattle.std.proofs.Common.{refl, sym, ◌∙◌}
use Rattle.bus_semantics.specs.Common.{bytes_eq-Decides, plan_of, idle, run_begins, unsettled, closing_text, item_text}
use Rattle.trace_reading.proofs.Judging.{differ, no_item}
use Rattle.trace_reading.proofs.reading.read_by.Goals as goal

pub returns-then-eq : goal.returns-then-eq
returns-then-eq c = record {
  fit = refl;
  text = (bytes_eq-Decides c.args.line.now c.run_line.result.now).0 (sym c.eq.ensures ∙ c.if-eq.true) ∙ c.run_line.ensures c.args.v (plan_of c.args.names.now.plan.now);
}

pub returns-in-None : goal.returns-in-None
returns-in-None c =
    let p = plan_of c.args.names.now.plan.now in
    let line = c.args.line.now in
    no_item c.args.v p line c.in-None.ensures
    (differ line c.run_line.result.now (item_text c.args.v p run_begins) (sym c.eq.ensures ∙ c.if-eq.false) (c.run_line.ensures c.args.v p))
    (differ line c.idle_line.result.now (closing_text idle) (sym c.eq-2.ensures ∙ c.if-eq-2.false) c.idle_line.ensures)
    (differ line c.unsettled_line.result.now (closing_text unsettled) (sym c.eq-3.ensures ∙ c.if-eq-3.false) c.unsettled_line.ensures)
