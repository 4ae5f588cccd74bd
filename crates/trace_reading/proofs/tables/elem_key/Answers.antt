use Rattle.std.proofs.Common.{◌∙◌, None}
use Rattle.bus_laws.specs.Common.{ElemPlan}
use Rattle.trace_reading.proofs.Lookups.{looked_at, looked_past, keyed, labelled}
use Rattle.trace_reading.proofs.tables.elem_key.Goals as goal

pub returns-in-Some : goal.returns-in-Some
returns-in-Some c =
    keyed c.place.ensures c.bytes.ensures
    ∙ looked_at (λ (t : ElemPlan). labelled t.instance t.name) None c.items.result.now c.args.p.now.elements c.args.at c.in-Some.elem.now c.items.ensures c.in-Some.ensures.lookup.3.0 c.in-Some.ensures.lookup.1

pub returns-in-None : goal.returns-in-None
returns-in-None c =
    looked_past _ None c.items.result.now c.args.p.now.elements c.args.at c.items.ensures c.in-None.ensures.lookup.3
