use Rattle.std.proofs.Common.{◌∙◌, false}
use Rattle.bus_semantics.specs.Common.{same_number}
use Rattle.bus_laws.specs.Common.{ModePortPlan}
use Rattle.trace_reading.proofs.Lookups.{looked_at, looked_past}
use Rattle.trace_reading.proofs.owners.mode_port_fits.Goals as goal

pub returns-in-Some : goal.returns-in-Some
returns-in-Some c =
    c.same_number.ensures ∙ looked_at (λ (t : ModePortPlan). same_number t.instance c.args.home) false c.items.result.now c.args.p.now.mode_ports c.args.port c.in-Some.port.now c.items.ensures c.in-Some.ensures.lookup.3.0 c.in-Some.ensures.lookup.1

pub returns-in-None : goal.returns-in-None
returns-in-None c =
    looked_past _ false c.items.result.now c.args.p.now.mode_ports c.args.port c.items.ensures c.in-None.ensures.lookup.3
