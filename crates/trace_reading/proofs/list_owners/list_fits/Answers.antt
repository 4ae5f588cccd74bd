use Rattle.std.proofs.Common.{◌∙◌, ◌==◌, ◌&&◌, false, not, if◌then◌else◌}
use Rattle.bus_laws.specs.Common.{CoherentList}
use Rattle.trace_reading.proofs.Lookups.{as_another_has, as_it_reads, looked_at, looked_past}
use Rattle.trace_reading.proofs.list_owners.list_fits.Goals as goal

pub returns-then-coherent-runnable : goal.returns-then-coherent-runnable
returns-then-coherent-runnable c =
    as_it_reads c.in-Some.coherent.now.runnable c.args.runnable c.in-Some.coherent.now.reads c.args.reads c.if-coherent-runnable.true
    ∙ looked_at (λ (l : CoherentList). (l.runnable == c.args.runnable) && (if c.args.reads then l.reads else not l.reads)) false c.items.result.now c.args.p.now.lists c.args.list c.in-Some.coherent.now c.items.ensures c.in-Some.ensures.lookup.3.0 c.in-Some.ensures.lookup.1

pub returns-else-coherent-runnable : goal.returns-else-coherent-runnable
returns-else-coherent-runnable c =
    as_another_has c.in-Some.coherent.now.runnable c.args.runnable (if c.args.reads then c.in-Some.coherent.now.reads else not c.in-Some.coherent.now.reads) c.if-coherent-runnable.false
    ∙ looked_at (λ (l : CoherentList). (l.runnable == c.args.runnable) && (if c.args.reads then l.reads else not l.reads)) false c.items.result.now c.args.p.now.lists c.args.list c.in-Some.coherent.now c.items.ensures c.in-Some.ensures.lookup.3.0 c.in-Some.ensures.lookup.1

pub returns-in-None : goal.returns-in-None
returns-in-None c =
    looked_past (λ (l : CoherentList). (l.runnable == c.args.runnable) && (if c.args.reads then l.reads else not l.reads)) false c.items.result.now c.args.p.now.lists c.args.list c.items.ensures c.in-None.ensures.lookup.3
