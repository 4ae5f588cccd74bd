use Rattle.std.proofs.Common.{sym, ◌∙◌, subst}
use Rattle.bus_semantics.specs.Plan.{plan_of}
use Rattle.trace_objects.specs.Resting.{Starts}
use Rattle.trace_objects.proofs.Quiet.{start_awake}
use Rattle.trace_objects.proofs.resting.mapped_start_comes.Goals as goal

pub returns-then-is_mapped-clause-awake : goal.returns-then-is_mapped-clause-awake
returns-then-is_mapped-clause-awake c = λ yes m h paused.
    let p = plan_of c.args.p.now in
    let e = c.args.event in
    start_awake p m h c.args.objects.now.items paused (λ k running. c.running_activations_go_on.ensures p m h k paused.sound paused.legal running) e c.requires.there
    (sym c.is_mapped.ensures ∙ c.if-is_mapped.true) (subst (Starts p h e) yes (c.start_comes.ensures.starts m h paused))
