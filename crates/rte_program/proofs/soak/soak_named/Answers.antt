use Rattle.std.proofs.Common.{◌≡◌, List, ℕ, [], Some, ap, subst, ◌∙◌}
use Rattle.bus_semantics.specs.Plan.{plan_of}
use Rattle.trace_counts.specs.Tallies.{numbers_in}
use Rattle.rte_program.specs.Running.{PrintsRun}
use Rattle.commands.specs.SoakCommand.{summary_text}
use Rattle.rte_program.proofs.Soaks as by
use Rattle.rte_program.proofs.soak.soak_named.Goals as goal

pub returns-in-Done : goal.returns-in-Done
returns-in-Done g c =
    let n = c.args.pairs in
    let x = c.in-Ok.prepared in
    let told = c.run_prepared.new.out.told.bytes in
    let text : c.bytes.result.now ≡ summary_text n (numbers_in told) = c.bytes.ensures.bytes ∙ c.write_summary.ensures ∙ ap (summary_text n) c.numbers.ensures in
    let printed : PrintsRun (plan_of x.found.plan) x.found.mapping x.script.lines (Some []) (Some told) =
    subst (λ (b : List ℕ). PrintsRun (plan_of x.found.plan) x.found.mapping x.script.lines (Some b) (Some told)) c.new-counting.ensures
    (by.was_done (plan_of x.found.plan) x.found.mapping x.script.lines (Some c.new-counting.result.told.bytes) (Some told) 0 0 c.in-Done.ensures) in
    by.counted c.texts_have_the_numbers_of_their_session.ensures n x.found x.script.lines c.in-Ok.ensures.ready told c.bytes.result.now printed text
    c.put_text.result (g.K.Sink.told c.args.out.now) (g.K.Sink.told c.put_text.new.out) (g.K.Sink.faults c.args.out.now) (g.K.Sink.faults c.put_text.new.out) c.put_text.ensures
