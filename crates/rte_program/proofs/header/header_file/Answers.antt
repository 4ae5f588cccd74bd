use Rattle.std.proofs.Common.{List, ℕ, subst, sym}
use Rattle.commands.specs.Commands.{header}
use Rattle.commands.specs.HeaderCommand.{IsHeaderFinding, SaysHeader}
use Rattle.commands.proofs.Judging as by
use Rattle.rte_program.proofs.header.header_file.Goals as goal

pub returns-in-Ok : goal.returns-in-Ok
returns-in-Ok g c = λ d.
    let says = subst (λ (t : List ℕ). SaysHeader c.args.description.now c.args.name.now t) (sym c.as_slice.ensures.value) c.in-Ok.ensures.made in
    by.listed d c.args.description.now c.args.name.now c.as_slice.result.now says c.put_text.result (g.K.Sink.told c.args.out.now) (g.K.Sink.told c.put_text.new.out)
    (g.K.Sink.faults c.args.out.now) (g.K.Sink.faults c.put_text.new.out) c.put_text.ensures

pub returns-in-Err : goal.returns-in-Err
returns-in-Err g c = λ d.
    by.stopped (header d c.args.name.now) _ (IsHeaderFinding c.args.description.now c.args.name.now) (λ found is. is) c.report.result _ _ _ _ c.in-Err.stop c.in-Err.ensures.stopped c.report.ensures
