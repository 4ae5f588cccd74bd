use Rattle.trace_objects.proofs.unrest.Unrest.note.Goals as goal

pub returns : goal.returns
returns c = λ before objects led found among. record {
  starts = c.note_starts.ensures c.args.number before objects led found among.starts;
  phases = c.note_phase.ensures c.args.object.now objects among.phases;
}
