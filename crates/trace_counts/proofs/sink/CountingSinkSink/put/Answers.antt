use Rattle.std.proofs.Common.{ap, sym, ◌∙◌}
use Rattle.trace_counts.specs.declared.tally.Tally.{Tally}
use Rattle.trace_counts.specs.Tallies.{after, nothing_told, tally_of}
use Rattle.trace_counts.proofs.Counting.{after-append}
use Rattle.trace_counts.proofs.sink.CountingSinkSink.put.Goals as goal

pub invariant_of-self : goal.invariant_of-self
invariant_of-self c =
    let before = c.args.self.now.told.bytes in
    let piece = c.args.piece.now in
    record {
      counted = c.take.ensures ∙ ap (λ (t : Tally). after t piece) c.args.self.now.counted ∙ sym (after-append nothing_told before piece) ∙ sym (ap tally_of c.note.ensures);
    }
