use Rattle.std.proofs.Common.{ℕ, add-one, ap, sym, get_or, take, ◌∙◌}
use Rattle.trace_counts.specs.declared.tally.Tally.{Tally}
use Rattle.trace_counts.specs.Tallies.{after, stepped}
use Rattle.trace_counts.proofs.Counting.{after_more}
use Rattle.trace_counts.proofs.tally.Tally.take.Goals as goal

pub loop-byte-preserved : goal.loop-byte-preserved
loop-byte-preserved c =
    let xs = c.args.piece.now in
    let i = c.loop-byte.byte-index in
    c.step.ensures ∙ ap (λ (t : Tally). stepped t (get_or xs i 0)) c.loop-byte.invariant ∙ sym (after_more c.args.self.now xs i c.loop-byte-test.true)
    ∙ ap (λ (n : ℕ). after c.args.self.now (take n xs)) (sym (add-one i))
