use Rattle.std.proofs.Common.{ℕ, ⊎_elim, sym, ap, subst}
use Rattle.std.proofs.lemmas.List.{take_all}
use Rattle.description_types.specs.Members.{Among}
use Rattle.composition_tables.proofs.Stepping.{one_more}
use Rattle.end_crossing.proofs.crossing.seconds_of.Goals as goal

pub loop-pair-preserved : goal.loop-pair-preserved
loop-pair-preserved c = λ k a. ⊎_elim (λ l. c.in_ok-note_interface.ensures.stays k.1 (c.loop-pair.invariant k l)) (λ e. subst (λ i. Among i c.note_interface.new.found.keys) (sym (ap (λ (p : ℕ × ℕ). p.1) e)) c.in_ok-note_interface.ensures.has)
    ((one_more c.args.pairs.now c.loop-pair.pair-index (0, 0) k c.loop-pair-test.true).0 a)

pub returns : goal.returns
returns c = λ k a. c.loop-pair.invariant k (subst (Among k) (sym (take_all c.loop-pair.pair-index c.args.pairs.now c.loop-pair-test.false)) a)
