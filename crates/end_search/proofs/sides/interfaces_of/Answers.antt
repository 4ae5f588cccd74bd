use Rattle.std.proofs.Common.{⊎_elim, sym, ap, subst}
use Rattle.std.proofs.lemmas.List.{take_all}
use Rattle.composition_tables.specs.declared.tree.PortEnd.{PortEnd}
use Rattle.description_types.specs.Members.{Among}
use Rattle.composition_tables.proofs.Stepping.{one_more}
use Rattle.end_search.proofs.Lookups.{no_end}
use Rattle.end_search.proofs.sides.interfaces_of.Goals as goal

pub loop-end-preserved : goal.loop-end-preserved
loop-end-preserved c = λ x a. ⊎_elim (λ l. c.in_ok-note_interface.ensures.stays x.interface (c.loop-end.invariant x l)) (λ e. subst (λ i. Among i c.note_interface.new.interfaces.keys) (sym (ap (λ (y : PortEnd). y.interface) e)) c.in_ok-note_interface.ensures.has)
    ((one_more c.args.ends.now c.loop-end.end-index no_end x c.loop-end-test.true).0 a)

pub returns : goal.returns
returns c = λ x a. c.loop-end.invariant x (subst (Among x) (sym (take_all c.loop-end.end-index c.args.ends.now c.loop-end-test.false)) a)
