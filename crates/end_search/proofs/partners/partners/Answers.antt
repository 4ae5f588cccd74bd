use Rattle.std.proofs.Common.{⊎_elim, sym, subst}
use Rattle.std.proofs.lemmas.List.{take_all}
use Rattle.description_types.specs.Members.{Among}
use Rattle.end_search.specs.Sharing.{SharesKey}
use Rattle.end_search.proofs.Keying.{taken_cases}
use Rattle.end_search.proofs.partners.partners.Goals as goal

pub loop-interface-init : goal.loop-interface-init
loop-interface-init c = λ others indexed i j a b s. absurd a

pub loop-interface-preserved : goal.loop-interface-preserved
loop-interface-preserved c = λ others indexed i j a b s. ⊎_elim (λ l. c.in_ok-note_shared.ensures.stays (i, j) (c.loop-interface.invariant others indexed i j l b s))
    (λ e. subst (λ z. Among (z, j) c.note_shared.new.pairs.keys) (sym e) (c.in_ok-note_shared.ensures.has others indexed j b (subst (λ z. SharesKey c.args.d.now z j) e s)))
    (taken_cases c.args.chosen.now c.loop-interface.interface-index 0 i c.loop-interface-test.true a)

pub returns : goal.returns
returns c = λ others indexed i j a b s. c.loop-interface.invariant others indexed i j (subst (Among i) (sym (take_all c.loop-interface.interface-index c.args.chosen.now c.loop-interface-test.false)) a) b s
